-- Cells that are stored from a place of a block on.
use Rattle.std.proofs.Common.{inl, inr, ◌≡◌, ◌∙◌, refl, sym, ap, subst, ℕ, zero, suc, ◌+◌, ◌-◌, ◌<◌, ◌≤◌, Bool, true, false, List, [], ◌∷◌, ◌++◌, length, take, drop, Option, Some, None, Ok, Err, arith, set}
use Rattle.std.specs.Prelude.{cond, nat_le, slice_get, is_some}
use Rattle.std.specs.Option.{option_map, option_and_then}
use Rattle.std.specs.Result.{result_ok}
use Rattle.std.proofs.lemmas.List.{length-append, length-take, length-drop, append-nil, append_assoc, take-append-drop}
use Rattle.std.proofs.Math.Seq.{set-append_seam}
use Rattle.std.proofs.lemmas.Bool.Decides.{leb_tells}
use Rattle.vg_base.specs.declared.event.UndefKind.TheVariants as undef
use Rattle.c_meaning.specs.declared.cell.Cell.{Cell}
use Rattle.c_meaning.specs.State
use Rattle.c_meaning.specs.State.{Block, Place}
use Rattle.c_meaning.specs.Blocks as meaning
use Rattle.c_meaning.specs.Blocks.{Answer, block_of, block_at, over, on, undefined}
use Rattle.cell_heap.specs.Heap.{with_block}
use Rattle.cell_heap.specs.States.{heap_of}
use Rattle.cell_heap.specs.Runs.{part, cells_at, written, with_run, run_stored, RunsAreStored}
use Rattle.cell_heap.proofs.StateLaws.{blocks_found, map-with_block, seen_cells, live_is, with_found}
use Rattle.cell_heap.proofs.Stored.{listed, cells_there, put_there}

-- 1. In one block

-- where there is no room nothing is written, and where there is the run is written
pub no_room : (cells new : List Cell) (at : ℕ) → length cells < at + length new → (false ≡ is_some (part at (length new) cells)) × (cells ≡ written at new cells)
no_room cells new at lt =
    elim (leb_tells (at + length new) (length cells)) [
      | inl fits ↦ absurd (let le : at + length new ≤ length cells = fits.1 in omega arith)
      | inr long ↦ (
        (let P : Bool → Type 0 = λ b. false ≡ is_some (cond b (Some (take (length new) (drop at cells))) None) in subst P (sym long.0) refl),
        (let Q : Bool → Type 0 = λ b. cells ≡ cond b (over cells at new) cells in subst Q (sym long.0) refl),
      )
    ]

pub has_room : (cells new : List Cell) (at : ℕ) → at + length new ≤ length cells → (true ≡ is_some (part at (length new) cells)) × (over cells at new ≡ written at new cells)
has_room cells new at le =
    elim (leb_tells (at + length new) (length cells)) [
      | inl fits ↦ (
        (let P : Bool → Type 0 = λ b. true ≡ is_some (cond b (Some (take (length new) (drop at cells))) None) in subst P (sym fits.0) refl),
        (let Q : Bool → Type 0 = λ b. over cells at new ≡ cond b (over cells at new) cells in subst Q (sym fits.0) refl),
      )
      | inr long ↦ absurd (let lt : length cells < at + length new = long.1 in omega arith)
    ]

length-over : (cells new : List Cell) (at : ℕ) → at + length new ≤ length cells → length (over cells at new) ≡ length cells
length-over cells new at le =
    let all = length-append (take at cells ++ new) (drop (at + length new) cells) in
    let front = length-append (take at cells) new in
    let first = length-take at cells in
    let rest = length-drop (at + length new) cells in
    omega arith

pub length-written : (cells new : List Cell) (at : ℕ) → length (written at new cells) ≡ length cells
length-written cells new at =
    elim (leb_tells (at + length new) (length cells)) [
      | inl fits ↦ ap length (sym (has_room cells new at fits.1).1) ∙ length-over cells new at fits.1
      | inr long ↦ ap length (sym (no_room cells new at long.1).1)
    ]

-- nothing is written at first
pub over_none : (cells : List Cell) (at : ℕ) → cells ≡ over cells at []
over_none cells at =
    let same : at + length {A = Cell} [] ≡ at = omega arith in
    sym (ap (λ n. (take at cells ++ []) ++ drop n cells) same ∙ ap (λ xs. xs ++ drop at cells) (append-nil (take at cells)) ∙ take-append-drop at cells)

cut : (cells : List Cell) (n : ℕ) → n < length cells → (x : Cell) × (drop n cells ≡ x ∷ drop (n + 1) cells)
cut [] n lt = absurd (omega arith)
cut (x ∷ cells) zero lt = (x, refl)
cut (x ∷ cells) (suc n) lt =
    let more = cut cells n (omega arith) in
    let same : suc (n + 1) ≡ suc n + 1 = omega arith in
    (more.0, more.1 ∙ ap (λ k. more.0 ∷ drop k (x ∷ cells)) same)

-- one more cell is written
pub over_more : (cells new : List Cell) (at k : ℕ) (c : Cell) → at + length new ≤ length cells → k < length new → take (k + 1) new ≡ take k new ++ c ∷ []
    → set (over cells at (take k new)) (at + k) c ≡ over cells at (take (k + 1) new)
over_more cells new at k c room lt more =
    let long : length (take k new) ≡ k = omega (arith, length-take k new) in
    let longer : length (take (k + 1) new) ≡ k + 1 = omega (arith, length-take (k + 1) new) in
    let front : length (take at cells ++ take k new) ≡ at + k = omega (arith, length-append (take at cells) (take k new), length-take at cells) in
    let rest = cut cells (at + k) (omega arith) in
    let seam = set-append_seam (take at cells ++ take k new) rest.0 (drop (at + k + 1) cells) c in
    ap (λ n. set ((take at cells ++ take k new) ++ drop (at + n) cells) (at + k) c) long
    ∙ ap (λ xs. set ((take at cells ++ take k new) ++ xs) (at + k) c) rest.1
    ∙ ap (λ n. set ((take at cells ++ take k new) ++ rest.0 ∷ drop (at + k + 1) cells) n c) (sym front) ∙ seam
    ∙ sym (append_assoc (take at cells ++ take k new) (c ∷ []) (drop (at + k + 1) cells))
    ∙ ap (λ xs. xs ++ drop (at + k + 1) cells) (append_assoc (take at cells) (take k new) (c ∷ []) ∙ ap (λ xs. take at cells ++ xs) (sym more))
    ∙ ap (λ n. (take at cells ++ take (k + 1) new) ++ drop n cells) (let same : at + k + 1 ≡ at + length (take (k + 1) new) = omega arith in same)

-- where the run is not there nothing is written
pub no_run : (cells new : List Cell) (at : ℕ) → is_some (part at (length new) cells) ≡ false → cells ≡ written at new cells
no_run cells new at none =
    elim (leb_tells (at + length new) (length cells)) [
      | inl fits ↦ absurd (let some = (has_room cells new at fits.1).0 in cc)
      | inr long ↦ (no_room cells new at long.1).1
    ]

-- 2. In a run

put_run : (s : State.State) (n at : ℕ) (new : List Cell) (b : Block) (fits : Bool) → block_of s n ≡ Ok b
    → heap_of (cond fits (record s { blocks = meaning.with_block s.blocks n (record b { cells = over b.cells at new }) }) (undefined s undef.Outside))
    ≡ with_block (heap_of s) n (Some (cond fits (over b.cells at new) b.cells))
put_run s n at new b true is =
    map-with_block s.blocks n (record b { cells = over b.cells at new }) ∙ ap (with_block (heap_of s) n) (seen_cells b (over b.cells at new) (live_is (block_at s.blocks n) b is))
put_run s n at new b false is =
    sym (with_found (heap_of s) n b.cells (blocks_found s n ∙ ap (λ r. option_map (λ x. x.cells) (result_ok r)) is))

runs_by : (s : State.State) (n at : ℕ) (new : List Cell) (r : Answer Block) → block_of s n ≡ r
    → heap_of (on s r (λ b. cond (nat_le (at + length new) (length b.cells)) (record s { blocks = meaning.with_block s.blocks n (record b { cells = over b.cells at new }) }) (undefined s undef.Outside)))
    ≡ with_run (heap_of s) n at new (option_map (λ b. b.cells) (result_ok r))
runs_by s n at new (Err u) is = refl
runs_by s n at new (Ok b) is = put_run s n at new b (nat_le (at + length new) (length b.cells)) is

pub runs_stored : RunsAreStored
runs_stored s p new = runs_by s p.block p.at new (block_of s p.block) refl ∙ ap (with_run (heap_of s) p.block p.at new) (sym (blocks_found s p.block))

-- 3. In the stored blocks

module _ {V : Type 0} (items : V → List Cell) where
  pub run_there : (bs : List (Option V)) (n i : ℕ) (v w : V) (at : ℕ) (new : List Cell) → 1 ≤ n → i ≡ n - 1 → slice_get bs i ≡ Some (Some v) → items w ≡ written at new (items v)
      → listed items (set bs i (Some w)) ≡ run_stored (listed items bs) n at new
  run_there bs n i v w at new one is there now =
      put_there items bs n i (Some w) one is ∙ ap (λ cells. with_block (listed items bs) n (Some cells)) now
      ∙ ap (with_run (listed items bs) n at new) (sym (cells_there items bs n i (Some v) one is there))

  pub run_found : (bs : List (Option V)) (n i : ℕ) (v : V) (at k : ℕ) → 1 ≤ n → i ≡ n - 1 → slice_get bs i ≡ Some (Some v) → cells_at (listed items bs) n at k ≡ part at k (items v)
  run_found bs n i v at k one is there = ap (option_and_then (part at k)) (cells_there items bs n i (Some v) one is there)

  pub run_nowhere : (bs : List (Option V)) (n i : ℕ) (v w : V) (at : ℕ) (new : List Cell) → 1 ≤ n → i ≡ n - 1 → slice_get bs i ≡ Some (Some v) → items w ≡ written at new (items v)
      → is_some (part at (length new) (items v)) ≡ false → listed items (set bs i (Some w)) ≡ listed items bs
  run_nowhere bs n i v w at new one is there now none =
      put_there items bs n i (Some w) one is ∙ ap (λ cells. with_block (listed items bs) n (Some cells)) (now ∙ sym (no_run (items v) new at none))
      ∙ with_found (listed items bs) n (items v) (cells_there items bs n i (Some v) one is there)
