-- Several cells of a block at once.
use Rattle.std.proofs.Common.{inl, inr, ◌≡◌, ◌∙◌, refl, sym, ap, subst, ℕ, ◌+◌, ◌-◌, ◌<◌, ◌≤◌, Bool, true, false, List, length, take, drop, Option, Some, None, Ok, Err, arith}
use Rattle.std.specs.Prelude.{cond, nat_le}
use Rattle.std.specs.Option.{option_map, option_and_then}
use Rattle.std.specs.Result.{result_ok}
use Rattle.std.specs.Slice.{IsGetRangeResult}
use Rattle.std.specs.Borrow.{Bor}
use Rattle.std.proofs.lemmas.List.{take_all, length-drop}
use Rattle.std.proofs.lemmas.Bool.Decides.{leb_tells}
use Rattle.vg_base.specs.declared.event.UndefKind.TheVariants as undef
use Rattle.c_meaning.specs.declared.cell.Cell.{Cell}
use Rattle.c_meaning.specs.State.{Block}
use Rattle.c_meaning.specs.Blocks as meaning
use Rattle.c_meaning.specs.Blocks.{Answer, block_of}
use Rattle.cell_heap.specs.Runs.{part, RunsAreFound}
use Rattle.cell_heap.proofs.StateLaws.{blocks_found}

abbrev Chosen : ℕ → ℕ → List Cell → Option (List Cell) → Bool → Type 0
Chosen at n cells o b = o ≡ cond b (Some (take n (drop at cells))) None

too_long : (cells : List Cell) (at n : ℕ) → length cells < at + n → None ≡ part at n cells
too_long cells at n lt =
    elim (leb_tells (at + n) (length cells)) [
      | inl fits ↦ absurd (let le : at + n ≤ length cells = fits.1 in omega arith)
      | inr long ↦ subst (Chosen at n cells None) (sym long.0) refl
    ]

within : (cells run : List Cell) (at n : ℕ) → at + n ≤ length cells → run ≡ take n (drop at cells) → Some run ≡ part at n cells
within cells run at n le is =
    elim (leb_tells (at + n) (length cells)) [
      | inl fits ↦ subst (Chosen at n cells (Some run)) (sym fits.0) (ap (λ xs. Some xs) is)
      | inr long ↦ absurd (let lt : length cells < at + n = long.1 in omega arith)
    ]

-- where the place is past the end
pub part_past : (cells : List Cell) (at n : ℕ) → length cells < at → None ≡ part at n cells
part_past cells at n past = too_long cells at n (omega arith)

-- the first cells of those that stand from a place on
pub part_is : (cells rest : List Cell) (at n : ℕ) (r : Option (Bor (List Cell))) → at ≤ length cells → rest ≡ take (length cells - at) (drop at cells) → IsGetRangeResult rest 0 n r
    → option_map (λ x. x.now) r ≡ part at n cells
part_is cells rest at n r inside is gives = by_result r gives
  where
    long : length (drop at cells) ≡ length cells - at
    long = length-drop at cells

    all : rest ≡ drop at cells
    all = is ∙ take_all (length cells - at) (drop at cells) (omega (arith, long))

    size : length rest ≡ length cells - at
    size = ap length all ∙ long

    whole : (k : ℕ) → k - 0 ≡ k
    whole k = omega arith

    by_result : (x : Option (Bor (List Cell))) → IsGetRangeResult rest 0 n x → option_map (λ y. y.now) x ≡ part at n cells
    by_result None got = too_long cells at n (elim got.0 [ inl below ↦ absurd (omega arith) | inr past ↦ (let lt : length rest < n = past in omega (arith, size)) ])
    by_result (Some x) got =
        within cells x.now at n (let le : n ≤ length rest = got.0.1 in omega (arith, size)) (got.0.2 ∙ ap (λ k. take k rest) (whole n) ∙ ap (λ xs. take n xs) all)

cells_by : (r : Answer Block) (at n : ℕ) → option_and_then (part at n) (option_map (λ b. b.cells) (result_ok r))
    ≡ result_ok (meaning.bind r (λ b. cond (nat_le (at + n) (length b.cells)) (let a : Answer (List Cell) = Ok (take n (drop at b.cells)) in a) (Err undef.Outside)))
cells_by (Err u) at n = refl
cells_by (Ok b) at n =
    elim (nat_le (at + n) (length b.cells)) as (λ fits. cond fits (Some (take n (drop at b.cells))) None ≡ result_ok (cond fits (let a : Answer (List Cell) = Ok (take n (drop at b.cells)) in a) (Err undef.Outside)))
    [ true ↦ refl | false ↦ refl ]

pub runs_found : RunsAreFound
runs_found s p n = ap (option_and_then (part p.at n)) (blocks_found s p.block) ∙ cells_by (block_of s p.block) p.at n
