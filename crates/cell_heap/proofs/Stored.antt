-- The blocks as they are stored, each a value that holds cells, and the heap that a clause sees.
use Rattle.std.proofs.Common.{◌≡◌, ◌∙◌, refl, sym, ap, ℕ, zero, suc, ◌+◌, ◌-◌, ◌≤◌, false, List, [], ◌∷◌, ◌++◌, length, map, Option, Some, None, arith, set}
use Rattle.std.specs.Prelude.{slice_get, is_some}
use Rattle.std.specs.Option.{option_map, option_and_then, option_copied}
use Rattle.std.specs.Borrow.{Bor}
use Rattle.std.proofs.lemmas.List.{map-set, map-append}
use Rattle.std.proofs.lemmas.Option.{slice_get-map}
use Rattle.c_meaning.specs.declared.cell.Cell.{Cell}
use Rattle.cell_heap.specs.Heap.{joined, cells_of, cell_at, with_block, with_cell, stored}
use Rattle.cell_heap.specs.Sizes.{class_cells, held}
use Rattle.cell_heap.proofs.Sizes.{held-push, held-set}
use Rattle.cell_heap.proofs.StateLaws.{with_found}

-- where there is no such place a store changes nothing
no_place : (cells : List Cell) (at : ℕ) (c : Cell) → is_some (slice_get cells at) ≡ false → set cells at c ≡ cells
no_place [] at c is = refl
no_place (x ∷ cells) zero c is = cc
no_place (x ∷ cells) (suc at) c is = ap (λ ys. x ∷ ys) (no_place cells at c is)

pub copied : {V : Type 0} (items : V → List Cell) (r : Option (Bor V)) (o : Option V) → option_copied r ≡ o → option_map (λ x. items x.now) r ≡ option_map items o
copied items None o is = ap (option_map items) is
copied items (Some x) o is = ap (option_map items) is

module _ {V : Type 0} (items : V → List Cell) where
  -- what a clause sees of the stored blocks
  abbrev pub listed : List (Option V) → List (Option (List Cell))
  listed bs = map (option_map items) bs

  -- the block with the number n stands at n - 1
  pub cells_there : (bs : List (Option V)) (n i : ℕ) (o : Option V) → 1 ≤ n → i ≡ n - 1 → slice_get bs i ≡ Some o → cells_of (listed bs) n ≡ option_map items o
  cells_there bs zero i o one is there = absurd (omega arith)
  cells_there bs (suc n) i o one is there =
      let at : i ≡ n = omega arith in
      ap joined (slice_get-map (option_map items) bs n ∙ ap (option_map (option_map items)) (ap (slice_get bs) (sym at) ∙ there))

  -- another block is put there
  pub put_there : (bs : List (Option V)) (n i : ℕ) (o : Option V) → 1 ≤ n → i ≡ n - 1 → listed (set bs i o) ≡ with_block (listed bs) n (option_map items o)
  put_there bs zero i o one is = absurd (omega arith)
  put_there bs (suc n) i o one is =
      let at : i ≡ n = omega arith in
      map-set (option_map items) bs i o ∙ ap (λ k. set (listed bs) k (option_map items o)) at

  listed_at : (bs : List (Option V)) (i : ℕ) (o : Option V) → slice_get bs i ≡ Some o → slice_get (listed bs) i ≡ Some (option_map items o)
  listed_at bs i o there = slice_get-map (option_map items) bs i ∙ ap (option_map (option_map items)) there

  -- a freed block is held no more
  pub held-freed : (bs : List (Option V)) (i : ℕ) (v : V) → slice_get bs i ≡ Some (Some v) → held (listed (set bs i None)) + class_cells (length (items v)) ≡ held (listed bs)
  held-freed bs i v there =
      let moved : held (listed (set bs i None)) ≡ held (set (listed bs) i None) = ap held (map-set (option_map items) bs i None) in
      let all = held-set (listed bs) i (Some (items v)) None (listed_at bs i (Some v) there) in
      omega arith

  -- a block that keeps its length is held as before
  pub held-stored : (bs : List (Option V)) (i : ℕ) (v w : V) → slice_get bs i ≡ Some (Some v) → length (items w) ≡ length (items v) → held (listed (set bs i (Some w))) ≡ held (listed bs)
  held-stored bs i v w there long =
      let moved : held (listed (set bs i (Some w))) ≡ held (set (listed bs) i (Some (items w))) = ap held (map-set (option_map items) bs i (Some w)) in
      let all = held-set (listed bs) i (Some (items v)) (Some (items w)) (listed_at bs i (Some v) there) in
      let same : class_cells (length (items w)) ≡ class_cells (length (items v)) = ap class_cells long in
      omega arith

  -- a block that is made is held too
  pub held-made : (bs : List (Option V)) (v : V) → held (listed (bs ++ Some v ∷ [])) ≡ held (listed bs) + class_cells (length (items v))
  held-made bs v = ap held (map-append (option_map items) bs (Some v ∷ [])) ∙ held-push (listed bs) (Some (items v))

  -- a cell is stored in a live block
  pub store_there : (bs : List (Option V)) (n i : ℕ) (v w : V) (at : ℕ) (c : Cell) → 1 ≤ n → i ≡ n - 1 → slice_get bs i ≡ Some (Some v) → items w ≡ set (items v) at c
      → listed (set bs i (Some w)) ≡ stored (listed bs) n at c
  store_there bs n i v w at c one is there now =
      put_there bs n i (Some w) one is ∙ ap (λ cells. with_block (listed bs) n (Some cells)) now
      ∙ ap (with_cell (listed bs) n at c) (sym (cells_there bs n i (Some v) one is there))

  pub store_nowhere : (bs : List (Option V)) (n i : ℕ) (v w : V) (at : ℕ) (c : Cell) → 1 ≤ n → i ≡ n - 1 → slice_get bs i ≡ Some (Some v) → items w ≡ set (items v) at c
      → is_some (slice_get (items v) at) ≡ false → listed (set bs i (Some w)) ≡ listed bs
  store_nowhere bs n i v w at c one is there now none =
      put_there bs n i (Some w) one is ∙ ap (λ cells. with_block (listed bs) n (Some cells)) (now ∙ no_place (items v) at c none)
      ∙ with_found (listed bs) n (items v) (cells_there bs n i (Some v) one is there)

  pub cell_there : (bs : List (Option V)) (n i : ℕ) (v : V) (at : ℕ) → 1 ≤ n → i ≡ n - 1 → slice_get bs i ≡ Some (Some v) → cell_at (listed bs) n at ≡ slice_get (items v) at
  cell_there bs n i v at one is there = ap (option_and_then (λ cells. slice_get cells at)) (cells_there bs n i (Some v) one is there)
