-- A block that was just made is filled.
use Rattle.std.proofs.Common.{inl, inr, ◌≡◌, ◌∙◌, refl, sym, ap, ℕ, suc, ◌+◌, ◌<◌, List, [], ◌∷◌, ◌++◌, length, drop, replicate, Option, Some, arith, set, cond, append-nil}
use Rattle.std.specs.Prelude.{slice_get}
use Rattle.std.proofs.lemmas.List.{length-replicate, drop_all}
use Rattle.std.proofs.lemmas.Bool.Decides.{leb_tells}
use Rattle.c_meaning.specs.declared.cell.Cell.{Cell}
use Rattle.c_meaning.specs.declared.cell.Cell.TheVariants.{Unset}
use Rattle.c_meaning.specs.Blocks.{over}
use Rattle.cell_heap.specs.Heap.{joined, cells_of, with_block, made}
use Rattle.cell_heap.specs.Runs.{written, with_run, run_stored}

last : {A : Type 0} (xs : List A) (x : A) → slice_get (xs ++ x ∷ []) (length xs) ≡ Some x
last [] x = refl
last (y ∷ xs) x = last xs x

last_set : {A : Type 0} (xs : List A) (x y : A) → set (xs ++ x ∷ []) (length xs) y ≡ xs ++ y ∷ []
last_set [] x y = refl
last_set (z ∷ xs) x y = ap (λ ys. z ∷ ys) (last_set xs x y)

-- the block that is made last is found by its number
pub made_last : (heap : List (Option (List Cell))) (cells : List Cell) → cells_of (heap ++ Some cells ∷ []) (length heap + 1) ≡ Some cells
made_last heap cells = ap (cells_of (heap ++ Some cells ∷ [])) (let same : length heap + 1 ≡ suc (length heap) = omega arith in same) ∙ ap joined (last heap (Some cells))

all_over : (old cells : List Cell) → length cells ≡ length old → over old 0 cells ≡ cells
all_over old cells long =
    ap (λ n. cells ++ drop n old) (let same : 0 + length cells ≡ length cells = omega arith in same) ∙ ap (λ xs. cells ++ xs) (drop_all (length cells) old (omega arith)) ∙ append-nil cells

all_written : (old cells : List Cell) → length cells ≡ length old → written 0 cells old ≡ cells
all_written old cells long =
    elim (leb_tells (0 + length cells) (length old)) [
      | inl fits ↦ ap (λ b. cond b (over old 0 cells) old) fits.0 ∙ all_over old cells long
      | inr more ↦ absurd (let lt : length old < 0 + length cells = more.1 in omega arith)
    ]

pub filled : (heap : List (Option (List Cell))) (n : ℕ) (cells : List Cell) → length cells ≡ n → run_stored (made heap n) (length heap + 1) 0 cells ≡ heap ++ Some cells ∷ []
filled heap n cells long =
    let new : List Cell = replicate n Unset in
    let size : length cells ≡ length new = long ∙ sym (length-replicate n Unset) in
    ap (with_run (made heap n) (length heap + 1) 0 cells) (made_last heap new)
    ∙ ap (λ xs. with_block (made heap n) (length heap + 1) (Some xs)) (all_written new cells size)
    ∙ ap (λ k. with_block (made heap n) k (Some cells)) (let same : length heap + 1 ≡ suc (length heap) = omega arith in same)
    ∙ last_set heap (Some new) (Some cells)
