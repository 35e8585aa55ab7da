-- The functions of the library by their numbers.
use Rattle.std.proofs.Common.{◌≡◌, ◌∙◌, refl, ap, map, ℕ, zero, suc, slice_get, Some, None, List, [], ◌∷◌}
use Rattle.c_tree.specs.Library.{row_at}
use Rattle.c_tree.specs.Library.{Row as Function}
use Rattle.c_body_checker.specs.declared.library.LibraryRow.{LibraryRow}
use Rattle.c_body_checker.specs.Rows.{row_seen}

-- the function with a number
pub row_there : (rows : List LibraryRow) (ps : List Function) (n : ℕ) (r : LibraryRow) → map row_seen rows ≡ ps → Some r ≡ slice_get rows n → Some (row_seen r) ≡ row_at ps n
row_there rows ps n r ep e = go rows n e ∙ ap (λ l. row_at l n) ep
  where
    go : (rs : List LibraryRow) (m : ℕ) → Some r ≡ slice_get rs m → Some (row_seen r) ≡ row_at (map row_seen rs) m
    go [] m h = absurd (let x : ⊥ = cc in x)
    go (q ∷ rs) zero h = ap (λ x. Some (row_seen x)) (let x : r ≡ q = cc in x)
    go (q ∷ rs) (suc m) h = go rs m h

-- no function has that number
pub row_nowhere : (rows : List LibraryRow) (ps : List Function) (n : ℕ) → map row_seen rows ≡ ps → None ≡ slice_get rows n → None ≡ row_at ps n
row_nowhere rows ps n ep e = go rows n e ∙ ap (λ l. row_at l n) ep
  where
    go : (rs : List LibraryRow) (m : ℕ) → None ≡ slice_get rs m → None ≡ row_at (map row_seen rs) m
    go [] m h = refl
    go (q ∷ rs) zero h = absurd (let x : ⊥ = cc in x)
    go (q ∷ rs) (suc m) h = go rs m h
