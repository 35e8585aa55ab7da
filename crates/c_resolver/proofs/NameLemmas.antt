-- Functions by their names.
use Rattle.std.proofs.Common.{◌≡◌, ◌∙◌, refl, ap, ℕ, suc, if◌then◌else◌, List, [], ◌∷◌, map, Ok}
use Rattle.std.specs.Str.{bytes_eq}
use Rattle.c_meaning.specs.declared.cell.Cell.{Cell}
use Rattle.c_meaning.specs.declared.cell.Cell.TheVariants.{Func}
use Rattle.c_meaning.specs.Blocks.{Answer}
use Rattle.c_meaning.specs.State.{Routine}
use Rattle.c_meaning.specs.Values.{routine_in}
use Rattle.c_code.specs.Resolved.{cell_if}
use Rattle.c_code.specs.declared.code.Code.{Code}
use Rattle.c_resolver.specs.Names.{names_of}
use Rattle.c_resolver.specs.Shown.{named_alone}

-- the number of a function depends on the names alone
number_alone : (n : ℕ) (rs : List Routine) (x : List ℕ) → routine_in n (map named_alone (names_of rs)) x ≡ routine_in n rs x
number_alone n [] x = refl
number_alone n (r ∷ rs) x = ap (λ (z : Answer Cell). if bytes_eq r.name x then Ok (Func n) else z) (number_alone (suc n) rs x)

pub cell_alone : (c : Code) (ns : List (List ℕ)) (rs : List Routine) (x : List ℕ) → ns ≡ names_of rs → c ≡ cell_if (routine_in 0 (map named_alone ns) x)
    → c ≡ cell_if (routine_in 0 rs x)
cell_alone c ns rs x e h = h ∙ ap (λ z. cell_if (routine_in 0 (map named_alone z) x)) e ∙ ap cell_if (number_alone 0 rs x)
