-- Changes for each of a list, one after another.
use Rattle.std.proofs.Common.{◌≡◌, refl, ap, ℕ, suc, List, [], ◌∷◌, ◌++◌}
use Rattle.c_tree.specs.declared.unit.Item.{Item}
use Rattle.c_meaning.specs.State
use Rattle.c_meaning.specs.Runs.{with_literals, with_static, with_statics}
use Rattle.c_meaning.specs.Values.{Program, routine_in}
use Rattle.c_resolver.specs.Names.{names_of}
use Rattle.c_opening.specs.Opens.{routine_at}
use Rattle.std.specs.Prelude.{if◌then◌else◌, Ok}
use Rattle.std.specs.Str.{bytes_eq}
use Rattle.c_meaning.specs.Blocks.{Answer}
use Rattle.c_meaning.specs.declared.cell.Cell.{Cell}
use Rattle.c_meaning.specs.declared.cell.Cell.TheVariants.{Func}

-- one literal more
pub literals_behind : (s : State.State) (xs : List State.Literal) (y : State.Literal) → with_literals (with_literals s xs) (y ∷ []) ≡ with_literals s (xs ++ y ∷ [])
literals_behind s [] y = refl
literals_behind s (x ∷ xs) y = literals_behind (with_literals s (x ∷ [])) xs y

-- one item more
pub statics_behind : (p : Program) (s : State.State) (xs : List Item) (y : Item) → with_static p (with_statics p s xs) y ≡ with_statics p s (xs ++ y ∷ [])
statics_behind p s [] y = refl
statics_behind p s (x ∷ xs) y = statics_behind p (with_static p s x) xs y

-- a function is found by the names alone
pub routine_named : (n : ℕ) (rs : List State.Routine) (x : List ℕ) → routine_in n rs x ≡ routine_at n (names_of rs) x
routine_named n [] x = refl
routine_named n (r ∷ rs) x = ap (λ (a : Answer Cell). if bytes_eq r.name x then Ok (Func n) else a) (routine_named (suc n) rs x)
