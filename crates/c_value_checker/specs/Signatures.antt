-- What the index of the signatures says.
use Rattle.std.specs.Prelude.{◌≡◌, ℕ, suc, List, [], ◌∷◌, Option, Some, None, if◌then◌else◌}
use Rattle.std.specs.HashMap.{HashMap, get_by}
use Rattle.c_tree.specs.Library.{Takes}
use Rattle.c_tree.specs.Env.{same_takes}
use Rattle.c_value_checker.specs.declared.takes.Takes.{Takes as TakesRow}
use Rattle.c_value_checker.specs.Takes.{takes_seen}

-- the number of the first signature that equals one by its parts, where the numbers begin with n
abbrev pub first_place : ℕ → List Takes → Takes → Option ℕ
first_place n [] t = None
first_place n (u ∷ us) t = if same_takes u t then Some n else first_place (suc n) us t

-- the index has the number of the first of each signature
abbrev pub IsIndexed : {S : Type 0} → HashMap TakesRow ℕ S → List Takes → Type 0
IsIndexed numbers ts = (t : TakesRow) → get_by (λ k. same_takes (takes_seen t) (takes_seen k)) numbers ≡ first_place 0 ts (takes_seen t)
