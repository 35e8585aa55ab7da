-- The names of functions.
use Rattle.std.specs.Prelude.{ℕ, List, map}
use Rattle.c_meaning.specs.State.{Routine}

-- the names of functions, in order
abbrev pub names_of : List Routine → List (List ℕ)
names_of rs = map (λ (r : Routine). r.name) rs
