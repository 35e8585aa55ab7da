-- The law on the calls of a unit that was read.
use Rattle.std.specs.Prelude.{◌≡◌, ℕ, true, List, Ok}
use Rattle.c_tree.specs.declared.unit.Unit.{Unit as CUnit}
use Rattle.c_tree.specs.Answers.{Answers}
use Rattle.c_resolver.specs.Routines.{items_have_code}

-- EACH FUNCTION OF THE LIBRARY that a unit calls has code, whatever bytes the unit was read from
abbrev pub UnitsHaveCode : Type 0
UnitsHaveCode = (bytes : List ℕ) (limit : ℕ) (unit : CUnit) → Answers bytes limit (Ok unit) → items_have_code unit.items ≡ true
