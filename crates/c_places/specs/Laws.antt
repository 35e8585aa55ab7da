-- What the laws on places speak of.
use Rattle.std.specs.Prelude.{ℕ, List, Ok}
use Rattle.c_tree.specs.declared.unit.Unit.{Unit as CUnit}
use Rattle.c_tree.specs.Answers.{Answers}
use Rattle.c_places.specs.Apart.{StandApart, LocalsApart}

-- The text literals of a unit that was read stand at places of their own, each behind the one before it.
abbrev pub TextsStandApart : Type 0
TextsStandApart = (bytes : List ℕ) (limit : ℕ) (u : CUnit) → Answers bytes limit (Ok u) → StandApart u

-- So do the names of the locals of each body.
abbrev pub LocalsStandApart : Type 0
LocalsStandApart = (bytes : List ℕ) (limit : ℕ) (u : CUnit) → Answers bytes limit (Ok u) → LocalsApart u.items
