-- What reading gives of a text that was printed.
use Rattle.std.specs.Prelude.{◌≤◌, ℕ, List, length, Result, Ok, Err}
use Rattle.vg_base.specs.declared.event.Fault.{Fault as Answer}
use Rattle.vg_base.specs.declared.event.Fault.TheVariants.{Refused, Memory}
use Rattle.c_tree.specs.declared.kinds.Refusal.{Refusal}
use Rattle.c_tree.specs.declared.unit.Unit.{Unit as CUnit}
use Rattle.c_tree.specs.Answers.{Reading}
use Rattle.c_tree.specs.Bare.{SameUnit}
use Rattle.c_printer.specs.Printed.{IsTextOf}

-- what is read is the unit, apart from places; want of memory says nothing
abbrev pub GivesBack : CUnit → Result CUnit (Answer Refusal) → Type 0
GivesBack unit (Ok u) = SameUnit u unit
GivesBack unit (Err (Refused r)) = ⊥
GivesBack unit (Err Memory) = Unit {0}

-- The text of a unit, within the limit, is read as that unit.
abbrev pub PrintedTextsAreRead : Type 0
PrintedTextsAreRead = (unit : CUnit) (bytes : List ℕ) (limit : ℕ) (r : Result CUnit (Answer Refusal)) → IsTextOf unit bytes → length bytes ≤ limit
    → Reading bytes limit r → GivesBack unit r
