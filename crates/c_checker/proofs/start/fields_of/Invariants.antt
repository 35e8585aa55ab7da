use Rattle.std.proofs.Common.{◌≡◌, ◌++◌, drop, map}
use Rattle.c_checker.specs.Tables.{field_row}
use Rattle.c_value_checker.specs.Structures.{field_seen}
use Rattle.c_checker.proofs.start.fields_of.Given as goal

abbrev pub invariant-loop-row : goal.invariant-loop-row
invariant-loop-row l = map field_seen l.fields ++ map field_row (drop l.row-index l.rows) ≡ map field_row l.rows
