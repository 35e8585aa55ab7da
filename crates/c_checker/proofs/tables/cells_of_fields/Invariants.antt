use Rattle.std.proofs.Common.{◌≡◌, ◌+◌, ◌^◌, min, drop, map}
use Rattle.c_tree.specs.Unit.{fields_cells}
use Rattle.c_value_checker.specs.Seen.{seen}
use Rattle.c_value_checker.specs.Structures.{field_seen}
use Rattle.c_checker.proofs.tables.cells_of_fields.Given as goal

abbrev pub invariant-loop-field : goal.invariant-loop-field
invariant-loop-field l =
    min (l.cells + fields_cells (seen l.environment) (map field_seen (drop l.field-index l.fields))) (2 ^ 62) ≡ min (fields_cells (seen l.environment) (map field_seen l.fields)) (2 ^ 62)
