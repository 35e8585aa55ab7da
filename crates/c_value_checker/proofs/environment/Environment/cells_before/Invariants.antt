use Rattle.std.proofs.Common.{◌≡◌, ◌+◌, drop, map}
use Rattle.c_tree.specs.Checks.{cells_before}
use Rattle.c_value_checker.specs.Seen.{seen}
use Rattle.c_value_checker.specs.Structures.{field_seen}
use Rattle.c_value_checker.proofs.environment.Environment.cells_before.Given as goal

abbrev pub invariant-loop-field : goal.invariant-loop-field
invariant-loop-field l = l.cells + cells_before (seen l.self) (map field_seen (drop l.field-index l.fields)) l.name.text ≡ cells_before (seen l.self) (map field_seen l.fields) l.name.text
