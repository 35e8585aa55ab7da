use Rattle.std.proofs.Common.{◌≡◌, drop, map}
use Rattle.c_tree.specs.Env.{field_named}
use Rattle.c_value_checker.specs.Structures.{field_seen}
use Rattle.c_value_checker.proofs.fields.find_field.Given as goal

abbrev pub invariant-loop-field : goal.invariant-loop-field
invariant-loop-field l = field_named (map field_seen (drop l.field-index l.fields)) l.name.text ≡ field_named (map field_seen l.fields) l.name.text
