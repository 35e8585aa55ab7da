use Rattle.std.proofs.Common.{◌≡◌, [], drop, reverse, take}
use Rattle.c_tree.specs.Unit.{field_faults}
use Rattle.c_value_checker.specs.Noted.{noted}
use Rattle.c_value_checker.specs.Seen.{seen}
use Rattle.c_checker.specs.Fields.{named}
use Rattle.c_checker.proofs.types.check_fields.Given as goal

abbrev pub invariant-loop-field : goal.invariant-loop-field
invariant-loop-field l = record {
  table : l.before ≡ named (reverse (take l.field-index l.fields));
  faults : noted l.findings (field_faults (seen l.environment) (reverse (take l.field-index l.fields)) (drop l.field-index l.fields)) ≡ noted l.fn.findings (field_faults (seen l.environment) [] l.fields);
}
