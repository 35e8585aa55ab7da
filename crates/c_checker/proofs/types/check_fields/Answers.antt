use Rattle.std.proofs.Common.{◌∙◌, ◌∷◌, ap}
use Rattle.c_value_checker.specs.Seen.{seen}
use Rattle.c_value_checker.proofs.NotedLemmas.{dropped}
use Rattle.c_checker.proofs.ItemLemmas.{field_kept, field_turn}
use Rattle.c_body_checker.proofs.LabelLemmas.{taken}
use Rattle.c_checker.proofs.types.check_fields.Goals as goal

pub loop-field-preserved : goal.loop-field-preserved
loop-field-preserved c = record {
  table = field_kept c.args.fields.now c.loop-field.field-index c.field-item.result c.loop-field.before c.push.new.self
      (taken c.args.fields.now c.loop-field.field-index c.field-item.result c.loop-field-test.true c.field-item.is)
      (c.in_ok-push.ensures.pushed ∙ ap (λ t. (t, c.field-item.result.name.span) ∷ c.loop-field.before) c.as_slice.ensures) c.loop-field.invariant.table;
  faults = field_turn (seen c.args.environment.now) c.args.fields.now c.loop-field.field-index c.field-item.result c.loop-field.before c.loop-field.findings c.check_field.new.findings
      (dropped c.args.fields.now c.loop-field.field-index c.field-item.result c.loop-field-test.true c.field-item.is)
      (taken c.args.fields.now c.loop-field.field-index c.field-item.result c.loop-field-test.true c.field-item.is)
      c.loop-field.invariant.table c.in_ok-check_field.ensures ∙ c.loop-field.invariant.faults;
}
