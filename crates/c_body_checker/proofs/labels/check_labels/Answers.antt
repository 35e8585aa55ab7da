use Rattle.std.proofs.Common.{◌∙◌, ◌∷◌, ap}
use Rattle.c_body_checker.proofs.LabelLemmas.{label_kept, label_turn}
use Rattle.c_body_checker.proofs.labels.check_labels.Goals as goal

pub loop-label-preserved : goal.loop-label-preserved
loop-label-preserved c = record {
  labels = label_kept c.args.labels.now c.loop-label.label-index c.label-item.result c.loop-label.table c.push.new.self c.loop-label-test.true c.label-item.is
      (c.in_ok-push.ensures.pushed ∙ ap (λ t. (t, c.label-item.result.span) ∷ c.loop-label.table) c.as_slice.ensures) c.loop-label.invariant.labels;
  faults = label_turn c.args.labels.now c.loop-label.label-index c.label-item.result c.loop-label.table c.push.new.self c.loop-label.findings c.check_label.new.findings
      c.loop-label-test.true c.label-item.is
      (c.in_ok-push.ensures.pushed ∙ ap (λ t. (t, c.label-item.result.span) ∷ c.loop-label.table) c.as_slice.ensures) c.check_label.ensures ∙ c.loop-label.invariant.faults;
}
