use Rattle.std.proofs.Common.{◌∙◌, refl, sym}
use Rattle.c_tree.specs.Checks.{checked}
use Rattle.c_tree.specs.Rules.{all_checked, own_faults}
use Rattle.c_value_checker.specs.Seen.{seen}
use Rattle.c_body_checker.proofs.CallLemmas.{argument_kept}
use Rattle.c_value_checker.proofs.NotedLemmas.{noted_step}
use Rattle.c_value_checker.proofs.ShapeLemmas.{span_known}
use Rattle.c_body_checker.proofs.calls.check_values.Goals as goal

pub loop-value-preserved : goal.loop-value-preserved
loop-value-preserved c = record {
  kept = argument_kept (seen c.args.environment.now) c.args.values.now c.loop-value.value-index c.value-item.result c.loop-value.found.items
      c.push.new.arguments.items _ c.loop-value-test.true c.value-item.is
      (λ i. record { span = sym (span_known c.value-item.result) i; found = c.in_ok-one.ensures.value i }) c.in_ok-push.ensures ∙ c.loop-value.invariant.kept;
  faults = noted_step (λ e. (checked e).value.faults (seen c.args.environment.now)) (λ l. own_faults (seen c.args.environment.now) (all_checked checked l))
      (λ x l. refl) c.args.values.now c.loop-value.value-index c.value-item.result c.loop-value.findings c.check_value.new.findings _ c.loop-value-test.true
      c.value-item.is c.in_ok-one.ensures.faults c.loop-value.invariant.faults;
}
