use Rattle.std.proofs.Common.{◌∙◌, ap, ◌++◌}
use Rattle.c_tree.specs.Checks.{checked}
use Rattle.c_tree.specs.Rules.{Called, all_checked, own_faults, value_call}
use Rattle.c_value_checker.specs.declared.judged.Judged.{Judged}
use Rattle.c_value_checker.specs.Noted.{noted}
use Rattle.c_body_checker.specs.Rows.{value_called}
use Rattle.c_value_checker.specs.Seen.{seen}
use Rattle.c_body_checker.proofs.CallLemmas.{value_kept}
use Rattle.c_value_checker.proofs.NotedLemmas.{noted_both}
use Rattle.c_body_checker.proofs.calls.check_value_call.Goals as goal

pub returns-clause-faults : goal.returns-clause-faults
returns-clause-faults c =
    noted_both c.args.findings.now c.check_values.new.findings c.call_value.new.findings
    ((checked c.args.called.now).value.faults (seen c.args.environment.now)
    ++ own_faults (seen c.args.environment.now) (all_checked checked c.args.arguments.now))
    (value_call (seen c.args.environment.now) ((checked c.args.called.now).value.kind (seen c.args.environment.now)) c.args.span
    (all_checked checked c.args.arguments.now)).faults
    (noted_both c.args.findings.now c.check_value.new.findings c.check_values.new.findings
    ((checked c.args.called.now).value.faults (seen c.args.environment.now))
    (own_faults (seen c.args.environment.now) (all_checked checked c.args.arguments.now)) c.in_ok-found.ensures.faults c.in_ok-values.ensures.faults)
    (c.call_value.ensures.faults
    ∙ (λ i. noted c.check_values.new.findings
    (value_called (seen c.args.environment.now) (ap (λ (j : Judged). j.kind) c.in_ok-found.ensures.value i) c.args.span
    ((c.deref.ensures.value ∙ c.in_ok-values.ensures.value) i)).faults)
    ∙ ap (λ (r : Called). noted c.check_values.new.findings r.faults)
    (value_kept (seen c.args.environment.now) ((checked c.args.called.now).value.kind (seen c.args.environment.now)) c.args.span
    (all_checked checked c.args.arguments.now)))
