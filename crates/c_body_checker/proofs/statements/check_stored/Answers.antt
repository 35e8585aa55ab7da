use Rattle.std.proofs.Common.{◌∙◌, ◌++◌}
use Rattle.c_tree.specs.Checks.{checked}
use Rattle.c_tree.specs.Rules as spec
use Rattle.c_value_checker.specs.Noted.{noted}
use Rattle.c_value_checker.specs.Seen.{seen}
use Rattle.c_value_checker.proofs.NotedLemmas.{noted_both}
use Rattle.c_body_checker.proofs.statements.check_stored.Goals as goal

pub returns : goal.returns
returns c =
    noted_both c.args.findings.now c.check_call.new.findings c.check_result.new.findings
    ((checked c.args.place.now).value.faults (seen c.args.environment.now) ++ (spec.call checked (seen c.args.environment.now) c.args.call.now).faults)
    (spec.result_fit ((checked c.args.place.now).value.kind (seen c.args.environment.now))
    (spec.call checked (seen c.args.environment.now) c.args.call.now).result c.args.call.now.span)
    (noted_both c.args.findings.now c.judge.new.findings c.check_call.new.findings ((checked c.args.place.now).value.faults (seen c.args.environment.now))
    (spec.call checked (seen c.args.environment.now) c.args.call.now).faults c.in_ok-wanted.ensures.faults c.in_ok-gives.ensures.faults)
    (c.check_result.ensures ∙ (λ i. noted c.check_call.new.findings
    (spec.result_fit (c.in_ok-wanted.ensures.value i).found.kind (c.in_ok-gives.ensures.value i) c.args.call.now.span)))
