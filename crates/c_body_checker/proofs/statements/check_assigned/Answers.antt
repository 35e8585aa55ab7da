use Rattle.std.proofs.Common.{◌∙◌, ap, ◌++◌}
use Rattle.c_tree.specs.Checks.{checked}
use Rattle.c_tree.specs.Rules as spec
use Rattle.c_value_checker.specs.Noted.{noted}
use Rattle.c_value_checker.specs.Judgements.{is_null_told}
use Rattle.c_value_checker.specs.Seen.{seen}
use Rattle.c_value_checker.proofs.NotedLemmas.{noted_both}
use Rattle.c_value_checker.proofs.OperandLemmas.{null_kept}
use Rattle.c_body_checker.proofs.statements.check_assigned.Goals as goal

pub returns : goal.returns
returns c =
    noted_both c.args.findings.now c.judge-2.new.findings c.check_fit.new.findings
    ((checked c.args.place.now).value.faults (seen c.args.environment.now) ++ (checked c.args.value.now).value.faults (seen c.args.environment.now))
    (spec.fit (seen c.args.environment.now) ((checked c.args.place.now).value.kind (seen c.args.environment.now)) (checked c.args.value.now))
    (noted_both c.args.findings.now c.judge.new.findings c.judge-2.new.findings ((checked c.args.place.now).value.faults (seen c.args.environment.now))
    ((checked c.args.value.now).value.faults (seen c.args.environment.now)) c.in_ok-wanted.ensures.faults c.in_ok-found.ensures.faults)
    (c.check_fit.ensures
    ∙ (λ i. noted c.judge-2.new.findings (spec.fit_by (c.in_ok-wanted.ensures.value i).found.kind (c.in_ok-found.ensures.value i).found.kind
    (is_null_told (c.in_ok-found.ensures.value i).found.literal) (c.in_ok-found.ensures.value i).span))
    ∙ ap (λ b. noted c.judge-2.new.findings (spec.fit_by ((checked c.args.place.now).value.kind (seen c.args.environment.now))
    ((checked c.args.value.now).value.kind (seen c.args.environment.now)) b (checked c.args.value.now).span))
    (null_kept (checked c.args.value.now).value.literal))
