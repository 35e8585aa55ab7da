use Rattle.std.proofs.Common.{◌∙◌, ap}
use Rattle.c_tree.specs.Checks.{checked}
use Rattle.c_tree.specs.Rules as spec
use Rattle.c_value_checker.specs.Noted.{noted}
use Rattle.c_value_checker.specs.Seen.{seen}
use Rattle.c_body_checker.specs.declared.calls.Argument.{Argument}
use Rattle.c_value_checker.proofs.NotedLemmas.{noted_both}
use Rattle.c_tree.specs.Kinds.{is_scalar}
use Rattle.c_body_checker.proofs.statements.check_condition.Goals as goal

pub returns : goal.returns
returns c = noted_both c.args.findings.now c.judge.new.findings c.check_scalar.new.findings
    ((checked c.args.value.now).value.faults (seen c.args.environment.now)) (spec.must_be (seen c.args.environment.now) is_scalar (checked c.args.value.now))
    c.in_ok-found.ensures.faults
    (c.check_scalar.ensures ∙ ap (λ (a : Argument). noted c.judge.new.findings (spec.class_by is_scalar a.found.kind a.span)) c.in_ok-found.ensures.value)
