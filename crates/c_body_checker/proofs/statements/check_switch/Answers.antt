use Rattle.std.proofs.Common.{◌∙◌, ap}
use Rattle.c_tree.specs.Checks.{checked}
use Rattle.c_tree.specs.Rules as spec
use Rattle.c_value_checker.specs.Noted.{noted}
use Rattle.c_value_checker.specs.Seen.{seen}
use Rattle.c_body_checker.specs.declared.calls.Argument.{Argument}
use Rattle.c_value_checker.proofs.NotedLemmas.{noted_both}
use Rattle.c_tree.specs.Kinds.{is_integer}
use Rattle.c_body_checker.proofs.statements.check_switch.Goals as goal

pub returns : goal.returns
returns c = noted_both c.args.findings.now c.judge.new.findings c.check_integer.new.findings
    ((checked c.args.value.now).value.faults (seen c.args.environment.now)) (spec.must_be (seen c.args.environment.now) is_integer (checked c.args.value.now))
    c.in_ok-found.ensures.faults
    (c.check_integer.ensures ∙ ap (λ (a : Argument). noted c.judge.new.findings (spec.class_by is_integer a.found.kind a.span)) c.in_ok-found.ensures.value)
