use Rattle.std.proofs.Common.{◌∙◌, ◌+◌, ap, drop, get_or, slice_get, sym}
use Rattle.c_body_checker.proofs.CallLemmas.{at_place, blank, unit_done, unit_end, unit_turn}
use Rattle.c_body_checker.proofs.calls.check_unit_arguments.Goals as goal

pub loop-argument-preserved : goal.loop-argument-preserved
loop-argument-preserved c = (
  ap (λ n. n + 1) c.loop-argument.invariant.0,
  unit_turn c.args.parameters.now c.args.arguments.now c.loop-argument.argument-index c.in-Some.parameter.now
      (get_or c.args.arguments.now c.loop-argument.argument-index blank) c.loop-argument.findings c.check_fit.new.findings
      (ap (slice_get c.args.parameters.now) (sym c.loop-argument.invariant.0) ∙ sym c.in-Some.ensures)
      (at_place c.args.arguments.now c.loop-argument.argument-index blank c.loop-argument-test.true) c.check_fit.ensures
      ∙ c.loop-argument.invariant.1,
)

pub returns-in_default : goal.returns-in_default
returns-in_default c =
    unit_end c.args.parameters.now (drop c.loop-argument.argument-index c.args.arguments.now) c.loop-argument.argument-index c.loop-argument.findings
    (ap (slice_get c.args.parameters.now) (sym c.loop-argument.invariant.0) ∙ sym c.in_default.ensures)
    ∙ c.loop-argument.invariant.1

pub returns : goal.returns
returns c = unit_done c.args.parameters.now c.args.arguments.now c.loop-argument.argument-index c.loop-argument.findings c.loop-argument-test.false
    ∙ c.loop-argument.invariant.1
