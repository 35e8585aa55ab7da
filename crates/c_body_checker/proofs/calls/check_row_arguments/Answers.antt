use Rattle.std.proofs.Common.{◌∙◌, ◌+◌, ap, drop, get_or, slice_get, sym}
use Rattle.std.proofs.lemmas.List.{take_rest}
use Rattle.c_value_checker.specs.Noted.{noted}
use Rattle.c_body_checker.specs.Rows.{rest_faults}
use Rattle.c_body_checker.proofs.CallLemmas.{at_place, blank, row_done, row_ends, row_stop, row_turn}
use Rattle.c_body_checker.proofs.calls.check_row_arguments.Goals as goal

pub loop-argument-preserved : goal.loop-argument-preserved
loop-argument-preserved c = (
  ap (λ n. n + 1) c.loop-argument.invariant.0,
  row_turn c.args.parameters.now c.args.arguments.now c.loop-argument.argument-index c.in-Some.parameter.now
      (get_or c.args.arguments.now c.loop-argument.argument-index blank) c.loop-argument.findings c.check_one.new.findings
      (ap (slice_get c.args.parameters.now) (sym c.loop-argument.invariant.0) ∙ sym c.in-Some.ensures)
      (at_place c.args.arguments.now c.loop-argument.argument-index blank c.loop-argument-test.true)
      (sym c.takes_rest.ensures ∙ c.if-takes_rest.false) c.check_one.ensures
      ∙ c.loop-argument.invariant.1,
)

pub returns-in_default : goal.returns-in_default
returns-in_default c =
    row_stop c.args.parameters.now (drop c.loop-argument.argument-index c.args.arguments.now) c.loop-argument.argument-index c.loop-argument.findings
    (ap (slice_get c.args.parameters.now) (sym c.loop-argument.invariant.0) ∙ sym c.in_default.ensures)
    ∙ c.loop-argument.invariant.1

pub returns-then-takes_rest : goal.returns-then-takes_rest
returns-then-takes_rest c =
    row_ends c.args.parameters.now c.args.arguments.now c.loop-argument.argument-index c.in-Some.parameter.now
    (get_or c.args.arguments.now c.loop-argument.argument-index blank) c.loop-argument.findings c.check_rest.new.findings
    (ap (slice_get c.args.parameters.now) (sym c.loop-argument.invariant.0) ∙ sym c.in-Some.ensures)
    (at_place c.args.arguments.now c.loop-argument.argument-index blank c.loop-argument-test.true)
    (sym c.takes_rest.ensures ∙ c.if-takes_rest.true)
    (c.check_rest.ensures ∙ ap (λ l. noted c.loop-argument.findings (rest_faults c.in-Some.parameter.now l))
    (take_rest c.args.arguments.now c.loop-argument.index ∙ ap (λ n. drop n c.args.arguments.now) c.loop-argument.invariant.0))
    ∙ c.loop-argument.invariant.1

pub returns : goal.returns
returns c = row_done c.args.parameters.now c.args.arguments.now c.loop-argument.argument-index c.loop-argument.findings c.loop-argument-test.false
    ∙ c.loop-argument.invariant.1
