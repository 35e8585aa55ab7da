use Rattle.std.proofs.Common.{◌∙◌, drop, sym}
use Rattle.c_resolver.specs.Shown.{looks}
use Rattle.c_resolver.proofs.CallLemmas.{row_all, row_ends, row_short, row_step}
use Rattle.c_resolver.proofs.StepLemmas.{on_value}
use Rattle.c_resolver.proofs.calls.row_arguments.Goals as goal

pub loop-index-preserved : goal.loop-index-preserved
loop-index-preserved c =
    row_step (looks c.args.tables.now c.args.scope.now) c.args.parameters.now c.args.values.now c.loop-index.index c.in-Some.parameter.now
    c.index-values-index.result c.loop-index.codes c.in_ok-code.code c.push.new.items
    c.loop-index-test.true c.index-values-index.is c.in-Some.ensures (sym c.if-takes_rest.ensures) c.in_ok-code.ensures c.in_ok-push.ensures
    ∙ c.loop-index.invariant

pub returns-in_default : goal.returns-in_default
returns-in_default c =
    row_short (looks c.args.tables.now c.args.scope.now) c.args.parameters.now
    (drop c.loop-index.index c.args.values.now) c.loop-index.index c.loop-index.codes c.in_default.ensures
    ∙ c.loop-index.invariant

pub returns-then-takes_rest : goal.returns-then-takes_rest
returns-then-takes_rest c = on_value c.free_all.result c.free_all.ensures (λ w e. e
    ∙ row_ends (looks c.args.tables.now c.args.scope.now) c.args.parameters.now c.args.values.now c.loop-index.index c.in-Some.parameter.now
    c.loop-index.codes c.in-Some.ensures (sym c.if-takes_rest.ensures)
    ∙ c.loop-index.invariant)

pub returns : goal.returns
returns c =
    row_all (looks c.args.tables.now c.args.scope.now) c.args.parameters.now c.args.values.now c.loop-index.index c.loop-index.codes c.loop-index-test.false
    ∙ c.loop-index.invariant
