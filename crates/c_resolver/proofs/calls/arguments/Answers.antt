use Rattle.std.proofs.Common.{◌∙◌}
use Rattle.c_resolver.specs.Shown.{looks}
use Rattle.c_resolver.proofs.CallLemmas.{argument_step}
use Rattle.c_resolver.proofs.calls.arguments.Goals as goal

pub loop-index-preserved : goal.loop-index-preserved
loop-index-preserved c =
    argument_step (looks c.args.tables.now c.args.scope.now) c.args.wanted.now c.args.values.now c.loop-index.index _ c.index-values-index.result
    c.loop-index.codes c.in_ok-code.code c.push.new.items
    c.loop-index-test.true c.index-values-index.is c.at.ensures c.in_ok-code.ensures c.in_ok-push.ensures
    ∙ c.loop-index.invariant
