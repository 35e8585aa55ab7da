use Rattle.std.proofs.Common.{◌∙◌}
use Rattle.c_value_checker.specs.Seen.{seen}
use Rattle.c_body_checker.proofs.BodyLemmas.{local_names}
use Rattle.c_body_checker.proofs.statements.declare_locals.Goals as goal

pub loop-local-preserved : goal.loop-local-preserved
loop-local-preserved c = local_names c.args.locals.now c.loop-local.local-index c.local-item.result (seen c.loop-local.environment) (seen c.declare_local.new.environment)
    c.loop-local-test.true c.local-item.is c.in_ok-declare_local.ensures ∙ c.loop-local.invariant
