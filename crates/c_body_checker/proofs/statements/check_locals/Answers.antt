use Rattle.std.proofs.Common.{◌∙◌}
use Rattle.c_value_checker.specs.Seen.{seen}
use Rattle.c_body_checker.proofs.BodyLemmas.{local_names, local_noted}
use Rattle.c_body_checker.proofs.statements.check_locals.Goals as goal

pub loop-local-preserved : goal.loop-local-preserved
loop-local-preserved c = record {
  names = local_names c.args.locals.now c.loop-local.local-index c.local-item.result (seen c.loop-local.environment) (seen c.check_local.new.environment)
      c.loop-local-test.true c.local-item.is c.in_ok-check_local.ensures.names ∙ c.loop-local.invariant.names;
  faults = local_noted c.args.locals.now c.loop-local.local-index c.local-item.result (seen c.loop-local.environment) (seen c.check_local.new.environment)
      c.loop-local.findings c.check_local.new.findings c.loop-local-test.true c.local-item.is c.in_ok-check_local.ensures.names c.in_ok-check_local.ensures.faults
      ∙ c.loop-local.invariant.faults;
}
