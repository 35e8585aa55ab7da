use Rattle.std.proofs.Common.{refl}
use Rattle.c_tree.specs.Checks.{cast_faults}
use Rattle.c_value_checker.specs.Prefixes.{casts_faults}
use Rattle.c_value_checker.specs.Seen.{seen}
use Rattle.c_value_checker.proofs.NotedLemmas.{noted_step}
use Rattle.c_value_checker.proofs.prefixes.check_casts.Goals as goal

pub loop-operator-preserved : goal.loop-operator-preserved
loop-operator-preserved c = noted_step (λ p. cast_faults (seen c.args.environment.now) p.prefix) (casts_faults (seen c.args.environment.now)) (λ x l. refl) c.args.operators.now c.loop-operator.operator-index c.operator-item.result _ _ _ c.loop-operator-test.true c.operator-item.is c.check_cast.ensures c.loop-operator.invariant
