use Rattle.std.proofs.Common.{refl}
use Rattle.c_tree.specs.declared.unit.Parameter.{Parameter}
use Rattle.c_tree.specs.Env.{kind_of}
use Rattle.c_tree.specs.Unit.{unlaid_optional, unlaid_parameters}
use Rattle.c_value_checker.specs.Seen.{seen}
use Rattle.c_value_checker.proofs.NotedLemmas.{noted_step}
use Rattle.c_checker.proofs.signatures.check_parameters_laid_out.Goals as goal

pub loop-parameter-preserved : goal.loop-parameter-preserved
loop-parameter-preserved c = noted_step (λ (p : Parameter). unlaid_optional (seen c.args.environment.now) c.args.head (kind_of (seen c.args.environment.now) p.declared) p.name) (unlaid_parameters (seen c.args.environment.now) c.args.head) (λ x l. refl)
    c.args.parameters.now c.loop-parameter.parameter-index c.parameter-item.result _ _ _ c.loop-parameter-test.true c.parameter-item.is c.in_ok-check_parameter_laid_out.ensures c.loop-parameter.invariant
