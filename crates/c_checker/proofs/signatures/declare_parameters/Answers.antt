use Rattle.std.proofs.Common.{refl}
use Rattle.c_tree.specs.Unit.{with_parameter, with_parameters}
use Rattle.c_value_checker.specs.Seen.{seen}
use Rattle.c_checker.proofs.Steps.{names_step}
use Rattle.c_checker.proofs.signatures.declare_parameters.Goals as goal

pub loop-parameter-preserved : goal.loop-parameter-preserved
loop-parameter-preserved c = names_step with_parameter with_parameters (λ d x l. refl) c.args.parameters.now c.loop-parameter.parameter-index c.parameter-item.result (seen c.loop-parameter.environment) (seen c.declare_parameter.new.environment) _
    c.loop-parameter-test.true c.parameter-item.is c.in_ok-declare_parameter.ensures c.loop-parameter.invariant
