use Rattle.std.proofs.Common.{refl, ◌++◌}
use Rattle.c_tree.specs.declared.unit.Parameter.{Parameter}
use Rattle.c_tree.specs.Checks.{type_faults}
use Rattle.c_tree.specs.Env.{Env}
use Rattle.c_tree.specs.Unit.{parameter_faults, twice_optional, with_parameter, with_parameters}
use Rattle.c_value_checker.specs.Seen.{seen}
use Rattle.c_checker.proofs.Steps.{faults_step, names_step}
use Rattle.c_checker.proofs.signatures.check_parameters.Goals as goal

pub loop-parameter-preserved : goal.loop-parameter-preserved
loop-parameter-preserved c = record {
  names = names_step with_parameter with_parameters (λ d x l. refl) c.args.parameters.now c.loop-parameter.parameter-index c.parameter-item.result (seen c.loop-parameter.environment) (seen c.declare_parameter.new.environment) _
      c.loop-parameter-test.true c.parameter-item.is c.in_ok-declare_parameter.ensures c.loop-parameter.invariant.names;
  faults = faults_step with_parameter (λ (d : Env) (p : Parameter). type_faults d p.declared ++ twice_optional d p.name) parameter_faults (λ d x l. refl)
      c.args.parameters.now c.loop-parameter.parameter-index c.parameter-item.result (seen c.loop-parameter.environment) (seen c.declare_parameter.new.environment) c.loop-parameter.findings c.judge_parameter.new.findings _
      c.loop-parameter-test.true c.parameter-item.is c.in_ok-declare_parameter.ensures c.judge_parameter.ensures c.loop-parameter.invariant.faults;
}
