use Rattle.std.proofs.Common.{ap, map}
use Rattle.c_tree.specs.declared.code.Block.{out-Block}
use Rattle.c_meaning.specs.State.{Scope}
use Rattle.c_meaning.specs.Code.{parameter_variables}
use Rattle.c_value_checker.specs.Seen.{seen}
use Rattle.c_resolver.specs.Plans.{slot_seen}
use Rattle.c_resolver.proofs.ScopeLemmas.{closed_parameters, parameters_closed}
use Rattle.c_resolver.proofs.bodies.statements.Goals as goal

pub returns-clause-names : goal.returns-clause-names
returns-clause-names c = λ i. record {
  env = closed_parameters c.args.scope.now.environment (seen c.open.new.self) (seen c.declare_parameters.new.environment)
      (seen c.block.new.scope.environment) (seen c.close.new.self)
      c.as_slice-parameters.result.now (out-Block c.args.function.now.body).locals c.in_ok-open.ensures c.in_ok-declare_parameters.ensures (ap
      (λ (s : Scope). s.env) c.in_ok-row.ensures.names) c.close.ensures i;
  variables = parameters_closed c.length-count.result (map slot_seen c.args.plan.now.slots) c.args.scope.now.variables c.add_parameters.new.variables
      c.block.new.scope.variables c.truncate.new.self
      (parameter_variables (seen c.args.scope.now.environment) 0 c.as_slice-parameters.result.now) (out-Block c.args.function.now.body).locals
      c.length-count.ensures c.in_ok-add_parameters.ensures (ap (λ (s : Scope). s.variables) c.in_ok-row.ensures.names) c.truncate.ensures i;
}
