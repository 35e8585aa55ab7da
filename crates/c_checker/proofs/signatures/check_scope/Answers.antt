use Rattle.std.proofs.Common.{◌∙◌, ap}
use Rattle.c_tree.specs.Unit.{parameter_faults}
use Rattle.c_value_checker.specs.Noted.{noted}
use Rattle.c_value_checker.specs.Seen.{seen}
use Rattle.c_checker.proofs.FunctionLemmas.{closed_parameters}
use Rattle.c_checker.proofs.signatures.check_scope.Goals as goal

pub returns-clause-names : goal.returns-clause-names
returns-clause-names c = closed_parameters c.args.environment.now (seen c.open.new.self) (seen c.check_parameters.new.environment) (seen c.close.new.self)
    c.args.parameters.now c.in_ok-open.ensures c.in_ok-check_parameters.ensures.names c.close.ensures

pub returns-clause-faults : goal.returns-clause-faults
returns-clause-faults c = c.in_ok-check_parameters.ensures.faults ∙ ap (λ x. noted c.args.findings.now (parameter_faults x c.args.parameters.now)) c.in_ok-open.ensures
