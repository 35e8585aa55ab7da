use Rattle.std.proofs.Common.{◌≡◌, drop}
use Rattle.c_tree.specs.Unit.{parameter_faults, with_parameters}
use Rattle.c_value_checker.specs.Noted.{noted}
use Rattle.c_value_checker.specs.Seen.{seen}
use Rattle.c_checker.proofs.signatures.check_parameters.Given as goal

abbrev pub invariant-loop-parameter : goal.invariant-loop-parameter
invariant-loop-parameter l = record {
  names : with_parameters (seen l.environment) (drop l.parameter-index l.parameters) ≡ with_parameters (seen l.fn.environment) l.parameters;
  faults : noted l.findings (parameter_faults (seen l.environment) (drop l.parameter-index l.parameters)) ≡ noted l.fn.findings (parameter_faults (seen l.fn.environment) l.parameters);
}
