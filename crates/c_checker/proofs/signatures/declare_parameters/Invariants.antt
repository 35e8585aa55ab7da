use Rattle.std.proofs.Common.{◌≡◌, drop}
use Rattle.c_tree.specs.Unit.{with_parameters}
use Rattle.c_value_checker.specs.Seen.{seen}
use Rattle.c_checker.proofs.signatures.declare_parameters.Given as goal

abbrev pub invariant-loop-parameter : goal.invariant-loop-parameter
invariant-loop-parameter l = with_parameters (seen l.environment) (drop l.parameter-index l.parameters) ≡ with_parameters (seen l.fn.environment) l.parameters
