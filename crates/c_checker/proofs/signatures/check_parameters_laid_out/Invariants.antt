use Rattle.std.proofs.Common.{◌≡◌, drop}
use Rattle.c_tree.specs.Unit.{unlaid_parameters}
use Rattle.c_value_checker.specs.Noted.{noted}
use Rattle.c_value_checker.specs.Seen.{seen}
use Rattle.c_checker.proofs.signatures.check_parameters_laid_out.Given as goal

abbrev pub invariant-loop-parameter : goal.invariant-loop-parameter
invariant-loop-parameter l = noted l.findings (unlaid_parameters (seen l.environment) l.head (drop l.parameter-index l.parameters)) ≡ noted l.fn.findings (unlaid_parameters (seen l.environment) l.head l.parameters)
