use Rattle.std.proofs.Common.{◌≡◌, ◌++◌, drop}
use Rattle.c_tree.specs.Unit.{parameter_kinds}
use Rattle.c_value_checker.specs.Seen.{seen}
use Rattle.c_checker.proofs.tables.parameter_kinds.Given as goal

abbrev pub invariant-loop-parameter : goal.invariant-loop-parameter
invariant-loop-parameter l = l.kinds ++ parameter_kinds (seen l.environment) (drop l.parameter-index l.parameters) ≡ parameter_kinds (seen l.environment) l.parameters
