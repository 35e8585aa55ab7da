use Rattle.std.proofs.Common.{◌≡◌, ◌++◌, drop, map}
use Rattle.c_meaning.specs.Code.{parameter_kinds}
use Rattle.c_code.specs.Statements.{taken}
use Rattle.c_value_checker.specs.Seen.{seen}
use Rattle.c_resolver.proofs.bodies.parameters_taken.Given as goal

abbrev pub invariant-loop-parameter : goal.invariant-loop-parameter
invariant-loop-parameter l = l.found ++ map (taken (seen l.environment)) (parameter_kinds (seen l.environment) (drop l.parameter-index l.parameters)) ≡ map
    (taken (seen l.environment)) (parameter_kinds (seen l.environment) l.parameters)
