use Rattle.std.proofs.Common.{◌≡◌, ◌++◌, ◌≤◌, drop, length, map, take}
use Rattle.c_meaning.specs.Code.{parameter_variables}
use Rattle.c_value_checker.specs.Seen.{seen}
use Rattle.c_resolver.specs.Plans.{cells_in}
use Rattle.c_resolver.specs.Shown.{variable_seen}
use Rattle.c_resolver.proofs.bodies.add_parameters.Given as goal

abbrev pub invariant-loop-index : goal.invariant-loop-index
invariant-loop-index l = record {
  within : l.index ≤ length l.parameters;
  variables : map variable_seen l.variables ≡ parameter_variables (seen l.environment) (cells_in
      (take l.index l.taken)) (drop l.index l.parameters) ++ map variable_seen l.fn.variables;
}

abbrev pub decreases-loop-index : goal.decreases-loop-index
decreases-loop-index l = l.index
