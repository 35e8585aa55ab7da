use Rattle.std.proofs.Common.{◌≡◌, ◌≤◌, length, map}
use Rattle.c_checker.specs.Tables.{named_seen, with_types}
use Rattle.c_value_checker.specs.Seen.{seen}
use Rattle.c_checker.proofs.start.add_types.Given as goal

abbrev pub invariant-loop-types : goal.invariant-loop-types
invariant-loop-types l = record {
  within : length l.types ≤ length l.fn.types;
  names : with_types (seen l.environment) (map named_seen l.types) ≡ with_types (seen l.fn.environment) (map named_seen l.fn.types);
}

abbrev pub decreases-loop-types : goal.decreases-loop-types
decreases-loop-types l = length l.types
