use Rattle.std.proofs.Common.{◌≡◌, ◌≤◌, length}
use Rattle.c_value_checker.specs.Seen.{seen}
use Rattle.c_resolver.specs.Shown.{found_seen}
use Rattle.c_resolver.specs.Steps.{all_before}
use Rattle.c_resolver.proofs.prefixes.apply_all.Given as goal

abbrev pub invariant-loop-operators : goal.invariant-loop-operators
invariant-loop-operators l = record {
  within : length l.operators ≤ length l.fn.operators;
  told : all_before (seen l.environment) l.operators (found_seen (seen l.environment) l.found) ≡ all_before (seen l.environment) l.fn.operators (found_seen
      (seen l.environment) l.fn.found);
}

abbrev pub decreases-loop-operators : goal.decreases-loop-operators
decreases-loop-operators l = length l.operators
