use Rattle.std.proofs.Common.{◌≡◌, ◌≤◌, length}
use Rattle.c_tree.specs.Checks.{prefixes_worth}
use Rattle.c_constants.specs.Told.{worth_told}
use Rattle.c_value_checker.specs.Seen.{seen}
use Rattle.c_constants.proofs.constants.prefixes_worth.Given as goal

abbrev pub invariant-loop-operators : goal.invariant-loop-operators
invariant-loop-operators l = record {
  within : length l.operators ≤ length l.fn.operators;
  worths : prefixes_worth (seen l.environment) l.operators l.kind (worth_told l.worth) ≡ prefixes_worth (seen l.environment) l.fn.operators l.fn.kind (worth_told l.fn.worth);
}

abbrev pub decreases-loop-operators : goal.decreases-loop-operators
decreases-loop-operators l = length l.operators
