use Rattle.std.proofs.Common.{◌≡◌, ◌≤◌, length}
use Rattle.c_tree.specs.Checks.{prefix_kind}
use Rattle.c_value_checker.specs.Noted.{noted}
use Rattle.c_value_checker.specs.Prefixes.{operators_faults}
use Rattle.c_value_checker.specs.Seen.{seen}
use Rattle.c_value_checker.proofs.prefixes.apply_all.Given as goal

abbrev pub invariant-loop-operators : goal.invariant-loop-operators
invariant-loop-operators l = record {
  within : length l.operators ≤ length l.fn.operators;
  kinds : prefix_kind (seen l.environment) l.operators l.kind ≡ prefix_kind (seen l.environment) l.fn.operators l.fn.kind;
  faults : noted l.findings (operators_faults (seen l.environment) l.operators l.kind l.last) ≡ noted l.fn.findings (operators_faults (seen l.environment) l.fn.operators l.fn.kind l.last);
}

abbrev pub decreases-loop-operators : goal.decreases-loop-operators
decreases-loop-operators l = length l.operators
