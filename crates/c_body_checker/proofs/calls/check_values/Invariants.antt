use Rattle.std.proofs.Common.{◌≡◌, ◌++◌, drop, map}
use Rattle.c_tree.specs.Checks.{checked}
use Rattle.c_tree.specs.Rules.{all_checked, own_faults}
use Rattle.c_value_checker.specs.Noted.{noted}
use Rattle.c_body_checker.specs.Rows.{argument}
use Rattle.c_value_checker.specs.Seen.{seen}
use Rattle.c_body_checker.proofs.calls.check_values.Given as goal

abbrev pub invariant-loop-value : goal.invariant-loop-value
invariant-loop-value l = record {
  kept : l.found.items ++ map (argument (seen l.environment)) (all_checked checked (drop l.value-index l.values)) ≡ map (argument (seen l.environment))
      (all_checked checked l.values);
  faults : noted l.findings (own_faults (seen l.environment) (all_checked checked (drop l.value-index l.values))) ≡ noted l.fn.findings
      (own_faults (seen l.environment) (all_checked checked l.values));
}
