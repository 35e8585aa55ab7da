use Rattle.std.proofs.Common.{◌≡◌, ◌≤◌, length, map}
use Rattle.c_tree.specs.Env.{row_entries}
use Rattle.c_body_checker.specs.Rows.{row_seen}
use Rattle.c_checker.specs.Tables.{with_rows}
use Rattle.c_value_checker.specs.Seen.{seen}
use Rattle.c_checker.proofs.start.add_rows.Given as goal

abbrev pub invariant-loop-rows : goal.invariant-loop-rows
invariant-loop-rows l = record {
  within : length l.rows ≤ length l.fn.rows;
  names : with_rows (seen l.environment) (row_entries 0 (map row_seen l.rows)) ≡ with_rows (seen l.fn.environment) (row_entries 0 (map row_seen l.fn.rows));
}

abbrev pub decreases-loop-rows : goal.decreases-loop-rows
decreases-loop-rows l = length l.rows
