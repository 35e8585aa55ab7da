-- The rows so far stand in front of those of the other blocks.
use Rattle.std.proofs.Common.{◌≡◌, ◌++◌, suc, drop}
use Rattle.c_run_state.specs.Rows.{rows_from}
use Rattle.c_run_state.proofs.state.Run.rows.Given as goal

abbrev pub invariant-loop-index : goal.invariant-loop-index
invariant-loop-index l = rows_from l.self.heap l.self.kinds 1 l.self.standings.items ≡ l.rows.items ++ rows_from l.self.heap l.self.kinds (suc l.index) (drop l.index l.self.standings.items)
