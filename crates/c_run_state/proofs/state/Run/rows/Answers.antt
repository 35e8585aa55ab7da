-- One more row stands last.
use Rattle.std.proofs.Common.{arith}
use Rattle.c_run_state.proofs.Living.{rows_step}
use Rattle.c_run_state.proofs.state.Run.rows.Goals as goal

pub loop-index-preserved : goal.loop-index-preserved
loop-index-preserved c =
    rows_step c.args.self.now.heap c.args.self.now.kinds c.args.self.now.standings.items c.deref-standing-items.result.now c.loop-index.index _ _ c.loop-index.rows.items c.push_row.new.rows.items c.deref-standing-items.ensures.value (omega arith)
    c.in_ok-push_row.ensures c.loop-index.invariant
