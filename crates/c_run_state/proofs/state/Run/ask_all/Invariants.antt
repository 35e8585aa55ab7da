-- The calls behind those that are left were asked for.
use Rattle.std.proofs.Common.{◌≡◌, length}
use Rattle.c_run_state.proofs.Asking.{AsksSoFar}
use Rattle.c_run_state.proofs.state.Run.ask_all.Given as goal

abbrev pub invariant-loop-call : goal.invariant-loop-call
invariant-loop-call l = (l.self.heap ≡ l.initial.self.heap) × AsksSoFar l.initial.self l.self l.fn.calls l.left.items

abbrev pub decreases-loop-call : goal.decreases-loop-call
decreases-loop-call l = length l.left.items
