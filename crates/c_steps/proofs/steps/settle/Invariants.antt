-- What is settled so far goes on as the whole.
use Rattle.std.proofs.Common.{◌-◌}
use Rattle.c_steps.proofs.Settling.{SettlesSoFar}
use Rattle.c_steps.proofs.steps.settle.Given as goal

abbrev pub invariant-loop-done : goal.invariant-loop-done
invariant-loop-done l = SettlesSoFar l.routines l.most (l.most - l.done) l.initial.run l.run
