-- What was added marks nothing.
use Rattle.std.proofs.Common.{◌≡◌, ◌≤◌, ℕ, length}
use Rattle.glib_model.specs.Kinds.{mark_at}
use Rattle.glib_model.proofs.kinds.grow.Given as goal

abbrev pub invariant-loop-done : goal.invariant-loop-done
invariant-loop-done l = (l.done ≤ length l.marks.items) × ((k : ℕ) → mark_at l.marks.items k ≡ mark_at l.initial.marks.items k)
