-- The notes so far are done.
use Rattle.std.proofs.Common.{◌≡◌, take}
use Rattle.glib_model.specs.Ends.{noted_all}
use Rattle.c_run_state.specs.Shows.{BooksBecome}
use Rattle.c_run_state.proofs.state.Run.note_all.Given as goal

abbrev pub invariant-loop-note : goal.invariant-loop-note
invariant-loop-note l = (l.self.heap ≡ l.initial.self.heap) × BooksBecome (λ s. noted_all s l.initial.self.heap (take l.note-index l.notes)) l.initial.self l.self
