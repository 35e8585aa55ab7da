-- One more note is done.
use Rattle.std.proofs.Common.{◌∙◌, subst, take, arith}
use Rattle.std.proofs.lemmas.List.{take_all}
use Rattle.glib_model.specs.Ends.{noted_all}
use Rattle.c_run_state.specs.Shows.{Books}
use Rattle.c_run_state.proofs.Answering.{note_step}
use Rattle.c_run_state.proofs.state.Run.note_all.Goals as goal

pub loop-note-preserved : goal.loop-note-preserved
loop-note-preserved c = (
  c.note.ensures.heap ∙ c.loop-note.invariant.0,
  λ env s books.
      note_step env c.note.new.self s c.args.self.now.heap c.loop-note.self.heap c.args.notes.now c.loop-note.note-index _ (omega arith) c.loop-note.invariant.0
      (c.in_ok-note.ensures.noted env (noted_all s c.args.self.now.heap (take c.loop-note.note-index c.args.notes.now)) (c.loop-note.invariant.1 env s books)),
)

pub returns-clause-noted : goal.returns-clause-noted
returns-clause-noted c = λ env s books.
    subst (λ ns. Books env c.loop-note.self (noted_all s c.args.self.now.heap ns)) (take_all c.loop-note.note-index c.args.notes.now (omega arith)) (c.loop-note.invariant.1 env s books)
