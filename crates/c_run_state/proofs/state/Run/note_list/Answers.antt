-- The notes are those of the list.
use Rattle.std.proofs.Common.{◌∙◌, subst}
use Rattle.std.proofs.lemmas.Result.{on_ok_weaker}
use Rattle.glib_model.specs.Ends.{noted_all}
use Rattle.c_run_state.specs.Shows.{Books}
use Rattle.c_run_state.proofs.state.Run.note_list.Goals as goal

pub returns-clause-noted : goal.returns-clause-noted
returns-clause-noted c =
    on_ok_weaker c.note_all.result (λ done env s books. subst (λ ns. Books env c.note_all.new.self (noted_all s c.args.self.now.heap ns)) (c.as_slice.ensures.value ∙ c.notes.view_is) (done env s books)) c.note_all.ensures.noted
