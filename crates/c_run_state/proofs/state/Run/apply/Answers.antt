-- The notes are done, and then what comes of it.
use Rattle.std.proofs.Common.{◌∙◌}
use Rattle.std.proofs.lemmas.Result.{on_ok_weaker}
use Rattle.glib_model.specs.Ends.{noted_all, stored}
use Rattle.c_run_state.proofs.Stores.{applied, books_refreshed}
use Rattle.c_run_state.proofs.state.Run.apply.Goals as goal

pub returns : goal.returns
returns c =
    on_ok_weaker c.close.result (λ closed env s after books tells.
    applied env c.args.self.now c.close.new.self s after c.args.answer (c.close.ensures.heap ∙ c.note_list.ensures.heap)
    (closed env (noted_all (stored s c.args.self.now.heap) c.args.self.now.heap c.args.answer.notes) (c.in_ok-note_list.ensures.noted env (stored s c.args.self.now.heap) (books_refreshed env c.args.self.now s c.args.self.now.heap books)))
    tells) c.close.ensures.finished
