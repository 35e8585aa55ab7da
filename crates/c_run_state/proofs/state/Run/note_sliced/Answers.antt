-- One more block is no thing, and its mark says how it was made.
use Rattle.std.proofs.Common.{◌+◌, ◌∙◌, ap}
use Rattle.std.proofs.lemmas.Result.{on_ok_weaker}
use Rattle.c_run_state.proofs.Notes.{sliced_noted}
use Rattle.c_run_state.proofs.state.Run.note_sliced.Goals as goal

pub returns-clause-made : goal.returns-clause-made
returns-clause-made c =
    on_ok_weaker c.append.result (λ more cells env s books. sliced_noted env c.args.self.now s cells c.add.new.self c.append.new.list (c.len.result + 1) (ap (λ n. n + 1) (c.len.ensures ∙ c.args.self.now.standings.ok.0)) c.in_ok-add.ensures.added more books) c.append.ensures
