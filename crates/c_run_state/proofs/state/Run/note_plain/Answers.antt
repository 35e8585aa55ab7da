-- One more block is no thing.
use Rattle.std.proofs.lemmas.Result.{on_ok_weaker}
use Rattle.c_run_state.proofs.Notes.{plain_noted}
use Rattle.c_run_state.proofs.state.Run.note_plain.Goals as goal

pub returns-clause-made : goal.returns-clause-made
returns-clause-made c = on_ok_weaker c.append.result (λ more cells env s books. plain_noted env c.args.self.now s cells c.append.new.list more books) c.append.ensures
