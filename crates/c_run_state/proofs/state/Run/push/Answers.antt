-- The item stands last, which is next.
use Rattle.std.proofs.lemmas.Result.{on_ok_weaker}
use Rattle.c_run_state.proofs.Parts.{with_work}
use Rattle.c_run_state.proofs.state.Run.push.Goals as goal

pub returns : goal.returns
returns c =
    on_ok_weaker c.append.result (λ more env s sized shows. record { heap = shows.heap; books = with_work env c.args.self.now s c.args.work c.append.new.list more sized shows.books }) c.append.ensures
