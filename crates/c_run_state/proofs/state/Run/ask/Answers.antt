-- The call stands last, which is next.
use Rattle.std.proofs.lemmas.Result.{on_ok_weaker}
use Rattle.c_run_state.proofs.Asking.{call_asked}
use Rattle.c_run_state.proofs.state.Run.ask.Goals as goal

pub returns-clause-books : goal.returns-clause-books
returns-clause-books c = on_ok_weaker c.append.result (call_asked c.args.self.now c.args.call c.args-2.inside.list c.append.new.list c.args-2.view_is) c.append.ensures
