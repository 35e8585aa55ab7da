-- The next item is taken off and done.
use Rattle.std.proofs.Common.{subst}
use Rattle.std.proofs.lemmas.Result.{on_ok_weaker}
use Rattle.c_run_state.specs.Shows.{Popped}
use Rattle.c_steps.proofs.Taken.{first_done, none_first}
use Rattle.c_steps.proofs.steps.do_next_silent.Goals as goal

pub returns-in-None : goal.returns-in-None
returns-in-None c = none_first c.args.routines.now c.args.run.now c.pop.new.self (subst (λ r. Popped r c.args.run.now c.pop.new.self) c.in-None.is c.pop.ensures)

pub returns-in-Some : goal.returns-in-Some
returns-in-Some c =
    on_ok_weaker c.do_silent.result
    (λ does. first_done c.args.routines.now c.in-Some.work c.args.run.now c.pop.new.self c.do_silent.new.run
    (subst (λ r. Popped r c.args.run.now c.pop.new.self) c.in-Some.is c.pop.ensures) does) c.do_silent.ensures
