-- Each end is what it comes to.
use Rattle.std.proofs.Common.{sym, subst}
use Rattle.vg_base.specs.declared.event.Event.TheVariants as event
use Rattle.c_meaning.specs.Blocks.{happens}
use Rattle.glib_model.specs.Ends.{finished}
use Rattle.c_run_state.specs.Shows.{Books}
use Rattle.c_run_state.proofs.state.Run.close.Goals as goal

pub returns-in-Value-clause-finished : goal.returns-in-Value-clause-finished
returns-in-Value-clause-finished c = λ env s books. subst (λ w. Books env c.give_cell.new.self (finished s w)) (sym c.in-Value.is) (c.give_cell.ensures.books env s books)

pub returns-in_ok-say-in-Print-clause-finished : goal.returns-in_ok-say-in-Print-clause-finished
returns-in_ok-say-in-Print-clause-finished c = λ env s books.
    subst (λ w. Books env c.give_nothing.new.self (finished s w)) (sym c.in-Print.is)
    (c.give_nothing.ensures.books env (happens s (event.Print c.in-Print.stream c.in-Print.bytes)) (c.in_ok-say-in-Print.ensures.books env s books))

pub returns-in-Aborted-clause-finished : goal.returns-in-Aborted-clause-finished
returns-in-Aborted-clause-finished c = λ env s books. subst (λ w. Books env c.stop.new.self (finished s w)) (sym c.in-Aborted.is) (c.stop.ensures.books env s books)

pub returns-in-Undefined-clause-finished : goal.returns-in-Undefined-clause-finished
returns-in-Undefined-clause-finished c = λ env s books. subst (λ w. Books env c.undefined.new.self (finished s w)) (sym c.in-Undefined.is) (c.undefined.ensures.books env s books)

pub returns-in_ok-ask_all-in-Calls-clause-finished : goal.returns-in_ok-ask_all-in-Calls-clause-finished
returns-in_ok-ask_all-in-Calls-clause-finished c = λ env s books.
    subst (λ w. Books env c.ask_all.new.self (finished s w)) (sym c.in-Calls.is) (c.in_ok-ask_all-in-Calls.ensures.books env s books)

pub returns-in-Waiting-clause-finished : goal.returns-in-Waiting-clause-finished
returns-in-Waiting-clause-finished c = λ env s books.
    subst (λ w. Books env c.stop-in-Waiting.new.self (finished s w)) (sym c.in-Waiting.is) (c.stop-in-Waiting.ensures.books env s books)
