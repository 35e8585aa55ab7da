-- Unset is nothing, and all else a value.
use Rattle.std.proofs.Common.{sym, subst}
use Rattle.glib_model.specs.declared.ends.LibWhat.TheVariants as what
use Rattle.glib_model.specs.Ends.{finished}
use Rattle.c_run_state.specs.Shows.{Books}
use Rattle.c_run_state.proofs.Answering.{value_given}
use Rattle.c_run_state.proofs.state.Run.give_cell.Goals as goal

pub returns-in-Unset-clause-books : goal.returns-in-Unset-clause-books
returns-in-Unset-clause-books c = λ env s books. subst (λ x. Books env c.give_nothing.new.self (finished s (what.Value x))) (sym c.in-Unset.is) (c.give_nothing.ensures.books env s books)

pub returns : goal.returns
returns c =
    record { heap = c.give.ensures.heap; books = λ env s books. subst (Books env c.give.new.self) (sym (value_given s c.args.cell c.in_default.not-Unset)) (c.give.ensures.books env s books) }
