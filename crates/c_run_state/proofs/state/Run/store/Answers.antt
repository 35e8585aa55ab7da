-- The cells of the value are stored.
use Rattle.std.proofs.Common.{sym, subst}
use Rattle.c_meaning.specs.Blocks.{set_cells}
use Rattle.c_meaning.specs.Steps.{store}
use Rattle.c_code.specs.Values.{place_seen, value_seen}
use Rattle.c_run_state.specs.Shows.{Shows}
use Rattle.c_run_state.proofs.state.Run.store.Goals as goal

pub returns-in-Scalar : goal.returns-in-Scalar
returns-in-Scalar c = λ env s shows. subst (λ v. Shows env c.set_cells.new.self (store s (place_seen c.args.place) (value_seen v))) (sym c.in-Scalar.is) (c.set_cells.ensures env s shows)

pub returns-in-Struct : goal.returns-in-Struct
returns-in-Struct c = λ env s shows.
    subst (λ v. Shows env c.set_cells-in-Struct.new.self (store s (place_seen c.args.place) (value_seen v))) (sym c.in-Struct.is)
    (subst (λ cells. Shows env c.set_cells-in-Struct.new.self (set_cells s (place_seen c.args.place) cells)) c.as_slice.ensures.value (c.set_cells-in-Struct.ensures env s shows))
