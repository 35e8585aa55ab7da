-- The cells are stored, or they are not and the run ends.
use Rattle.std.proofs.Common.{◌≡◌, ◌∙◌, sym, ap, subst}
use Rattle.c_meaning.specs.Blocks.{undefined}
use Rattle.cell_heap.specs.Heap.{cells_of}
use Rattle.c_code.specs.Values.{place_seen}
use Rattle.c_run_state.specs.Shows.{Shows}
use Rattle.c_run_state.specs.Stores.{no_store}
use Rattle.c_run_state.proofs.Parts.{other_heap}
use Rattle.c_run_state.proofs.Stores.{cells_stored, not_stored}
use Rattle.c_run_state.proofs.state.Run.set_cells.Goals as goal

pub returns-then-not-set_cells : goal.returns-then-not-set_cells
returns-then-not-set_cells c = λ env s shows.
    let none = sym c.if-not-set_cells.true ∙ c.set_cells.ensures.is_there in
    let kept : c.set_cells.new.self ≡ c.args.self.now.heap = c.set_cells.ensures.unchanged c.if-not-set_cells.true in
    let why : c.no_store-kind.result ≡ no_store (cells_of c.args.self.now.heap c.args.place.block) = c.no_store-kind.ensures ∙ ap (λ h. no_store (cells_of h c.args.place.block)) kept in
    subst (Shows env c.undefined.new.self) (sym (not_stored env c.args.self.now s (place_seen c.args.place) c.args.cells.now shows none ∙ ap (undefined s) (sym why)))
    (c.undefined.ensures.shows env s (record { heap = shows.heap ∙ sym kept; books = other_heap env c.args.self.now s c.set_cells.new.self shows.books }))

pub returns-else-not-set_cells : goal.returns-else-not-set_cells
returns-else-not-set_cells c = λ env s shows.
    cells_stored env c.args.self.now s (place_seen c.args.place) c.args.cells.now c.set_cells.new.self shows (sym c.if-not-set_cells.false ∙ c.set_cells.ensures.is_there) c.set_cells.ensures.stored
