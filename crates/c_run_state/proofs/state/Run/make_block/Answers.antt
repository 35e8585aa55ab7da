-- The block stands last in the heap, and is noted.
use Rattle.std.proofs.Common.{◌∙◌, ap, sym, refl, length, ◌++◌, ◌∷◌, [], Some}
use Rattle.c_meaning.specs.Blocks.{plain}
use Rattle.cell_heap.specs.Heap.{made}
use Rattle.cell_heap.specs.Runs.{run_stored}
use Rattle.cell_heap.proofs.StateLaws.{blocks_added}
use Rattle.glib_model.proofs.Filling.{filled}
use Rattle.c_run_state.proofs.Parts.{other_heap}
use Rattle.c_run_state.proofs.state.Run.make_block.Goals as goal

pub returns-clause-made : goal.returns-clause-made
returns-clause-made c = λ env s shows.
    let cells = c.args.cells.now in
    let heap = c.args.self.now.heap in
    let stored = c.set_cells.ensures.stored ∙ ap (λ h. run_stored h c.in-Ok.block 0 cells) c.in-Ok.ensures.made
    ∙ ap (λ n. run_stored (made heap (length cells)) n 0 cells) c.in-Ok.ensures.number ∙ filled heap (length cells) cells refl in
    record {
      heap = blocks_added s (plain cells) refl ∙ ap (λ h. h ++ Some cells ∷ []) shows.heap ∙ sym stored ∙ sym c.note_plain.ensures.heap;
      books = c.in_ok-note_plain.ensures.made cells env s (other_heap env c.args.self.now s c.set_cells.new.self shows.books);
    }
