-- The new block is filled.
use Rattle.std.proofs.Common.{◌∙◌, ap, refl, length}
use Rattle.cell_heap.specs.Heap.{made}
use Rattle.cell_heap.specs.Runs.{run_stored}
use Rattle.glib_model.proofs.Filling.{filled}
use Rattle.glib_model.proofs.making.add_block.Goals as goal

pub returns-clause-added : goal.returns-clause-added
returns-clause-added c =
    c.set_cells.ensures.stored ∙ ap (λ h. run_stored h c.in-Ok.block 0 c.args.cells.now) c.in-Ok.ensures.made
    ∙ ap (λ n. run_stored (made c.args.heap.now (length c.args.cells.now)) n 0 c.args.cells.now) c.in-Ok.ensures.number ∙ filled c.args.heap.now (length c.args.cells.now) c.args.cells.now refl
