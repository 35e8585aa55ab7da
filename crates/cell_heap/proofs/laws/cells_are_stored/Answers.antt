use Rattle.cell_heap.proofs.StateLaws.{cells_stored}
use Rattle.cell_heap.proofs.laws.cells_are_stored.Goals as goal

pub returns : goal.returns
returns c = cells_stored
