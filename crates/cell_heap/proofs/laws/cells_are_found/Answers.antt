use Rattle.cell_heap.proofs.StateLaws.{cells_found}
use Rattle.cell_heap.proofs.laws.cells_are_found.Goals as goal

pub returns : goal.returns
returns c = cells_found
