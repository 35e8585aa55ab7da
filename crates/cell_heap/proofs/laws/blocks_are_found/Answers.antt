use Rattle.cell_heap.proofs.StateLaws.{blocks_found}
use Rattle.cell_heap.proofs.laws.blocks_are_found.Goals as goal

pub returns : goal.returns
returns c = blocks_found
