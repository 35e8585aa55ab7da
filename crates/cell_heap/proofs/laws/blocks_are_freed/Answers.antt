use Rattle.cell_heap.proofs.StateLaws.{blocks_freed}
use Rattle.cell_heap.proofs.laws.blocks_are_freed.Goals as goal

pub returns : goal.returns
returns c = blocks_freed
