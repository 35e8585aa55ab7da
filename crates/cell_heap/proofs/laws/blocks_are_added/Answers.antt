use Rattle.cell_heap.proofs.StateLaws.{blocks_added}
use Rattle.cell_heap.proofs.laws.blocks_are_added.Goals as goal

pub returns : goal.returns
returns c = blocks_added
