use Rattle.cell_heap.proofs.StateLaws.{freed_stay}
use Rattle.cell_heap.proofs.laws.freed_blocks_stay.Goals as goal

pub returns : goal.returns
returns c = freed_stay
