use Rattle.cell_heap.proofs.StateLaws.{blocks_numbered, blocks_made}
use Rattle.cell_heap.proofs.laws.blocks_are_made.Goals as goal

pub returns-clause-numbered : goal.returns-clause-numbered
returns-clause-numbered c = blocks_numbered

pub returns-clause-made : goal.returns-clause-made
returns-clause-made c = blocks_made
