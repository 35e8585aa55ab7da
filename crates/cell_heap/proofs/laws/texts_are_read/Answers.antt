use Rattle.cell_heap.proofs.TextLaws.{texts_read}
use Rattle.cell_heap.proofs.laws.texts_are_read.Goals as goal

pub returns : goal.returns
returns c = texts_read
