use Rattle.cell_heap.proofs.RunStores.{runs_stored}
use Rattle.cell_heap.proofs.laws.runs_are_stored.Goals as goal

pub returns : goal.returns
returns c = runs_stored
