use Rattle.cell_heap.proofs.RunLaws.{runs_found}
use Rattle.cell_heap.proofs.laws.runs_are_found.Goals as goal

pub returns : goal.returns
returns c = runs_found
