-- The first cells of those from a place on.
use Rattle.cell_heap.proofs.RunLaws.{part_is}
use Rattle.cell_heap.proofs.runs.part.Goals as goal

pub returns : goal.returns
returns c =
    let rest = c.in_ok-rest.ensures.lookup in
    part_is c.args.cells.now c.in_ok-rest.rest.now c.args.at c.args.count c.get-2.result rest.0.0 rest.0.2 c.get-2.ensures.lookup
