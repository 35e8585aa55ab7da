-- The next power of two is the class.
use Rattle.cell_heap.proofs.Sizes.{class_is}
use Rattle.cell_heap.proofs.block.class_cells.Goals as goal

pub returns : goal.returns
returns c = class_is c.args.cells c.next_power_of_two.result c.requires c.next_power_of_two.ensures.power c.next_power_of_two.ensures.lower_bound c.next_power_of_two.ensures.upper_bound
