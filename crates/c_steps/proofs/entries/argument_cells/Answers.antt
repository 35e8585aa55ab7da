-- No argument is left.
use Rattle.std.proofs.Common.{arith}
use Rattle.c_steps.proofs.Entered.{all_fit}
use Rattle.c_steps.proofs.entries.argument_cells.Goals as goal

pub returns : goal.returns
returns c = all_fit c.args.parameters.now c.args.values.now c.loop-index.cells.items c.loop-index.index (omega arith) c.loop-index.invariant
