-- The cells so far are values.
use Rattle.std.proofs.Common.{◌≡◌, map, take}
use Rattle.c_meaning.specs.Steps.{scalars}
use Rattle.c_code.specs.Values.{value_seen}
use Rattle.c_steps.proofs.calls.scalars.Given as goal

abbrev pub invariant-loop-cell : goal.invariant-loop-cell
invariant-loop-cell l = map value_seen l.values.items ≡ scalars (take l.cell-index l.cells)
