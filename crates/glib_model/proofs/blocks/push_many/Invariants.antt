-- So many cells were added.
use Rattle.std.proofs.Common.{◌≡◌, ◌++◌, replicate}
use Rattle.glib_model.proofs.blocks.push_many.Given as goal

abbrev pub invariant-loop-done : goal.invariant-loop-done
invariant-loop-done l = l.cells.items ≡ l.initial.cells.items ++ replicate l.done l.cell
