-- So many cells of the run are stored.
use Rattle.std.proofs.Common.{◌≡◌, take}
use Rattle.c_meaning.specs.Blocks.{over}
use Rattle.cell_heap.proofs.runs.store_run.Given as goal

abbrev pub invariant-loop-k : goal.invariant-loop-k
invariant-loop-k l = l.block ≡ over l.initial.block l.start (take l.k l.run)
