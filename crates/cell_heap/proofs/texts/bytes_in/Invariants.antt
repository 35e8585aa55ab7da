-- The bytes so far stand in front of what the other cells answer.
use Rattle.std.proofs.Common.{◌≡◌, drop}
use Rattle.c_meaning.specs.Texts.{bytes_in}
use Rattle.cell_heap.proofs.TextLaws.{behind}
use Rattle.cell_heap.proofs.texts.bytes_in.Given as goal

abbrev pub invariant-loop-cell : goal.invariant-loop-cell
invariant-loop-cell l = bytes_in l.cells ≡ behind l.text.items (bytes_in (drop l.cell-index l.cells))
