-- The bytes so far, one of each cell, stand in front of what the other cells answer.
use Rattle.std.proofs.Common.{◌≡◌, ◌≤◌, ◌-◌, drop, length}
use Rattle.c_meaning.specs.Texts.{bytes_up_to}
use Rattle.cell_heap.proofs.TextLaws.{behind}
use Rattle.c_texts.proofs.reading.bytes_up_to.Given as goal

abbrev pub invariant-loop-cell : goal.invariant-loop-cell
invariant-loop-cell l = (length l.text.items ≡ l.cell-index) × (l.cell-index ≤ l.most) × (bytes_up_to l.most l.cells ≡ behind l.text.items (bytes_up_to (l.most - l.cell-index) (drop l.cell-index l.cells)))
