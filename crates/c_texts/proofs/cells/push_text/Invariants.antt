-- The cells of the bytes before the place were added.
use Rattle.std.proofs.Common.{◌≡◌, ◌++◌, drop}
use Rattle.c_meaning.specs.Texts.{text_cells}
use Rattle.c_texts.proofs.cells.push_text.Given as goal

abbrev pub invariant-loop-byte : goal.invariant-loop-byte
invariant-loop-byte l = l.cells.items ++ text_cells (drop l.byte-index l.bytes) ≡ l.initial.cells.items ++ text_cells l.bytes
