-- No line feed stands before the place.
use Rattle.std.proofs.Common.{◌≡◌, ◌++◌, take, drop}
use Rattle.c_meaning.specs.Texts.{line_of}
use Rattle.c_texts.proofs.lines.line_of.Given as goal

abbrev pub invariant-loop-at : goal.invariant-loop-at
invariant-loop-at l = line_of l.bytes ≡ take l.at l.bytes ++ line_of (drop l.at l.bytes)
