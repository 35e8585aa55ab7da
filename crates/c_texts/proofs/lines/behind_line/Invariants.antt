-- No line feed stands before the place.
use Rattle.std.proofs.Common.{◌≡◌, drop}
use Rattle.c_meaning.specs.Texts.{behind_line}
use Rattle.c_texts.proofs.lines.behind_line.Given as goal

abbrev pub invariant-loop-at : goal.invariant-loop-at
invariant-loop-at l = behind_line l.bytes ≡ behind_line (drop l.at l.bytes)
