-- No byte before the place differs.
use Rattle.std.proofs.Common.{◌≡◌, drop}
use Rattle.c_meaning.specs.Texts.{compared}
use Rattle.c_texts.proofs.bytes.compare.Given as goal

abbrev pub invariant-loop-at : goal.invariant-loop-at
invariant-loop-at l = compared l.first l.second ≡ compared (drop l.at l.first) (drop l.at l.second)
