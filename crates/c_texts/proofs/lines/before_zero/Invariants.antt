-- No zero stands before the place.
use Rattle.std.proofs.Common.{◌≡◌, ◌++◌, take, drop}
use Rattle.c_meaning.specs.Texts.{before_zero}
use Rattle.c_texts.proofs.lines.before_zero.Given as goal

abbrev pub invariant-loop-at : goal.invariant-loop-at
invariant-loop-at l = before_zero l.bytes ≡ take l.at l.bytes ++ before_zero (drop l.at l.bytes)
