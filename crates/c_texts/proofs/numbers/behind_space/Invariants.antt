-- What stands before the place is white space.
use Rattle.std.proofs.Common.{◌≡◌, drop}
use Rattle.c_meaning.specs.Texts.{behind_space}
use Rattle.c_texts.proofs.numbers.behind_space.Given as goal

abbrev pub invariant-loop-at : goal.invariant-loop-at
invariant-loop-at l = behind_space l.bytes ≡ behind_space (drop l.at l.bytes)
