use Rattle.std.proofs.Common.{◌≡◌, ◌++◌, drop}
use Rattle.vala_lexer.specs.Texts.{denoted, denoted_behind}
use Rattle.text_values.proofs.texts.denoted.Given as goal

abbrev pub invariant-loop-i : goal.invariant-loop-i
invariant-loop-i l = denoted l.bytes ≡ l.value ++ denoted_behind l.taken (drop l.i l.bytes)
