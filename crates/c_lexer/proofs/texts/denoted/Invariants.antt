use Rattle.std.proofs.Common.{◌≡◌, ◌++◌, drop}
use Rattle.c_lexer.specs.Texts.{denoted, denoted_behind}
use Rattle.c_lexer.proofs.texts.denoted.Given as goal

abbrev pub invariant-loop-i : goal.invariant-loop-i
invariant-loop-i l = denoted l.inside ≡ l.out.items ++ denoted_behind l.escaped (drop l.i l.inside)
