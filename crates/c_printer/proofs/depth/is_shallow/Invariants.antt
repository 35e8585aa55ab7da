use Rattle.c_lexer.specs.Tokens.{left}
use Rattle.c_printer.proofs.DepthLemmas.{Reaches}
use Rattle.c_printer.proofs.depth.is_shallow.Given as goal

abbrev pub invariant-loop : goal.invariant-loop
invariant-loop l = Reaches (left l.lexer) l.signs.items l.bytes
