use Rattle.std.proofs.Common.{◌≡◌, drop}
use Rattle.vala_lexer.specs.Cut.{begins_line, is_clear}
use Rattle.vala_lexer.proofs.cut.begins_line.Given as goal

abbrev pub invariant-loop-byte : goal.invariant-loop-byte
invariant-loop-byte l = begins_line l.front ≡ is_clear l.clear (drop l.byte-index l.front)
