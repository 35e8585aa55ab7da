use Rattle.std.proofs.Common.{◌≡◌, ◌+◌, drop}
use Rattle.std.specs.Option.{option_map}
use Rattle.c_lexer.specs.Bytes.{comment_end}
use Rattle.c_lexer.proofs.bytes.comment_end.Given as goal

abbrev pub invariant-loop-i : goal.invariant-loop-i
invariant-loop-i l = comment_end l.bytes ≡ option_map (λ n. l.i + n) (comment_end (drop l.i l.bytes))
