use Rattle.std.proofs.Common.{◌≡◌, ◌+◌, drop}
use Rattle.c_lexer.specs.Bytes.{run}
use Rattle.c_lexer.proofs.bytes.run.Given as goal

abbrev pub invariant-loop-i : goal.invariant-loop-i
invariant-loop-i l = run l.class l.bytes ≡ l.i + run l.class (drop l.i l.bytes)
