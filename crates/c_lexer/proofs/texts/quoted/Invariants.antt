use Rattle.std.proofs.Common.{◌≡◌, ◌+◌, drop}
use Rattle.std.specs.Option.{option_map}
use Rattle.c_lexer.specs.Texts.{quoted, quoted_behind}
use Rattle.c_lexer.proofs.texts.quoted.Given as goal

abbrev pub invariant-loop-i : goal.invariant-loop-i
invariant-loop-i l = quoted l.quote l.bytes ≡ option_map (λ n. l.i + n) (quoted_behind l.escaped l.quote (drop l.i l.bytes))
