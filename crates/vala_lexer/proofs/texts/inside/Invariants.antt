use Rattle.std.proofs.Common.{◌≡◌, ◌+◌, drop}
use Rattle.std.specs.Option.{option_map}
use Rattle.vala_lexer.specs.Texts.{inside, inside_behind}
use Rattle.vala_lexer.proofs.texts.inside.Given as goal

abbrev pub invariant-loop-i : goal.invariant-loop-i
invariant-loop-i l = inside l.quote l.bytes ≡ option_map (λ n. l.i + n) (inside_behind l.escaped l.quote (drop l.i l.bytes))
