use Rattle.std.proofs.Common.{◌≡◌, ◌+◌, drop}
use Rattle.std.specs.Option.{option_map}
use Rattle.vala_lexer.specs.Bytes.{place_of}
use Rattle.vala_lexer.proofs.bytes.place_of.Given as goal

abbrev pub invariant-loop-i : goal.invariant-loop-i
invariant-loop-i l = place_of l.ending l.bytes ≡ option_map (λ n. l.i + n) (place_of l.ending (drop l.i l.bytes))
