use Rattle.std.proofs.Common.{◌≡◌, ◌+◌, drop}
use Rattle.vala_lexer.specs.Texts.{sound_escapes, sound_behind}
use Rattle.vala_lexer.proofs.texts.sound_escapes.Given as goal

abbrev pub invariant-loop-i : goal.invariant-loop-i
invariant-loop-i l = sound_escapes l.bytes ≡ l.i + sound_behind l.escaped (drop l.i l.bytes)
