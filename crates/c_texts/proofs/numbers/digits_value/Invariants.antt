-- The digits from the place on finish the number.
use Rattle.std.proofs.Common.{◌≡◌, ◌≤◌, ◌^◌, drop, min}
use Rattle.c_meaning.specs.Texts.{digits_from}
use Rattle.c_texts.proofs.numbers.digits_value.Given as goal

abbrev pub invariant-loop-byte : goal.invariant-loop-byte
invariant-loop-byte l = (l.number ≤ 2 ^ 63) × (min (digits_from l.number (drop l.byte-index l.bytes)) (2 ^ 63) ≡ min (digits_from 0 l.bytes) (2 ^ 63))
