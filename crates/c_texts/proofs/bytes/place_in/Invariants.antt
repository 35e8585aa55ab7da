-- The part does not stand before the place.
use Rattle.std.proofs.Common.{◌≡◌, ◌+◌, drop, option_map}
use Rattle.c_meaning.specs.Texts.{place_in}
use Rattle.c_texts.proofs.bytes.place_in.Given as goal

abbrev pub invariant-loop-at : goal.invariant-loop-at
invariant-loop-at l = place_in l.part l.bytes ≡ option_map (λ k. l.at + k) (place_in l.part (drop l.at l.bytes))
