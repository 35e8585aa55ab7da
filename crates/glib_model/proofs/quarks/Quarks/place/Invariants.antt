-- The text does not stand before the place.
use Rattle.std.proofs.Common.{◌≡◌, suc, drop}
use Rattle.c_meaning.specs.BlockRows.{quark_in}
use Rattle.glib_model.proofs.quarks.Quarks.place.Given as goal

abbrev pub invariant-loop-at : goal.invariant-loop-at
invariant-loop-at l = quark_in 1 l.self l.text ≡ quark_in (suc l.at) (drop l.at l.self) l.text
