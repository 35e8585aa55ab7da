-- The items so far have blocks.
use Rattle.std.proofs.Common.{take}
use Rattle.c_meaning.specs.Runs.{with_statics}
use Rattle.c_opening.specs.Opens.{Becomes, unit_of}
use Rattle.c_opening.proofs.opening.Opening.add_statics.Given as goal

abbrev pub invariant-loop-item : goal.invariant-loop-item
invariant-loop-item l = Becomes (λ s. with_statics (unit_of l.initial.self) s (take l.item-index l.items)) l.initial.self l.self
