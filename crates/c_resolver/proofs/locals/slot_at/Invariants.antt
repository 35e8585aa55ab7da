use Rattle.std.proofs.Common.{◌≡◌, drop, map}
use Rattle.c_meaning.specs.Code.{slot_at}
use Rattle.c_resolver.specs.Plans.{slot_seen}
use Rattle.c_resolver.proofs.locals.slot_at.Given as goal

abbrev pub invariant-loop-slot : goal.invariant-loop-slot
invariant-loop-slot l = slot_at (map slot_seen (drop l.slot-index l.slots)) l.start ≡ slot_at (map slot_seen l.slots) l.start
