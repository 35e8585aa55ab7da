use Rattle.std.proofs.Common.{◌≡◌, drop, map}
use Rattle.c_meaning.specs.Values.{static_in}
use Rattle.c_resolver.specs.Shown.{fixed_seen}
use Rattle.c_resolver.proofs.lookups.static_place.Given as goal

abbrev pub invariant-loop-fixed : goal.invariant-loop-fixed
invariant-loop-fixed l = static_in (map fixed_seen (drop l.fixed-index l.statics)) l.name ≡ static_in (map fixed_seen l.statics) l.name
