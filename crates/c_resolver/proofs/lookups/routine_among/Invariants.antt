use Rattle.std.proofs.Common.{◌≡◌, drop, map}
use Rattle.c_meaning.specs.Values.{routine_in}
use Rattle.c_resolver.specs.Shown.{named_alone}
use Rattle.c_resolver.proofs.lookups.routine_among.Given as goal

abbrev pub invariant-loop-number : goal.invariant-loop-number
invariant-loop-number l = routine_in l.number (map named_alone (drop l.number l.routines)) l.name ≡ routine_in 0 (map named_alone l.routines) l.name
