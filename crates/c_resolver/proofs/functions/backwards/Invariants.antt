use Rattle.std.proofs.Common.{◌≡◌, ◌++◌, length, map, reverse}
use Rattle.c_resolver.specs.Routines.{routine_of}
use Rattle.c_resolver.proofs.functions.backwards.Given as goal

abbrev pub invariant-loop-one : goal.invariant-loop-one
invariant-loop-one l = map routine_of l.left ++ reverse l.found.items ≡ map routine_of l.fn.known

abbrev pub decreases-loop-one : goal.decreases-loop-one
decreases-loop-one l = length l.left
