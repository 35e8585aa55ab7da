use Rattle.std.proofs.Common.{◌≡◌, ◌+◌, drop}
use Rattle.c_resolver.specs.Plans.{cells_in}
use Rattle.c_resolver.proofs.bodies.cells_taken.Given as goal

abbrev pub invariant-loop-taken : goal.invariant-loop-taken
invariant-loop-taken l = l.cells + cells_in (drop l.taken-index l.found) ≡ cells_in l.found
