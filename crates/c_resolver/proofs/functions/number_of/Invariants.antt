use Rattle.std.proofs.Common.{◌≡◌, ◌+◌, drop}
use Rattle.c_resolver.specs.Routines.{number_in}
use Rattle.c_resolver.proofs.functions.number_of.Given as goal

abbrev pub invariant-loop-number : goal.invariant-loop-number
invariant-loop-number l = l.number + number_in (drop l.number l.known) l.name ≡ number_in l.known l.name
