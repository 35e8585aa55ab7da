use Rattle.std.proofs.Common.{◌≡◌, drop}
use Rattle.c_resolver.specs.Routines.{gives_in}
use Rattle.c_resolver.proofs.functions.gives_in.Given as goal

abbrev pub invariant-loop-other : goal.invariant-loop-other
invariant-loop-other l = gives_in (drop l.other-index l.known) l.name l.otherwise ≡ gives_in l.known l.name l.otherwise
