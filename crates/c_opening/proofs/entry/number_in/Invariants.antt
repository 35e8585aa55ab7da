-- No name so far is the one that is looked for.
use Rattle.std.proofs.Common.{◌≡◌, drop}
use Rattle.c_opening.specs.Opens.{routine_at}
use Rattle.c_opening.proofs.entry.number_in.Given as goal

abbrev pub invariant-loop-number : goal.invariant-loop-number
invariant-loop-number l = routine_at l.number (drop l.number l.names) l.name ≡ routine_at 0 l.names l.name
