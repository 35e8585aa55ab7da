use Rattle.std.proofs.Common.{◌≡◌, take}
use Rattle.tree_copies.proofs.names.names.Given as goal

abbrev pub invariant-loop-each : goal.invariant-loop-each
invariant-loop-each l = l.copy ≡ take l.each-index l.names
