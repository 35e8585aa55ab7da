use Rattle.std.proofs.Common.{◌≡◌, drop, map}
use Rattle.c_meaning.specs.Values.{literal_in}
use Rattle.c_resolver.specs.Shown.{standing_seen}
use Rattle.c_resolver.proofs.lookups.literal_cell.Given as goal

abbrev pub invariant-loop-literal : goal.invariant-loop-literal
invariant-loop-literal l = literal_in (map standing_seen (drop l.literal-index l.literals)) l.start ≡ literal_in (map standing_seen l.literals) l.start
