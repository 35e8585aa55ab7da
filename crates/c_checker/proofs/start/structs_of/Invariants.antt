use Rattle.std.proofs.Common.{◌≡◌, ◌++◌, drop, map}
use Rattle.c_checker.specs.Tables.{struct_seen}
use Rattle.c_checker.proofs.start.structs_of.Given as goal

abbrev pub invariant-loop-row : goal.invariant-loop-row
invariant-loop-row l = l.found ++ map struct_seen (drop l.row-index l.rows) ≡ map struct_seen l.rows
