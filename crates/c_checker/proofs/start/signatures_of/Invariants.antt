use Rattle.std.proofs.Common.{◌≡◌, ◌++◌, drop, map}
use Rattle.c_checker.specs.Tables.{signature_seen}
use Rattle.c_value_checker.specs.Seen.{takes_seen}
use Rattle.c_checker.proofs.start.signatures_of.Given as goal

abbrev pub invariant-loop-row : goal.invariant-loop-row
invariant-loop-row l = map takes_seen l.found ++ map signature_seen (drop l.row-index l.rows) ≡ map signature_seen l.rows
