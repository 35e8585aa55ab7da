use Rattle.std.proofs.Common.{◌≡◌, ◌++◌, drop, map}
use Rattle.c_checker.specs.Tables.{kind_seen}
use Rattle.c_tree.specs.Library.{all}
use Rattle.c_checker.proofs.start.kinds_of.Given as goal

abbrev pub invariant-loop-row : goal.invariant-loop-row
invariant-loop-row l = l.kinds ++ all (map kind_seen (drop l.row-index l.rows)) ≡ all (map kind_seen l.rows)
