use Rattle.std.proofs.Common.{◌-◌}
use Rattle.vala_expressions.specs.Asks.{depth, weight}
use Rattle.vala_parse_expr.proofs.reader.+read.Given as goal

abbrev pub decreases-read : goal.decreases-read
decreases-read l = 40804 - weight (depth l.ask) l.level
