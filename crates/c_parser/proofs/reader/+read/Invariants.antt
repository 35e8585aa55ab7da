use Rattle.std.proofs.Common.{◌-◌}
use Rattle.c_parser.proofs.reader.+read.Given as goal

abbrev pub decreases-read : goal.decreases-read
decreases-read l = 65 - l.level
