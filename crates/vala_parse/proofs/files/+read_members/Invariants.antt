use Rattle.std.proofs.Common.{◌-◌}
use Rattle.vala_parse.proofs.files.+read_members.Given as goal

abbrev pub decreases-read_members : goal.decreases-read_members
decreases-read_members l = 201 - l.level
