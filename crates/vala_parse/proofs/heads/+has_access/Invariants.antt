use Rattle.std.proofs.Common.{length}
use Rattle.vala_parse.proofs.heads.+has_access.Given as goal

abbrev pub decreases-has_access : goal.decreases-has_access
decreases-has_access l = length l.words.now
