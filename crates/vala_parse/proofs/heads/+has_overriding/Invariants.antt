use Rattle.std.proofs.Common.{length}
use Rattle.vala_parse.proofs.heads.+has_overriding.Given as goal

abbrev pub decreases-has_overriding : goal.decreases-has_overriding
decreases-has_overriding l = length l.words.now
