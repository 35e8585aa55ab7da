use Rattle.std.proofs.Common.{length}
use Rattle.vala_parse.proofs.heads.+has_async.Given as goal

abbrev pub decreases-has_async : goal.decreases-has_async
decreases-has_async l = length l.words.now
