use Rattle.std.proofs.Common.{length}
use Rattle.vala_parse.proofs.heads.+async_in.Given as goal

abbrev pub decreases-async_in : goal.decreases-async_in
decreases-async_in l = length l.words.now
