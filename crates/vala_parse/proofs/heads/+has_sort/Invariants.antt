use Rattle.std.proofs.Common.{length}
use Rattle.vala_parse.proofs.heads.+has_sort.Given as goal

abbrev pub decreases-has_sort : goal.decreases-has_sort
decreases-has_sort l = length l.words.now
