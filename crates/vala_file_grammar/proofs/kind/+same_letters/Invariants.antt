use Rattle.std.proofs.Common.{length}
use Rattle.vala_file_grammar.proofs.kind.+same_letters.Given as goal

abbrev pub decreases-same_letters : goal.decreases-same_letters
decreases-same_letters l = length l.one.now
