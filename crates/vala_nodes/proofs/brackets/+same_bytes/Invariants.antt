use Rattle.std.proofs.Common.{length}
use Rattle.vala_nodes.proofs.brackets.+same_bytes.Given as goal

abbrev pub decreases-same_bytes : goal.decreases-same_bytes
decreases-same_bytes l = length l.one.now
