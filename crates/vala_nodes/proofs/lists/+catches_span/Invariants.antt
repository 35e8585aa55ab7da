use Rattle.std.proofs.Common.{length}
use Rattle.vala_nodes.proofs.lists.+catches_span.Given as goal

abbrev pub decreases-catches_span : goal.decreases-catches_span
decreases-catches_span l = length l.clauses.now
