use Rattle.std.proofs.Common.{length}
use Rattle.vala_nodes.proofs.lists.+declared_span.Given as goal

abbrev pub decreases-declared_span : goal.decreases-declared_span
decreases-declared_span l = length l.names.now
