use Rattle.std.proofs.Common.{length}
use Rattle.vala_nodes.proofs.lists.+statements_span.Given as goal

abbrev pub decreases-statements_span : goal.decreases-statements_span
decreases-statements_span l = length l.statements.now
