use Rattle.std.proofs.Common.{length}
use Rattle.vala_nodes.proofs.lists.+labels_span.Given as goal

abbrev pub decreases-labels_span : goal.decreases-labels_span
decreases-labels_span l = length l.labels.now
