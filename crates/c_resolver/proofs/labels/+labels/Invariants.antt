use Rattle.std.proofs.Common.{◌≡◌, ◌++◌, drop, map}
use Rattle.c_resolver.specs.Plans.{all_labels, labels_in}
use Rattle.c_resolver.proofs.labels.+labels.Given as goal

abbrev pub invariant-add_labels-loop-stmt : goal.invariant-add_labels-loop-stmt
invariant-add_labels-loop-stmt l = l.labels ++ all_labels (map labels_in (drop l.stmt-index l.stmts)) ≡ l.fn.labels ++ all_labels (map labels_in l.stmts)
