use Rattle.std.proofs.Common.{◌≡◌, ◌++◌, drop, map}
use Rattle.c_tree.specs.Rules.{all_labels, all_targets}
use Rattle.c_body_checker.specs.Bodies.{of_statement}
use Rattle.c_body_checker.proofs.labels.+labels.Given as goal

abbrev pub invariant-add_stmts-loop-stmt : goal.invariant-add_stmts-loop-stmt
invariant-add_stmts-loop-stmt l = record {
  labels : l.found.labels.items ++ all_labels (map of_statement (drop l.stmt-index l.stmts)) ≡ l.fn.found.labels.items ++ all_labels (map of_statement l.stmts);
  targets : l.found.targets.items ++ all_targets (map of_statement (drop l.stmt-index l.stmts)) ≡ l.fn.found.targets.items
      ++ all_targets (map of_statement l.stmts);
}
