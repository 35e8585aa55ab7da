use Rattle.std.proofs.Common.{◌∙◌, refl, map}
use Rattle.c_tree.specs.Rules.{all_labels, all_targets}
use Rattle.c_body_checker.specs.Bodies.{of_statement}
use Rattle.c_body_checker.proofs.LabelLemmas.{kept_step}
use Rattle.c_body_checker.proofs.labels.+labels.Goals as goal

pub add_stmts-loop-stmt-preserved : goal.add_stmts-loop-stmt-preserved
add_stmts-loop-stmt-preserved t c = record {
  labels = kept_step (λ s. (of_statement s).labels) (λ l. all_labels (map of_statement l)) (λ x l. refl) c.args.stmts.now c.loop-stmt.stmt-index
      c.stmt-item.result c.loop-stmt.found.labels.items c.add_stmt.new.found.labels.items c.loop-stmt-test.true c.stmt-item.is c.in_ok-add_stmt.ensures.labels
      ∙ c.loop-stmt.invariant.labels;
  targets = kept_step (λ s. (of_statement s).targets) (λ l. all_targets (map of_statement l)) (λ x l. refl) c.args.stmts.now c.loop-stmt.stmt-index
      c.stmt-item.result c.loop-stmt.found.targets.items c.add_stmt.new.found.targets.items c.loop-stmt-test.true c.stmt-item.is c.in_ok-add_stmt.ensures.targets
      ∙ c.loop-stmt.invariant.targets;
}
