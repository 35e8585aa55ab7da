use Rattle.std.proofs.Common.{◌∙◌, map, refl}
use Rattle.c_resolver.specs.Plans.{all_labels, labels_in}
use Rattle.c_resolver.proofs.ListLemmas.{kept_step}
use Rattle.c_resolver.proofs.labels.+labels.Goals as goal

pub add_labels-loop-stmt-preserved : goal.add_labels-loop-stmt-preserved
add_labels-loop-stmt-preserved t c = kept_step labels_in (λ l. all_labels (map labels_in l))
    (λ x l. refl) c.args.stmts.now c.loop-stmt.stmt-index c.stmt-item.result c.loop-stmt.labels c.add_stmt_labels.new.labels
    c.loop-stmt-test.true c.stmt-item.is c.in_ok-add_stmt_labels.ensures ∙ c.loop-stmt.invariant
