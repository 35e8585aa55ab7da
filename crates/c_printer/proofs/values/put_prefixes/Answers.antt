use Rattle.std.proofs.Common.{refl}
use Rattle.c_printer.specs.PutValues.{prefix_marks, prefixes_marks}
use Rattle.c_printer.proofs.MarkLemmas.{row_step}
use Rattle.c_printer.proofs.values.put_prefixes.Goals as goal

pub loop-operator-preserved : goal.loop-operator-preserved
loop-operator-preserved c = row_step (λ p. prefix_marks p.prefix) prefixes_marks (λ x l. refl) c.args.operators.now c.loop-operator.operator-index c.operator-item.result _ _ _ c.loop-operator-test.true c.operator-item.is c.in_ok-put_prefix.ensures c.loop-operator.invariant
