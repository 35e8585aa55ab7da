use Rattle.std.proofs.Common.{refl}
use Rattle.c_printer.specs.PutValues.{next_argument_marks, more_arguments_marks}
use Rattle.c_printer.proofs.MarkLemmas.{row_step}
use Rattle.c_printer.proofs.calls.put_more_arguments.Goals as goal

pub loop-value-preserved : goal.loop-value-preserved
loop-value-preserved c = row_step (next_argument_marks c.args.brackets) (more_arguments_marks c.args.brackets) (λ x l. refl) c.args.values.now c.loop-value.value-index c.value-item.result _ _ _ c.loop-value-test.true c.value-item.is c.in_ok-put_next_argument.ensures c.loop-value.invariant
