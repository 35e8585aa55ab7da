use Rattle.std.proofs.Common.{refl}
use Rattle.c_printer.specs.PutItems.{next_parameter_marks, more_parameters_marks}
use Rattle.c_printer.proofs.MarkLemmas.{row_step}
use Rattle.c_printer.proofs.functions.put_more_parameters.Goals as goal

pub loop-parameter-preserved : goal.loop-parameter-preserved
loop-parameter-preserved c = row_step next_parameter_marks more_parameters_marks (λ x l. refl) c.args.parameters.now c.loop-parameter.parameter-index c.parameter-item.result _ _ _ c.loop-parameter-test.true c.parameter-item.is c.in_ok-put_next_parameter.ensures c.loop-parameter.invariant
