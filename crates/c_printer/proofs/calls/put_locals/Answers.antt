use Rattle.std.proofs.Common.{refl, ◌∷◌}
use Rattle.c_printer.specs.Marks.{Line}
use Rattle.c_printer.specs.PutStatements.{local_marks, locals_marks}
use Rattle.c_printer.proofs.MarkLemmas.{row_step}
use Rattle.c_printer.proofs.calls.put_locals.Goals as goal

pub loop-local-preserved : goal.loop-local-preserved
loop-local-preserved c = row_step (λ l. Line c.args.indent ∷ local_marks l) (locals_marks c.args.indent) (λ x l. refl) c.args.locals.now c.loop-local.local-index c.local-item.result _ _ _ c.loop-local-test.true c.local-item.is c.in_ok-put_local_line.ensures c.loop-local.invariant
