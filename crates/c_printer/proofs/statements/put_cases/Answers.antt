use Rattle.std.proofs.Common.{refl}
use Rattle.c_printer.specs.PutStatements.{case_line, cases_marks}
use Rattle.c_printer.proofs.MarkLemmas.{row_step}
use Rattle.c_printer.proofs.statements.put_cases.Goals as goal

pub loop-case-preserved : goal.loop-case-preserved
loop-case-preserved c = row_step (case_line c.args.indent) (cases_marks c.args.indent) (λ x l. refl) c.args.cases.now c.loop-case.case-index c.case-item.result _ _ _ c.loop-case-test.true c.case-item.is c.in_ok-put_case_line.ensures c.loop-case.invariant
