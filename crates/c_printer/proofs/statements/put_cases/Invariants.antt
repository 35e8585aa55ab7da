use Rattle.std.proofs.Common.{◌≡◌, drop}
use Rattle.c_printer.specs.Text.{seen}
use Rattle.c_printer.specs.Marks.{put_marks}
use Rattle.c_printer.specs.PutStatements.{cases_marks}
use Rattle.c_printer.proofs.statements.put_cases.Given as goal

abbrev pub invariant-loop-case : goal.invariant-loop-case
invariant-loop-case l = put_marks (seen l.out) (cases_marks l.indent (drop l.case-index l.cases)) ≡ put_marks (seen l.initial.out) (cases_marks l.indent l.cases)
