use Rattle.std.proofs.Common.{◌≡◌, drop}
use Rattle.c_printer.specs.Text.{seen}
use Rattle.c_printer.specs.Marks.{put_marks}
use Rattle.c_printer.specs.PutStatements.{locals_marks}
use Rattle.c_printer.proofs.calls.put_locals.Given as goal

abbrev pub invariant-loop-local : goal.invariant-loop-local
invariant-loop-local l = put_marks (seen l.out) (locals_marks l.indent (drop l.local-index l.locals)) ≡ put_marks (seen l.initial.out) (locals_marks l.indent l.locals)
