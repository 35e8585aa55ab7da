use Rattle.std.proofs.Common.{◌≡◌, drop, map}
use Rattle.c_printer.specs.Text.{seen}
use Rattle.c_printer.specs.Marks.{put_marks}
use Rattle.c_printer.specs.PutStatements.{lines, stmt_marks}
use Rattle.c_printer.proofs.statements.+statement.Given as goal

abbrev pub invariant-put_stmts-loop-stmt : goal.invariant-put_stmts-loop-stmt
invariant-put_stmts-loop-stmt l = put_marks (seen l.out) (lines l.indent (map (stmt_marks l.brackets) (drop l.stmt-index l.stmts))) ≡ put_marks (seen l.initial.out) (lines l.indent (map (stmt_marks l.brackets) l.stmts))
