use Rattle.std.proofs.Common.{◌∙◌, refl, sym, ap, map, [], ◌∷◌, ◌++◌}
use Rattle.c_lexer.specs.declared.token.Sign.TheVariants as sign
use Rattle.c_printer.specs.Marks.{Line, ASign}
use Rattle.c_printer.specs.PutStatements.{lines, stmt_marks, block_marks, locals_marks, close_marks, if_head_marks, else_block_marks}
use Rattle.c_printer.specs.Text.{seen}
use Rattle.c_printer.proofs.MarkLemmas.{row_step, two_put, put_both, on_ok}
use Rattle.c_printer.proofs.StatementReading.{if_written, block_out, head_apart}
use Rattle.c_printer.proofs.statements.+statement.Goals as goal

pub put_stmts-loop-stmt-preserved : goal.put_stmts-loop-stmt-preserved
put_stmts-loop-stmt-preserved t c = row_step (λ s. Line c.args.indent ∷ stmt_marks c.args.brackets s c.args.indent) (λ l. lines c.args.indent (map (stmt_marks c.args.brackets) l)) (λ x l. refl) c.args.stmts.now c.loop-stmt.stmt-index c.stmt-item.result _ _ _ c.loop-stmt-test.true c.stmt-item.is c.in_ok-put_stmt_line.ensures c.loop-stmt.invariant

pub put_block-returns : goal.put_block-returns
put_block-returns t c = on_ok c.put_close.result c.put_close.ensures (λ e.
    two_put (seen c.args.out.now) (seen c.put_stmts.new.out) (seen c.put_close.new.out) (ASign sign.OpenBrace ∷ locals_marks c.deeper.result c.as_slice.result.now ++ lines c.deeper-2.result (map (stmt_marks c.args.brackets) c.as_slice-2.result.now)) (close_marks c.args.indent) _
    (put_both (seen c.args.out.now) (seen c.put_locals.new.out) (seen c.put_stmts.new.out) (ASign sign.OpenBrace ∷ locals_marks c.deeper.result c.as_slice.result.now) (lines c.deeper-2.result (map (stmt_marks c.args.brackets) c.as_slice-2.result.now))
    (put_both (seen c.args.out.now) (seen c.token.new.self) (seen c.put_locals.new.out) (ASign sign.OpenBrace ∷ []) (locals_marks c.deeper.result c.as_slice.result.now) c.in_ok-token.ensures c.in_ok-put_locals.ensures) c.in_ok-put_stmts.ensures) e
    ((λ i. ASign sign.OpenBrace ∷ locals_marks (c.deeper.ensures i) (c.as_slice.ensures i) ++ lines (c.deeper-2.ensures i) (map (stmt_marks c.args.brackets) (c.as_slice-2.ensures i)) ++ close_marks c.args.indent) ∙ sym (block_out c.args.brackets c.args.block.now c.args.indent)))

pub put_stmt-returns-in_ok-put_block-in-If : goal.put_stmt-returns-in_ok-put_block-in-If
put_stmt-returns-in_ok-put_block-in-If t c = on_ok c.put_else.result c.put_else.ensures (λ e.
    two_put (seen c.args.out.now) (seen c.put_block.new.out) (seen c.put_else.new.out) (if_head_marks c.args.brackets c.in-If.value ++ block_marks c.args.brackets c.in-If.block c.args.indent) (else_block_marks c.args.brackets c.in-If.other c.args.indent) _
    (put_both (seen c.args.out.now) (seen c.put_if.new.out) (seen c.put_block.new.out) (if_head_marks c.args.brackets c.in-If.value) (block_marks c.args.brackets c.in-If.block c.args.indent) c.in_ok-put_if-in-If.ensures c.in_ok-put_block-in-If.ensures) e
    (ap (λ m. m ++ else_block_marks c.args.brackets c.in-If.other c.args.indent) (head_apart c.args.brackets c.in-If.value (block_marks c.args.brackets c.in-If.block c.args.indent)) ∙ sym (ap (λ s. stmt_marks c.args.brackets s c.args.indent) c.in-If.is ∙ if_written c.args.brackets c.in-If.value c.in-If.block c.in-If.other c.args.indent)))
