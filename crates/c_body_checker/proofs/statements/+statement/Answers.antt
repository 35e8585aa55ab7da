use Rattle.std.proofs.Common.{◌∙◌, ap, sym, refl, map}
use Rattle.c_tree.specs.declared.code.Block.{out-Block}
use Rattle.c_tree.specs.Checks.{checked}
use Rattle.c_tree.specs.Rules.{all_faults, checked_block, else_faults, locals_faults, with_locals}
use Rattle.c_body_checker.specs.Bodies.{context, else_body, of_statement}
use Rattle.c_value_checker.specs.Noted.{noted}
use Rattle.c_value_checker.specs.Seen.{seen}
use Rattle.c_body_checker.proofs.BodyLemmas.{block_faults, closed_locals, if_noted}
use Rattle.c_value_checker.proofs.NotedLemmas.{noted_both, noted_step, on_ok}
use Rattle.c_body_checker.proofs.statements.+statement.Goals as goal

pub check_block-returns-clause-names : goal.check_block-returns-clause-names
check_block-returns-clause-names t c = on_ok c.check_stmts.result c.check_stmts.ensures.names
    (λ e. e ∙ c.in_ok-check_locals.ensures.names ∙ ap (with_locals (seen c.args.environment.now)) c.as_slice.ensures)

pub check_block-returns-clause-faults : goal.check_block-returns-clause-faults
check_block-returns-clause-faults t c = on_ok c.check_stmts.result c.check_stmts.ensures.faults (λ e.
    noted_both c.args.findings.now c.check_locals.new.findings c.check_stmts.new.findings
    (locals_faults (seen c.args.environment.now) (out-Block c.args.block.now).locals)
    (all_faults (context (with_locals (seen c.args.environment.now) (out-Block c.args.block.now).locals) c.args.gives)
    (map of_statement (out-Block c.args.block.now).body))
    (c.in_ok-check_locals.ensures.faults ∙ ap (λ l. noted c.args.findings.now (locals_faults (seen c.args.environment.now) l)) c.as_slice.ensures)
    (e ∙ (λ i. noted c.check_locals.new.findings
    (all_faults (context ((c.in_ok-check_locals.ensures.names ∙ ap (with_locals (seen c.args.environment.now)) c.as_slice.ensures) i) c.args.gives)
    (map of_statement (c.as_slice-2.ensures i)))))
    ∙ ap (noted c.args.findings.now) (sym (block_faults c.args.block.now (context (seen c.args.environment.now) c.args.gives))))

pub check_stmts-loop-stmt-preserved : goal.check_stmts-loop-stmt-preserved
check_stmts-loop-stmt-preserved t c = record {
  names = c.in_ok-check_stmt.ensures.names ∙ c.loop-stmt.invariant.names;
  faults = noted_step (λ s. (of_statement s).faults (context (seen c.args.environment.now) c.args.gives))
      (λ l. all_faults (context (seen c.args.environment.now) c.args.gives) (map of_statement l)) (λ x l. refl)
      c.args.stmts.now c.loop-stmt.stmt-index c.stmt-item.result c.loop-stmt.findings c.check_stmt.new.findings _ c.loop-stmt-test.true c.stmt-item.is
      (c.in_ok-check_stmt.ensures.faults ∙ ap (λ x. noted c.loop-stmt.findings ((of_statement c.stmt-item.result).faults (context x c.args.gives)))
      c.loop-stmt.invariant.names) c.loop-stmt.invariant.faults;
}

pub check_inner-returns-clause-names : goal.check_inner-returns-clause-names
check_inner-returns-clause-names t c = closed_locals c.args.environment.now (seen c.open.new.self) (seen c.check_block.new.environment) (seen c.close.new.self)
    (out-Block c.args.block.now).locals c.in_ok-open.ensures c.in_ok-check_block.ensures.names c.close.ensures

pub check_inner-returns-clause-faults : goal.check_inner-returns-clause-faults
check_inner-returns-clause-faults t c = c.in_ok-check_block.ensures.faults
    ∙ ap (λ x. noted c.args.findings.now ((checked_block checked c.args.block.now).faults (context x c.args.gives))) c.in_ok-open.ensures

pub check_stmt-returns-in_ok-check_inner-in-If-clause-faults : goal.check_stmt-returns-in_ok-check_inner-in-If-clause-faults
check_stmt-returns-in_ok-check_inner-in-If-clause-faults t c = on_ok c.check_else.result c.check_else.ensures.faults (λ e.
    if_noted (seen c.args.environment.now) c.args.gives c.args.stmt.now c.in-If.value c.in-If.block c.in-If.other c.args.findings.now
    c.check_condition.new.findings c.check_inner.new.findings c.check_else.new.findings
    c.in-If.is c.in_ok-check_condition-in-If.ensures c.in_ok-check_inner-in-If.ensures.faults
    (e ∙ ap (λ x. noted c.check_inner.new.findings (else_faults (else_body c.in-If.other) (context x c.args.gives)))
    c.in_ok-check_inner-in-If.ensures.names))
