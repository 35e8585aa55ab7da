use Rattle.std.proofs.Common.{◌∙◌, map, refl}
use Rattle.c_meaning.specs.Code.{flat_locals}
use Rattle.c_value_checker.specs.Seen.{seen}
use Rattle.c_resolver.specs.Plans.{locals_in, slot_seen}
use Rattle.c_resolver.proofs.PlanLemmas.{block_cells, block_slots, cells_step, if_cells, if_slots, slots_step}
use Rattle.c_value_checker.proofs.NotedLemmas.{on_ok}
use Rattle.c_resolver.proofs.StepLemmas.{on_value}
use Rattle.c_resolver.proofs.locals.+locals.Goals as goal

pub add_stmts-loop-stmt-preserved : goal.add_stmts-loop-stmt-preserved
add_stmts-loop-stmt-preserved t c = record {
  slots = slots_step locals_in (λ l. flat_locals (map locals_in l)) (λ x l. refl)
      (seen c.args.environment.now) c.args.stmts.now c.loop-stmt.stmt-index c.stmt-item.result c.loop-stmt.at c.in_ok-at.at (map slot_seen c.loop-stmt.slots)
      (map slot_seen c.add_stmt.new.slots)
      c.loop-stmt-test.true c.stmt-item.is c.in_ok-at.ensures.slots c.in_ok-at.ensures.cells ∙ c.loop-stmt.invariant.slots;
  cells = cells_step locals_in (λ l. flat_locals (map locals_in l)) (λ x l. refl)
      (seen c.args.environment.now) c.args.stmts.now c.loop-stmt.stmt-index c.stmt-item.result c.loop-stmt.at c.in_ok-at.at c.loop-stmt-test.true
      c.stmt-item.is c.in_ok-at.ensures.cells ∙ c.loop-stmt.invariant.cells;
}

pub add_block-returns-clause-slots : goal.add_block-returns-clause-slots
add_block-returns-clause-slots t c = on_ok c.add_stmts.result c.add_stmts.ensures.slots (λ e.
    block_slots (seen c.args.environment.now) c.args.at c.in_ok-next.next c.args.block.now c.as_slice.result.now c.as_slice-2.result.now
    (map slot_seen c.args.slots.now) (map slot_seen c.add_locals.new.slots) (map slot_seen c.add_stmts.new.slots)
    c.as_slice.ensures c.as_slice-2.ensures c.in_ok-next.ensures.slots c.in_ok-next.ensures.cells e)

pub add_block-returns-clause-cells : goal.add_block-returns-clause-cells
add_block-returns-clause-cells t c = on_value c.add_stmts.result c.add_stmts.ensures.cells (λ n e.
    block_cells (seen c.args.environment.now) c.args.at c.in_ok-next.next n c.args.block.now c.as_slice.result.now c.as_slice-2.result.now c.as_slice.ensures
    c.as_slice-2.ensures c.in_ok-next.ensures.cells e)

pub add_stmt-returns-in_ok-next-in-If-clause-slots : goal.add_stmt-returns-in_ok-next-in-If-clause-slots
add_stmt-returns-in_ok-next-in-If-clause-slots t c = on_ok c.add_else.result c.add_else.ensures.slots (λ e.
    if_slots (seen c.args.environment.now) c.args.at c.in_ok-next-in-If.next c.args.stmt.now c.in-If.field-0 c.in-If.block c.in-If.other
    (map slot_seen c.args.slots.now) (map slot_seen c.add_block.new.slots) (map slot_seen c.add_else.new.slots)
    c.in-If.is c.in_ok-next-in-If.ensures.slots c.in_ok-next-in-If.ensures.cells e)

pub add_stmt-returns-in_ok-next-in-If-clause-cells : goal.add_stmt-returns-in_ok-next-in-If-clause-cells
add_stmt-returns-in_ok-next-in-If-clause-cells t c = on_value c.add_else.result c.add_else.ensures.cells (λ n e.
    if_cells (seen c.args.environment.now) c.args.at c.in_ok-next-in-If.next n c.args.stmt.now c.in-If.field-0 c.in-If.block c.in-If.other c.in-If.is
    c.in_ok-next-in-If.ensures.cells e)
