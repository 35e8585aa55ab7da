-- One argument after another.
use Rattle.std.proofs.Common.{◌≡◌, ◌∙◌, ◌++◌, [], ◌∷◌, refl, sym, rules, Err}
use Rattle.c_code.specs.Coded.{cell_of}
use Rattle.c_code.specs.Machine.{cells_of}
use Rattle.c_evaluator.proofs.FaultLaws.{failed}
use Rattle.c_evaluator.proofs.RowLaws.{all_answered, behind_none, one_fails, one_more_plain, pushed}
use Rattle.c_evaluator.proofs.arguments.cells_of.Goals as goal

pub loop-code-init : goal.loop-code-init
loop-code-init c = behind_none c.new-cells.result.items (cells_of c.args.codes.now c.args.heap.now c.args.frame) c.new-cells.ensures.items

pub returns-in_err-cell : goal.returns-in_err-cell
returns-in_err-cell c =
    let fault = c.in_err-cell.field-0.0 in
    let passed : c.from_residual.result ≡ Err fault = search rules in
    failed (λ cell. cell) (λ cells. cells.items) fault c.from_residual.result
    (cell_of c.code-item.result c.args.heap.now c.args.frame) (cells_of c.args.codes.now c.args.heap.now c.args.frame)
    passed c.in_err-cell.ensures
    (λ u e. one_fails (λ z. cell_of z c.args.heap.now c.args.frame) (λ zs. cells_of zs c.args.heap.now c.args.frame) refl (λ z zs. refl)
    c.args.codes.now c.loop-code.cells.items c.loop-code.code-index c.code-item.result u c.loop-code-test.true c.code-item.is e c.loop-code.invariant)

pub loop-code-preserved : goal.loop-code-preserved
loop-code-preserved c =
    let last = pushed c.push.result c.push.new.self.items (c.loop-code.cells.items ++ c.in_ok-cell.cell ∷ []) c.loop-code.cells.items
    (sym c.is_err.ensures.value ∙ c.if-is_err.false) c.push.ensures.items in
    one_more_plain (λ z. cell_of z c.args.heap.now c.args.frame) (λ zs. cells_of zs c.args.heap.now c.args.frame) refl (λ z zs. refl)
    c.args.codes.now c.loop-code.cells.items c.push.new.self.items c.loop-code.code-index c.code-item.result c.in_ok-cell.cell
    c.loop-code-test.true c.code-item.is c.in_ok-cell.ensures last c.loop-code.invariant

pub returns : goal.returns
returns c = all_answered (λ z. cell_of z c.args.heap.now c.args.frame) (λ zs. cells_of zs c.args.heap.now c.args.frame) refl (λ z zs. refl)
    c.args.codes.now c.loop-code.cells.items c.loop-code.code-index c.loop-code-test.false c.loop-code.invariant
