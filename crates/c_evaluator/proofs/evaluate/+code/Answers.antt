-- One move, operation and choice after another.
use Rattle.std.proofs.Common.{◌≡◌, ◌∙◌, ◌+◌, ap, sym, rules, map, drop, take, Ok, Err}
use Rattle.c_code.specs.declared.code.Code.{out-Code}
use Rattle.c_code.specs.declared.code.Operation.{out-Operation}
use Rattle.c_code.specs.declared.code.Alternative.{out-Alternative}
use Rattle.c_code.specs.Coded.{all_moves, cell_of, chosen, coded, combined, of_value, operate, operated, value_by, value_of}
use Rattle.c_evaluator.specs.Parts.{alternative_coded, in_kinds, is_true, move_coded, operation_coded, start_coded}
use Rattle.c_code.specs.Values.{value_seen}
use Rattle.c_evaluator.specs.Seen.{reached_seen}
use Rattle.c_evaluator.proofs.CodeLaws.{chain_known, code_known}
use Rattle.c_evaluator.proofs.FaultLaws.{choices_failed, failed}
use Rattle.c_evaluator.proofs.TurnLaws.{found_here, kinds_fail, last_fails, move_turn, moves_fail, operation_turn, operations_fail, passed_here, result_fails, second_fails, test_fails}
use Rattle.c_evaluator.proofs.evaluate.+code.Goals as goal

-- 1. Code and moves

pub reached-returns-in_err-start : goal.reached-returns-in_err-start
reached-returns-in_err-start t c =
    let fault = c.in_err-start.field-0.0 in
    let passed : c.from_residual.result ≡ Err fault = search rules in
    failed reached_seen reached_seen fault c.from_residual.result
    (start_coded (out-Code c.args.code.now).start c.args.heap.now c.args.frame) (coded c.args.code.now c.args.heap.now c.args.frame)
    passed c.in_err-start.ensures
    (λ u e. code_known c.args.code.now c.args.heap.now c.args.frame
    ∙ ap (all_moves (map move_coded (out-Code c.args.code.now).moves) c.args.heap.now c.args.frame) e
    ∙ moves_fail c.args.heap.now c.args.frame (map move_coded (out-Code c.args.code.now).moves) u)

pub moved_on-returns-in_err-reached : goal.moved_on-returns-in_err-reached
moved_on-returns-in_err-reached t c =
    let fault = c.in_err-reached.field-0.0 in
    let passed : c.from_residual.result ≡ Err fault = search rules in
    failed reached_seen reached_seen fault c.from_residual.result
    (move_coded c.way-item.result c.args.heap.now c.args.frame (reached_seen c.loop-way.reached))
    (all_moves (map move_coded c.args.moves.now) c.args.heap.now c.args.frame (Ok (reached_seen c.args.reached)))
    passed c.in_err-reached.ensures
    (λ u e. sym c.loop-way.invariant
    ∙ move_turn c.args.heap.now c.args.frame move_coded c.args.moves.now c.loop-way.way-index c.way-item.result (reached_seen c.loop-way.reached) c.loop-way-test.true c.way-item.is
    ∙ ap (all_moves (map move_coded (drop (c.loop-way.way-index + 1) c.args.moves.now)) c.args.heap.now c.args.frame) e
    ∙ moves_fail c.args.heap.now c.args.frame (map move_coded (drop (c.loop-way.way-index + 1) c.args.moves.now)) u)

-- 2. Chains

pub started-returns-in_err-value-in-Chain : goal.started-returns-in_err-value-in-Chain
started-returns-in_err-value-in-Chain t c =
    let fault = c.in_err-value-in-Chain.field-0.0 in
    let passed : c.from_residual.result ≡ Err fault = search rules in
    failed value_seen reached_seen fault c.from_residual.result
    (value_of c.get.result.now c.args.heap.now c.args.frame) (start_coded c.args.start.now c.args.heap.now c.args.frame)
    passed c.in_err-value-in-Chain.ensures
    (λ u e. chain_known c.args.heap.now c.args.frame c.args.start.now c.in-Chain.first c.in-Chain.operations c.in-Chain.is
    ∙ ap (λ v. of_value (operated c.args.heap.now c.args.frame v (map operation_coded c.in-Chain.operations)))
    (ap (λ z. value_of z c.args.heap.now c.args.frame) (sym c.get.ensures) ∙ e)
    ∙ ap of_value (operations_fail c.args.heap.now c.args.frame (map operation_coded c.in-Chain.operations) u))

pub operated-returns-in_err-value : goal.operated-returns-in_err-value
operated-returns-in_err-value t c =
    let fault = c.in_err-value.field-0.0 in
    let passed : c.from_residual.result ≡ Err fault = search rules in
    failed value_seen value_seen fault c.from_residual.result
    (operate c.args.heap.now c.args.frame (operation_coded c.operation-item.result) (operation_coded c.operation-item.result).operator (value_seen c.loop-operation.value))
    (operated c.args.heap.now c.args.frame (Ok (value_seen c.args.value)) (map operation_coded c.args.operations.now))
    passed c.in_err-value.ensures
    (λ u e. sym c.loop-operation.invariant
    ∙ operation_turn c.args.heap.now c.args.frame operation_coded c.args.operations.now c.loop-operation.operation-index c.operation-item.result (value_seen c.loop-operation.value)
    c.loop-operation-test.true c.operation-item.is
    ∙ ap (λ v. operated c.args.heap.now c.args.frame v (map operation_coded (drop (c.loop-operation.operation-index + 1) c.args.operations.now))) e
    ∙ operations_fail c.args.heap.now c.args.frame (map operation_coded (drop (c.loop-operation.operation-index + 1) c.args.operations.now)) u)

pub operate-returns-in_err-second-in_default : goal.operate-returns-in_err-second-in_default
operate-returns-in_err-second-in_default t c =
    let fault = c.in_err-second-in_default.field-0.0 in
    let passed : c.from_residual-in_err-second-in_default.result ≡ Err fault = search rules in
    failed (λ cell. cell) value_seen fault c.from_residual-in_err-second-in_default.result
    (cell_of (out-Operation c.args.operation.now).operand c.args.heap.now c.args.frame)
    (operate c.args.heap.now c.args.frame (operation_coded c.args.operation.now) (operation_coded c.args.operation.now).operator (value_seen c.args.value))
    passed c.in_err-second-in_default.ensures
    (λ u e. second_fails c.args.heap.now c.args.frame c.args.operation.now (value_seen c.args.value) c.in_ok-first-in_default.first u
    c.in_default.not-And c.in_default.not-Or c.in_ok-first-in_default.ensures e)

pub operate-returns-in_err-combined-in_default : goal.operate-returns-in_err-combined-in_default
operate-returns-in_err-combined-in_default t c =
    let fault = c.in_err-combined-in_default.field-0.0 in
    let passed : c.from_residual-in_err-combined-in_default.result ≡ Err fault = search rules in
    failed (λ cell. cell) value_seen fault c.from_residual-in_err-combined-in_default.result
    (combined c.args.heap.now (operation_coded c.args.operation.now) c.in_ok-first-in_default.first c.in_ok-second-in_default.second)
    (operate c.args.heap.now c.args.frame (operation_coded c.args.operation.now) (operation_coded c.args.operation.now).operator (value_seen c.args.value))
    passed c.in_err-combined-in_default.ensures
    (λ u e. result_fails c.args.heap.now c.args.frame c.args.operation.now (value_seen c.args.value) c.in_ok-first-in_default.first c.in_ok-second-in_default.second u
    c.in_default.not-And c.in_default.not-Or c.in_ok-first-in_default.ensures c.in_ok-second-in_default.ensures e)

-- 3. Choices

pub chosen-returns-in_err-is_chosen : goal.chosen-returns-in_err-is_chosen
chosen-returns-in_err-is_chosen t c =
    let fault = c.in_err-is_chosen.field-0.0 in
    let passed : c.from_residual.result ≡ Err fault = search rules in
    λ e. choices_failed (λ test. test) fault c.from_residual.result
    (is_true (alternative_coded c.index-alternatives-index.result).test c.args.heap.now c.args.frame)
    (chosen c.args.heap.now c.args.frame (map alternative_coded c.args.alternatives.now) e)
    (in_kinds (map alternative_coded c.args.alternatives.now) (value_by e c.args.heap.now c.args.frame))
    passed c.in_err-is_chosen.ensures
    (λ u h. test_fails c.args.heap.now c.args.frame c.args.alternatives.now c.loop-index.index c.index-alternatives-index.result e u
    c.loop-index-test.true c.index-alternatives-index.is (c.loop-index.invariant e) h)

pub chosen-returns-in_err-value : goal.chosen-returns-in_err-value
chosen-returns-in_err-value t c =
    let fault = c.in_err-value.field-0.0 in
    let passed : c.from_residual-in_err-value.result ≡ Err fault = search rules in
    λ e. choices_failed value_seen fault c.from_residual-in_err-value.result
    (value_of (out-Alternative c.index-alternatives-index.result).yes c.args.heap.now c.args.frame)
    (chosen c.args.heap.now c.args.frame (map alternative_coded c.args.alternatives.now) e)
    (in_kinds (map alternative_coded c.args.alternatives.now) (value_by e c.args.heap.now c.args.frame))
    passed c.in_err-value.ensures
    (λ u h. found_here c.args.heap.now c.args.frame c.args.alternatives.now c.loop-index.index c.index-alternatives-index.result e (Err u)
    c.loop-index-test.true c.index-alternatives-index.is (c.loop-index.invariant e) (c.in_ok-is_chosen.ensures ∙ ap (λ b. Ok b) c.if-branch.true) h
    ∙ kinds_fail (map alternative_coded (take (c.loop-index.index + 1) c.args.alternatives.now)) u)

pub chosen-returns-in_err-value-2 : goal.chosen-returns-in_err-value-2
chosen-returns-in_err-value-2 t c =
    let fault = c.in_err-value-2.field-0.0 in
    let passed : c.from_residual-in_err-value-2.result ≡ Err fault = search rules in
    λ e. choices_failed value_seen fault c.from_residual-in_err-value-2.result
    (in_kinds (map alternative_coded (take (c.loop-index.index + 1) c.args.alternatives.now)) (Ok (value_seen c.in_ok-value.value)))
    (chosen c.args.heap.now c.args.frame (map alternative_coded c.args.alternatives.now) e)
    (in_kinds (map alternative_coded c.args.alternatives.now) (value_by e c.args.heap.now c.args.frame))
    passed c.in_err-value-2.ensures
    (λ u h. found_here c.args.heap.now c.args.frame c.args.alternatives.now c.loop-index.index c.index-alternatives-index.result e (Ok (value_seen c.in_ok-value.value))
    c.loop-index-test.true c.index-alternatives-index.is (c.loop-index.invariant e) (c.in_ok-is_chosen.ensures ∙ ap (λ b. Ok b) c.if-branch.true) c.in_ok-value.ensures
    ∙ h)

pub chosen-returns-then-branch : goal.chosen-returns-then-branch
chosen-returns-then-branch t c = λ e.
    found_here c.args.heap.now c.args.frame c.args.alternatives.now c.loop-index.index c.index-alternatives-index.result e (Ok (value_seen c.in_ok-value.value))
    c.loop-index-test.true c.index-alternatives-index.is (c.loop-index.invariant e) (c.in_ok-is_chosen.ensures ∙ ap (λ b. Ok b) c.if-branch.true) c.in_ok-value.ensures
    ∙ c.in_ok-value-2.ensures

pub chosen-loop-index-preserved : goal.chosen-loop-index-preserved
chosen-loop-index-preserved t c = λ e.
    passed_here c.args.heap.now c.args.frame c.args.alternatives.now c.loop-index.index c.index-alternatives-index.result e
    c.loop-index-test.true c.index-alternatives-index.is (c.loop-index.invariant e) (c.in_ok-is_chosen.ensures ∙ ap (λ b. Ok b) c.if-branch.false)

pub started-returns-in_err-value-in-Choice-2 : goal.started-returns-in_err-value-in-Choice-2
started-returns-in_err-value-in-Choice-2 t c =
    let fault = c.in_err-value-in-Choice-2.field-0.0 in
    let passed : c.from_residual-in_err-value-in-Choice-2.result ≡ Err fault = search rules in
    failed value_seen reached_seen fault c.from_residual-in_err-value-in-Choice-2.result
    (value_of c.get-in-Choice.result.now c.args.heap.now c.args.frame) (start_coded c.args.start.now c.args.heap.now c.args.frame)
    passed c.in_err-value-in-Choice-2.ensures
    (λ u e. last_fails c.args.heap.now c.args.frame c.args.start.now c.in-Choice.alternatives c.as_slice-in-Choice.result.now c.in-Choice.last c.get-in-Choice.result.now
    c.in_ok-value-in-Choice.field-0 u c.in-Choice.is c.as_slice-in-Choice.ensures c.get-in-Choice.ensures c.in_default.not-Some c.in_ok-value-in-Choice.ensures e)
