-- One argument after another.
use Rattle.std.proofs.Common.{◌≡◌, ◌∙◌, ◌++◌, [], ◌∷◌, refl, sym, ap, rules, map, Err}
use Rattle.c_code.specs.Coded.{value_of}
use Rattle.c_code.specs.Machine.{values_of}
use Rattle.c_code.specs.Values.{value_seen}
use Rattle.c_evaluator.proofs.FaultLaws.{failed}
use Rattle.c_evaluator.proofs.RowLaws.{all_answered, behind_none, one_fails, one_more, pushed}
use Rattle.c_evaluator.proofs.arguments.values_of.Goals as goal

pub loop-code-init : goal.loop-code-init
loop-code-init c = behind_none (map value_seen c.new-values.result.items) (values_of c.args.codes.now c.args.heap.now c.args.frame)
    (ap (map value_seen) c.new-values.ensures.items)

pub returns-in_err-value : goal.returns-in_err-value
returns-in_err-value c =
    let fault = c.in_err-value.field-0.0 in
    let passed : c.from_residual.result ≡ Err fault = search rules in
    failed value_seen (λ values. map value_seen values.items) fault c.from_residual.result
    (value_of c.code-item.result c.args.heap.now c.args.frame) (values_of c.args.codes.now c.args.heap.now c.args.frame)
    passed c.in_err-value.ensures
    (λ u e. one_fails (λ z. value_of z c.args.heap.now c.args.frame) (λ zs. values_of zs c.args.heap.now c.args.frame) refl (λ z zs. refl)
    c.args.codes.now (map value_seen c.loop-code.values.items) c.loop-code.code-index c.code-item.result u c.loop-code-test.true c.code-item.is e c.loop-code.invariant)

pub loop-code-preserved : goal.loop-code-preserved
loop-code-preserved c =
    let last = pushed c.push.result c.push.new.self.items (c.loop-code.values.items ++ c.in_ok-value.value ∷ []) c.loop-code.values.items
    (sym c.is_err.ensures.value ∙ c.if-is_err.false) c.push.ensures.items in
    one_more (λ z. value_of z c.args.heap.now c.args.frame) (λ zs. values_of zs c.args.heap.now c.args.frame) refl (λ z zs. refl) value_seen
    c.args.codes.now c.loop-code.values.items c.push.new.self.items c.loop-code.code-index c.code-item.result c.in_ok-value.value
    c.loop-code-test.true c.code-item.is c.in_ok-value.ensures last c.loop-code.invariant

pub returns : goal.returns
returns c = all_answered (λ z. value_of z c.args.heap.now c.args.frame) (λ zs. values_of zs c.args.heap.now c.args.frame) refl (λ z zs. refl)
    c.args.codes.now (map value_seen c.loop-code.values.items) c.loop-code.code-index c.loop-code-test.false c.loop-code.invariant
