-- One choice after another, from the last one.
use Rattle.std.proofs.Common.{◌≡◌, ◌∙◌, ◌-◌, sym, arith, rules, map, take, Ok, Err}
use Rattle.c_meaning.specs.Numbers.{converted}
use Rattle.c_code.specs.declared.code.Alternative.{out-Alternative}
use Rattle.c_evaluator.specs.Parts.{alternative_coded, in_kinds}
use Rattle.c_code.specs.Values.{value_seen}
use Rattle.c_evaluator.proofs.FaultLaws.{failed}
use Rattle.c_evaluator.proofs.TurnLaws.{kinds_fail, kinds_turn}
use Rattle.c_evaluator.proofs.evaluate.in_kinds.Goals as goal

pub returns-in_err-value : goal.returns-in_err-value
returns-in_err-value c =
    let fault = c.in_err-value.field-0.0 in
    let passed : c.from_residual.result ≡ Err fault = search rules in
    failed value_seen value_seen fault c.from_residual.result
    (converted (out-Alternative c.index-alternatives-index.result).gives (value_seen c.loop-index.value))
    (in_kinds (map alternative_coded c.args.alternatives.now) (Ok (value_seen c.args.value)))
    passed c.in_err-value.ensures
    (λ u e. sym c.loop-index.invariant.kinds
    ∙ kinds_turn c.args.alternatives.now c.loop-index.index c.index-alternatives-index.result (value_seen c.loop-index.value) (Err u)
    c.loop-index-test.true c.loop-index.invariant.within c.index-alternatives-index.is e
    ∙ kinds_fail (map alternative_coded (take (c.loop-index.index - 1) c.args.alternatives.now)) u)

pub loop-index-preserved : goal.loop-index-preserved
loop-index-preserved c = record {
  within = omega (arith, c.loop-index.invariant.within);
  kinds = sym (kinds_turn c.args.alternatives.now c.loop-index.index c.index-alternatives-index.result (value_seen c.loop-index.value) (Ok (value_seen c.in_ok-value.value))
      c.loop-index-test.true c.loop-index.invariant.within c.index-alternatives-index.is c.in_ok-value.ensures)
      ∙ c.loop-index.invariant.kinds;
}
