use Rattle.std.proofs.Common.{◌∙◌, ◌-◌, arith, take}
use Rattle.c_constants.specs.Told.{worth_told}
use Rattle.c_constants.proofs.Shapes.{choice_found, on_value}
use Rattle.c_constants.proofs.Turns.{choice_back, choice_turn, link_turn}
use Rattle.c_value_checker.specs.Seen.{seen}
use Rattle.c_constants.proofs.constants.+worth.Goals as goal

pub links_worth-loop-link-preserved : goal.links_worth-loop-link-preserved
links_worth-loop-link-preserved t c =
    link_turn (seen c.args.environment.now) c.args.links.now c.loop-link.link-index c.link-item.result c.loop-link.operand c.link_joined-operand.result c.in_ok-other.other (worth_told c.loop-link.worth) (worth_told c.in_ok-worth.worth)
    c.loop-link-test.true c.link-item.is c.in_ok-other.ensures c.link_joined-operand.ensures c.in_ok-worth.ensures
    ∙ c.loop-link.invariant

pub choices_worth-loop-index-preserved : goal.choices_worth-loop-index-preserved
choices_worth-loop-index-preserved t c = record {
  within = omega (arith, c.loop-index.invariant.within);
  worths = choice_turn (seen c.args.environment.now) (take c.loop-index.index c.args.choices.now) (take (c.loop-index.index - 1) c.args.choices.now) c.index-choices-index.result c.loop-index.operand c.in_ok-operand.operand
      (worth_told c.loop-index.worth) (worth_told c.in_ok-picked.picked) (worth_told c.in_kind-worth.result)
      (choice_back c.args.choices.now c.loop-index.index c.index-choices-index.result c.loop-index-test.true c.loop-index.invariant.within c.index-choices-index.is)
      c.in_ok-operand.ensures c.in_ok-picked.ensures c.in_kind-worth.ensures
      ∙ c.loop-index.invariant.worths;
}

pub shape_worth-returns-in_ok-worth-in-Conditional : goal.shape_worth-returns-in_ok-worth-in-Conditional
shape_worth-returns-in_ok-worth-in-Conditional t c = on_value c.choices_worth.result c.choices_worth.ensures (λ w e.
    choice_found (seen c.args.environment.now) c.args.shape.now c.in-Conditional.choices c.as_slice-in-Conditional.result.now c.in-Conditional.last c.get-in-Conditional.result.now c.get-in-Conditional-2.result.now
    c.in_ok-operand-in-Conditional.operand (worth_told c.in_ok-worth-in-Conditional.worth) (worth_told w)
    c.in-Conditional.is c.as_slice-in-Conditional.ensures c.get-in-Conditional.ensures c.get-in-Conditional-2.ensures c.in_ok-operand-in-Conditional.ensures c.in_ok-worth-in-Conditional.ensures e)
