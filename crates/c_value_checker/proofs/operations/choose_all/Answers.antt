use Rattle.std.proofs.Common.{◌∙◌}
use Rattle.c_value_checker.proofs.ChoiceLemmas.{choice_turn}
use Rattle.c_value_checker.proofs.operations.choose_all.Goals as goal

pub loop-choice-preserved : goal.loop-choice-preserved
loop-choice-preserved c =
    let turn : _ = choice_turn c.loop-choice.choices c.pop.new.self c.in-Some.choice c.loop-choice.no c.choose_one-no.result c.loop-choice.findings c.choose_one-no.new.findings c.args.last c.in-Some.ensures c.choose_one-no.ensures.value c.choose_one-no.ensures.faults in
    record { kinds = turn.0 ∙ c.loop-choice.invariant.kinds; faults = turn.1 ∙ c.loop-choice.invariant.faults }
