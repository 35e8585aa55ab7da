use Rattle.std.proofs.Common.{◌∙◌, refl, map, ◌++◌}
use Rattle.c_value_checker.specs.Judgements.{checked_choice, part_faults}
use Rattle.c_value_checker.specs.Seen.{seen}
use Rattle.c_value_checker.proofs.NotedLemmas.{noted_step, on_ok}
use Rattle.c_value_checker.proofs.PartLemmas.{choice_judged, choice_parts, index_noted, link_noted, link_value}
use Rattle.c_value_checker.proofs.RowLemmas.{choice_kept, link_turn, suffix_turn}
use Rattle.c_value_checker.proofs.ShapeLemmas.{chain_noted, choice_noted, choice_value, prefix_noted, suffix_noted}
use Rattle.c_value_checker.proofs.values.+value.Goals as goal

pub check_choice-returns-clause-value : goal.check_choice-returns-clause-value
check_choice-returns-clause-value t c = choice_judged (seen c.args.environment.now) c.args.choice.now c.in_ok-test.test c.in_ok-yes.yes c.operand.result c.in_ok-test.ensures.value c.in_ok-yes.ensures.value c.operand.ensures

pub check_choice-returns-clause-faults : goal.check_choice-returns-clause-faults
check_choice-returns-clause-faults t c = choice_parts (seen c.args.environment.now) c.args.choice.now c.args.findings.now c.check_value.new.findings c.check_value-2.new.findings c.in_ok-test.ensures.faults c.in_ok-yes.ensures.faults

pub check_choices-loop-choice-preserved : goal.check_choices-loop-choice-preserved
check_choices-loop-choice-preserved t c = record {
  kept = choice_kept (seen c.args.environment.now) c.args.choices.now c.loop-choice.choice-index c.choice-item.result c.loop-choice.found c.push.new.choices c.in_ok-one.one c.loop-choice-test.true c.choice-item.is c.in_ok-one.ensures.value c.in_ok-push.ensures ∙ c.loop-choice.invariant.kept;
  faults = noted_step (λ x. (checked_choice x).test.value.faults (seen c.args.environment.now) ++ (checked_choice x).yes.value.faults (seen c.args.environment.now)) (λ l. part_faults (seen c.args.environment.now) (map checked_choice l)) (λ x l. refl) c.args.choices.now c.loop-choice.choice-index c.choice-item.result c.loop-choice.findings c.check_choice.new.findings _ c.loop-choice-test.true c.choice-item.is c.in_ok-one.ensures.faults c.loop-choice.invariant.faults;
}

pub check_link-returns-clause-value : goal.check_link-returns-clause-value
check_link-returns-clause-value t c = link_value (seen c.args.environment.now) c.args.link.now c.args.operand c.in_ok-found.found c.operand.result c.combine.result c.in_ok-found.ensures.value c.operand.ensures c.combine.ensures.value

pub check_link-returns-clause-faults : goal.check_link-returns-clause-faults
check_link-returns-clause-faults t c = link_noted (seen c.args.environment.now) c.args.first c.args.link.now c.args.operand c.in_ok-found.found c.operand.result c.join.result c.args.findings.now c.check_value.new.findings c.combine.new.findings c.in_ok-found.ensures.value c.operand.ensures c.join.ensures c.in_ok-found.ensures.faults c.combine.ensures.faults

pub check_links-loop-link-preserved : goal.check_links-loop-link-preserved
check_links-loop-link-preserved t c =
    let turn : _ = link_turn (seen c.args.environment.now) c.args.first c.args.links.now c.loop-link.link-index c.link-item.result c.loop-link.operand c.in_ok-operand.operand c.loop-link.findings c.check_link.new.findings c.loop-link-test.true c.link-item.is c.in_ok-operand.ensures.value c.in_ok-operand.ensures.faults in
    record { kinds = turn.0 ∙ c.loop-link.invariant.kinds; faults = turn.1 ∙ c.loop-link.invariant.faults }

pub check_shape-returns-in_ok-found-in-Prefix-clause-faults : goal.check_shape-returns-in_ok-found-in-Prefix-clause-faults
check_shape-returns-in_ok-found-in-Prefix-clause-faults t c = on_ok c.check_prefixes.result c.check_prefixes.ensures.faults (λ e.
    prefix_noted (seen c.args.environment.now) c.args.shape.now c.in-Prefix.operators c.as_slice.result.now c.in-Prefix.operand c.get.result.now c.get-in-Prefix.result.now c.in_ok-found-in-Prefix.found c.args.findings.now c.check_value.new.findings c.check_prefixes.new.findings
    c.in-Prefix.is c.as_slice.ensures c.get.ensures c.get-in-Prefix.ensures c.in_ok-found-in-Prefix.ensures.value c.in_ok-found-in-Prefix.ensures.faults e)

pub check_shape-returns-in_ok-found-in-Postfix-clause-faults : goal.check_shape-returns-in_ok-found-in-Postfix-clause-faults
check_shape-returns-in_ok-found-in-Postfix-clause-faults t c = on_ok c.check_suffixes.result c.check_suffixes.ensures.faults (λ e.
    suffix_noted (seen c.args.environment.now) c.args.shape.now c.in-Postfix.suffixes c.as_slice-in-Postfix.result.now c.in-Postfix.value c.get-in-Postfix.result.now c.get-in-Postfix-2.result.now c.in_ok-found-in-Postfix.found c.args.findings.now c.check_value-in-Postfix.new.findings c.check_suffixes.new.findings
    c.in-Postfix.is c.as_slice-in-Postfix.ensures c.get-in-Postfix.ensures c.get-in-Postfix-2.ensures c.in_ok-found-in-Postfix.ensures.value c.in_ok-found-in-Postfix.ensures.faults e)

pub check_shape-returns-in_ok-found-in-Chain-clause-faults : goal.check_shape-returns-in_ok-found-in-Chain-clause-faults
check_shape-returns-in_ok-found-in-Chain-clause-faults t c = on_ok c.check_links.result c.check_links.ensures.faults (λ e.
    chain_noted (seen c.args.environment.now) c.args.shape.now c.in-Chain.links c.as_slice-in-Chain.result.now c.in-Chain.first c.get-in-Chain.result.now c.get-in-Chain-2.result.now c.in_ok-found-in-Chain.found c.operand.result c.args.findings.now c.check_value-in-Chain.new.findings c.check_links.new.findings
    c.in-Chain.is c.as_slice-in-Chain.ensures c.get-in-Chain.ensures c.get-in-Chain-2.ensures c.in_ok-found-in-Chain.ensures.value c.operand.ensures c.in_ok-found-in-Chain.ensures.faults e)

pub check_shape-returns-in_ok-found-in-Conditional-clause-value : goal.check_shape-returns-in_ok-found-in-Conditional-clause-value
check_shape-returns-in_ok-found-in-Conditional-clause-value t c = c.of_kind-in-Conditional.ensures ∙
    choice_value (seen c.args.environment.now) c.args.shape.now c.in-Conditional.choices c.as_slice-in-Conditional.result.now c.in-Conditional.last c.get-in-Conditional.result.now c.in_ok-chosen-in-Conditional.chosen c.in_ok-found-in-Conditional.found c.operand-in-Conditional.result c.choose_all-operand.result c.operand_kind.result
    c.in-Conditional.is c.as_slice-in-Conditional.ensures c.get-in-Conditional.ensures c.in_ok-chosen-in-Conditional.ensures.value c.in_ok-found-in-Conditional.ensures.value c.operand-in-Conditional.ensures c.choose_all-operand.ensures.value c.operand_kind.ensures

pub check_shape-returns-in_ok-found-in-Conditional-clause-faults : goal.check_shape-returns-in_ok-found-in-Conditional-clause-faults
check_shape-returns-in_ok-found-in-Conditional-clause-faults t c =
    choice_noted (seen c.args.environment.now) c.args.shape.now c.in-Conditional.choices c.as_slice-in-Conditional.result.now c.in-Conditional.last c.get-in-Conditional.result.now c.get-in-Conditional-2.result.now c.in_ok-chosen-in-Conditional.chosen c.in_ok-found-in-Conditional.found c.operand-in-Conditional.result
    c.args.findings.now c.check_choices.new.findings c.check_value-in-Conditional.new.findings c.choose_all-operand.new.findings
    c.in-Conditional.is c.as_slice-in-Conditional.ensures c.get-in-Conditional.ensures c.get-in-Conditional-2.ensures c.in_ok-chosen-in-Conditional.ensures.value c.in_ok-chosen-in-Conditional.ensures.faults
    c.in_ok-found-in-Conditional.ensures.value c.in_ok-found-in-Conditional.ensures.faults c.operand-in-Conditional.ensures c.choose_all-operand.ensures.faults

pub check_suffix-returns-in_ok-found-in-Index-clause-faults : goal.check_suffix-returns-in_ok-found-in-Index-clause-faults
check_suffix-returns-in_ok-found-in-Index-clause-faults t c =
    index_noted (seen c.args.environment.now) c.args.first c.args.suffix.now c.in-Index.index c.in-Index.span c.args.kind c.in_ok-found-in-Index.found c.index.result c.join-in-Index.result c.args.findings.now c.check_value.new.findings c.settle-in-Index.new.findings
    c.in-Index.is c.in_ok-found-in-Index.ensures.value c.index.ensures c.join-in-Index.ensures c.in_ok-found-in-Index.ensures.faults c.settle-in-Index.ensures.fault

pub check_suffixes-loop-suffix-preserved : goal.check_suffixes-loop-suffix-preserved
check_suffixes-loop-suffix-preserved t c =
    let turn : _ = suffix_turn (seen c.args.environment.now) c.args.first c.args.suffixes.now c.loop-suffix.suffix-index c.suffix-item.result c.loop-suffix.kind c.in_ok-kind.kind c.loop-suffix.findings c.check_suffix.new.findings c.loop-suffix-test.true c.suffix-item.is c.in_ok-kind.ensures.value c.in_ok-kind.ensures.faults in
    record { kinds = turn.0 ∙ c.loop-suffix.invariant.kinds; faults = turn.1 ∙ c.loop-suffix.invariant.faults }
