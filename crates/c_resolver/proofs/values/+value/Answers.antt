use Rattle.std.proofs.Common.{◌∙◌, ◌-◌, ◌++◌, ◌∷◌, [], ap, arith, map, refl, reverse, take}
use Rattle.std.proofs.lemmas.List.{reverse-append}
use Rattle.c_value_checker.specs.Seen.{seen}
use Rattle.c_resolver.specs.Parts.{resolved_choice, resolved_suffix}
use Rattle.c_resolver.specs.Shown.{found_seen, looks}
use Rattle.c_resolver.specs.Steps.{all_behind, alternatives_by, shown_behind}
use Rattle.c_resolver.proofs.ListLemmas.{back, map_last, passed_step}
use Rattle.c_resolver.proofs.StepLemmas.{
  alternatives_turn,
  chain_found,
  choice_found,
  link_operand,
  link_operations,
  on_value,
  operand_turn,
  postfix_found,
  prefix_found,
}
use Rattle.c_resolver.proofs.values.+value.Goals as goal

pub resolve_suffixes-loop-suffix-preserved : goal.resolve_suffixes-loop-suffix-preserved
resolve_suffixes-loop-suffix-preserved t c =
    passed_step (λ s x. shown_behind (looks c.args.tables.now c.args.scope.now) s (resolved_suffix x))
    (λ s l. all_behind (looks c.args.tables.now c.args.scope.now) s (map resolved_suffix l)) (λ s x l. refl)
    c.args.suffixes.now c.loop-suffix.suffix-index c.suffix-item.result (found_seen (seen c.args.scope.now.environment) c.loop-suffix.found)
    (found_seen (seen c.args.scope.now.environment) c.in_ok-found.found)
    c.loop-suffix-test.true c.suffix-item.is c.in_ok-found.ensures
    ∙ c.loop-suffix.invariant

pub resolve_links-loop-link-preserved : goal.resolve_links-loop-link-preserved
resolve_links-loop-link-preserved t c = record {
  operations = link_operations (looks c.args.tables.now c.args.scope.now) c.args.links.now c.loop-link.link-index c.link-item.result c.loop-link.operand
      c.in_ok-linked.linked.operand c.in_ok-linked.linked.operation
      c.loop-link.operations c.push.new.items c.loop-link-test.true c.link-item.is c.in_ok-linked.ensures.operation c.in_ok-linked.ensures.operand
      c.in_ok-push.ensures
      ∙ c.loop-link.invariant.operations;
  operand = link_operand (looks c.args.tables.now c.args.scope.now) c.args.links.now c.loop-link.link-index c.link-item.result c.loop-link.operand
      c.in_ok-linked.linked.operand
      c.loop-link-test.true c.link-item.is c.in_ok-linked.ensures.operand
      ∙ c.loop-link.invariant.operand;
}

pub resolve_choices-loop-index-preserved : goal.resolve_choices-loop-index-preserved
resolve_choices-loop-index-preserved t c = record {
  within = omega (arith, c.loop-index.invariant.within);
  alternatives = ap (λ z. alternatives_by (looks c.args.tables.now c.args.scope.now)
      (map resolved_choice (take (c.loop-index.index - 1) c.args.choices.now)) c.in_ok-picked.picked.operand ++ z)
      (ap reverse c.in_ok-add.ensures ∙ reverse-append c.loop-index.alternatives.items (c.in_ok-picked.picked.alternative ∷ []))
      ∙ alternatives_turn (looks c.args.tables.now c.args.scope.now) (map resolved_choice (take c.loop-index.index c.args.choices.now))
      (map resolved_choice (take (c.loop-index.index - 1) c.args.choices.now)) (resolved_choice c.index-choices-index.result)
      c.loop-index.operand c.in_ok-picked.picked.operand c.in_ok-picked.picked.alternative (reverse c.loop-index.alternatives.items)
      (map_last resolved_choice _ _ c.index-choices-index.result (back c.args.choices.now c.loop-index.index c.index-choices-index.result
      c.loop-index-test.true c.loop-index.invariant.within c.index-choices-index.is))
      c.in_ok-picked.ensures.operand c.in_ok-picked.ensures.alternative
      ∙ c.loop-index.invariant.alternatives;
  operand = operand_turn (looks c.args.tables.now c.args.scope.now) (map resolved_choice (take c.loop-index.index c.args.choices.now))
      (map resolved_choice (take (c.loop-index.index - 1) c.args.choices.now)) (resolved_choice c.index-choices-index.result)
      c.loop-index.operand c.in_ok-picked.picked.operand
      (map_last resolved_choice _ _ c.index-choices-index.result (back c.args.choices.now c.loop-index.index c.index-choices-index.result
      c.loop-index-test.true c.loop-index.invariant.within c.index-choices-index.is))
      c.in_ok-picked.ensures.operand
      ∙ c.loop-index.invariant.operand;
}

pub resolve_shape-returns-in_ok-found-in-Prefix : goal.resolve_shape-returns-in_ok-found-in-Prefix
resolve_shape-returns-in_ok-found-in-Prefix t c = on_value c.apply_all.result c.apply_all.ensures (λ w e.
    prefix_found (looks c.args.tables.now c.args.scope.now) c.args.start c.args.shape.now c.in-Prefix.operators c.as_slice-in-Prefix.result.now
    c.in-Prefix.operand c.get.result.now (found_seen (seen c.args.scope.now.environment) c.in_ok-found-in-Prefix.found)
    (found_seen (seen c.args.scope.now.environment) w)
    c.in-Prefix.is c.as_slice-in-Prefix.ensures c.get.ensures c.in_ok-found-in-Prefix.ensures e)

pub resolve_shape-returns-in_ok-found-in-Postfix : goal.resolve_shape-returns-in_ok-found-in-Postfix
resolve_shape-returns-in_ok-found-in-Postfix t c = on_value c.resolve_suffixes.result c.resolve_suffixes.ensures (λ w e.
    postfix_found (looks c.args.tables.now c.args.scope.now) c.args.start c.args.shape.now c.in-Postfix.suffixes c.as_slice-in-Postfix.result.now
    c.in-Postfix.value c.get-in-Postfix.result.now (found_seen (seen c.args.scope.now.environment) c.in_ok-found-in-Postfix.found)
    (found_seen (seen c.args.scope.now.environment) w)
    c.in-Postfix.is c.as_slice-in-Postfix.ensures c.get-in-Postfix.ensures c.in_ok-found-in-Postfix.ensures e)

pub resolve_shape-returns-in_ok-found-in-Chain : goal.resolve_shape-returns-in_ok-found-in-Chain
resolve_shape-returns-in_ok-found-in-Chain t c = on_value c.resolve_chain.result c.resolve_chain.ensures (λ w e.
    chain_found (looks c.args.tables.now c.args.scope.now) c.args.start c.args.shape.now c.in-Chain.links c.as_slice-in-Chain.result.now c.in-Chain.first
    c.get-in-Chain.result.now (found_seen (seen c.args.scope.now.environment) c.in_ok-found-in-Chain.found)
    (found_seen (seen c.args.scope.now.environment) w)
    c.in-Chain.is c.as_slice-in-Chain.ensures c.get-in-Chain.ensures c.in_ok-found-in-Chain.ensures e)

pub resolve_shape-returns-in_ok-found-in-Conditional : goal.resolve_shape-returns-in_ok-found-in-Conditional
resolve_shape-returns-in_ok-found-in-Conditional t c = on_value c.resolve_conditional.result c.resolve_conditional.ensures (λ w e.
    choice_found (looks c.args.tables.now c.args.scope.now) c.args.start c.args.shape.now c.in-Conditional.choices c.as_slice-in-Conditional.result.now
    c.in-Conditional.last c.get-in-Conditional.result.now (found_seen (seen c.args.scope.now.environment) c.in_ok-found-in-Conditional.found)
    (found_seen (seen c.args.scope.now.environment) w)
    c.in-Conditional.is c.as_slice-in-Conditional.ensures c.get-in-Conditional.ensures c.in_ok-found-in-Conditional.ensures e)
