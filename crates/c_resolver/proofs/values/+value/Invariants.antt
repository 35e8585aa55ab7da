use Rattle.std.proofs.Common.{◌≡◌, ◌++◌, ◌≤◌, drop, length, map, reverse, take}
use Rattle.c_tree.specs.Checks.{chain_kind, choice_operand}
use Rattle.c_value_checker.specs.Seen.{seen}
use Rattle.c_code.specs.Resolved.{known_choices, known_links, operations}
use Rattle.c_resolver.specs.Parts.{resolved_choice, resolved_link, resolved_suffix}
use Rattle.c_resolver.specs.Shown.{found_seen, looks}
use Rattle.c_resolver.specs.Steps.{all_behind, alternatives_by}
use Rattle.c_resolver.proofs.values.+value.Given as goal

abbrev pub invariant-resolve_suffixes-loop-suffix : goal.invariant-resolve_suffixes-loop-suffix
invariant-resolve_suffixes-loop-suffix l =
    all_behind (looks l.tables l.scope) (found_seen (seen l.scope.environment) l.found) (map resolved_suffix (drop l.suffix-index l.suffixes))
    ≡ all_behind (looks l.tables l.scope) (found_seen (seen l.scope.environment) l.fn.found) (map resolved_suffix l.suffixes)

abbrev pub invariant-resolve_links-loop-link : goal.invariant-resolve_links-loop-link
invariant-resolve_links-loop-link l = record {
  operations : l.operations ++ operations (looks l.tables l.scope) l.operand (map resolved_link
      (drop l.link-index l.links)) ≡ operations (looks l.tables l.scope) l.fn.operand (map resolved_link l.links);
  operand : chain_kind (seen l.scope.environment) l.operand (known_links
      (map resolved_link (drop l.link-index l.links))) ≡ chain_kind (seen l.scope.environment) l.fn.operand (known_links (map resolved_link l.links));
}

abbrev pub invariant-resolve_choices-loop-index : goal.invariant-resolve_choices-loop-index
invariant-resolve_choices-loop-index l = record {
  within : l.index ≤ length l.choices;
  alternatives : alternatives_by (looks l.tables l.scope) (map resolved_choice (take l.index l.choices)) l.operand ++ reverse l.alternatives.items
      ≡ alternatives_by (looks l.tables l.scope) (map resolved_choice l.choices) l.fn.operand;
  operand : choice_operand (seen l.scope.environment) (known_choices (map resolved_choice (take l.index l.choices))) l.operand
      ≡ choice_operand (seen l.scope.environment) (known_choices (map resolved_choice l.choices)) l.fn.operand;
}

abbrev pub decreases-resolve_choices-loop-index : goal.decreases-resolve_choices-loop-index
decreases-resolve_choices-loop-index l = l.index
