use Rattle.std.proofs.Common.{◌≡◌, ◌++◌, drop, map}
use Rattle.c_tree.specs.Checks.{chain_faults, chain_kind, suffix_faults, suffix_kind}
use Rattle.c_value_checker.specs.Judgements.{checked_choice, checked_link, checked_suffix, choice_told, part_faults}
use Rattle.c_value_checker.specs.Noted.{noted}
use Rattle.c_value_checker.specs.Seen.{seen}
use Rattle.c_value_checker.proofs.values.+value.Given as goal

abbrev pub invariant-check_suffixes-loop-suffix : goal.invariant-check_suffixes-loop-suffix
invariant-check_suffixes-loop-suffix l = record {
  kinds : suffix_kind (seen l.environment) l.kind (map checked_suffix (drop l.suffix-index l.suffixes)) ≡ suffix_kind (seen l.environment) l.fn.kind (map checked_suffix l.suffixes);
  faults : noted l.findings (suffix_faults (seen l.environment) l.first l.kind (map checked_suffix (drop l.suffix-index l.suffixes)))
      ≡ noted l.fn.findings (suffix_faults (seen l.environment) l.first l.fn.kind (map checked_suffix l.suffixes));
}

abbrev pub invariant-check_links-loop-link : goal.invariant-check_links-loop-link
invariant-check_links-loop-link l = record {
  kinds : chain_kind (seen l.environment) l.operand (map checked_link (drop l.link-index l.links)) ≡ chain_kind (seen l.environment) l.fn.operand (map checked_link l.links);
  faults : noted l.findings (chain_faults (seen l.environment) l.first l.operand (map checked_link (drop l.link-index l.links)))
      ≡ noted l.fn.findings (chain_faults (seen l.environment) l.first l.fn.operand (map checked_link l.links));
}

abbrev pub invariant-check_choices-loop-choice : goal.invariant-check_choices-loop-choice
invariant-check_choices-loop-choice l = record {
  kept : l.found ++ map (choice_told (seen l.environment)) (map checked_choice (drop l.choice-index l.choices)) ≡ map (choice_told (seen l.environment)) (map checked_choice l.choices);
  faults : noted l.findings (part_faults (seen l.environment) (map checked_choice (drop l.choice-index l.choices))) ≡ noted l.fn.findings (part_faults (seen l.environment) (map checked_choice l.choices));
}
