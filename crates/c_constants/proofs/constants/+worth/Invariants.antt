use Rattle.std.proofs.Common.{◌≡◌, ◌≤◌, length, drop, map, take}
use Rattle.c_tree.specs.Checks.{chain_worth}
use Rattle.c_constants.specs.Choices.{chosen_before}
use Rattle.c_constants.specs.Told.{worth_told}
use Rattle.c_value_checker.specs.Judgements.{checked_choice, checked_link}
use Rattle.c_value_checker.specs.Seen.{seen}
use Rattle.c_constants.proofs.constants.+worth.Given as goal

abbrev pub invariant-links_worth-loop-link : goal.invariant-links_worth-loop-link
invariant-links_worth-loop-link l =
    chain_worth (seen l.environment) l.operand (worth_told l.worth) (map checked_link (drop l.link-index l.links)) ≡ chain_worth (seen l.environment) l.fn.operand (worth_told l.fn.worth) (map checked_link l.links)

abbrev pub invariant-choices_worth-loop-index : goal.invariant-choices_worth-loop-index
invariant-choices_worth-loop-index l = record {
  within : l.index ≤ length l.choices;
  worths : chosen_before (seen l.environment) (map checked_choice (take l.index l.choices)) l.operand (worth_told l.worth) ≡ chosen_before (seen l.environment) (map checked_choice l.choices) l.fn.operand (worth_told l.fn.worth);
}

abbrev pub decreases-choices_worth-loop-index : goal.decreases-choices_worth-loop-index
decreases-choices_worth-loop-index l = l.index
