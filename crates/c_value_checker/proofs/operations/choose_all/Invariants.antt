use Rattle.std.proofs.Common.{◌≡◌, length}
use Rattle.c_value_checker.specs.Choices.{all_chosen, chosen_faults}
use Rattle.c_value_checker.specs.Noted.{noted}
use Rattle.c_value_checker.proofs.operations.choose_all.Given as goal

abbrev pub invariant-loop-choice : goal.invariant-loop-choice
invariant-loop-choice l = record {
  kinds : all_chosen l.choices l.no ≡ all_chosen l.fn.choices l.fn.no;
  faults : noted l.findings (chosen_faults l.choices l.no l.last) ≡ noted l.fn.findings (chosen_faults l.fn.choices l.fn.no l.last);
}

abbrev pub decreases-loop-choice : goal.decreases-loop-choice
decreases-loop-choice l = length l.choices
