-- What a row of choices gives, by what was kept of each.
use Rattle.std.specs.Prelude.{false, List, [], ◌∷◌, ◌++◌, Option}
use Rattle.c_tree.specs.declared.names.Span.{Span}
use Rattle.c_tree.specs.declared.kinds.Operand.{Operand}
use Rattle.c_tree.specs.declared.kinds.Fault.{Fault}
use Rattle.c_tree.specs.Words.{join}
use Rattle.c_tree.specs.Faults.{outcome_faults, outcome_kind}
use Rattle.c_tree.specs.Checks.{choice_outcome, operand_if}
use Rattle.c_value_checker.specs.declared.judged.JudgedChoice.{JudgedChoice}

-- one choice before a value
abbrev pub one_chosen : JudgedChoice → Option Operand → Option Operand
one_chosen c e = operand_if (outcome_kind (choice_outcome c.test c.yes e)) false

-- what the row gives
abbrev pub all_chosen : List JudgedChoice → Option Operand → Option Operand
all_chosen [] e = e
all_chosen (c ∷ cs) e = one_chosen c (all_chosen cs e)

-- what does not fit, the last choice first
abbrev pub chosen_faults : List JudgedChoice → Option Operand → Span → List Fault
chosen_faults [] e last = []
chosen_faults (c ∷ cs) e last = chosen_faults cs e last ++ outcome_faults (choice_outcome c.test c.yes (all_chosen cs e)) (join c.span last)
