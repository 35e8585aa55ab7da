use Rattle.class_table.proofs.SlotLemmas.{standing_is_most_derived, most_derived_is_standing}
use Rattle.class_table.proofs.laws.most_derived_is_reached.Goals as goal

pub returns-clause-reached : goal.returns-clause-reached
returns-clause-reached c = standing_is_most_derived

pub returns-clause-stands : goal.returns-clause-stands
returns-clause-stands c = most_derived_is_standing
