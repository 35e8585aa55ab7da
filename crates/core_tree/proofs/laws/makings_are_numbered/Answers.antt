use Rattle.core_tree.proofs.RunLaws.{makings_are_numbered, one_stage_a_step, things_go_on}
use Rattle.core_tree.proofs.laws.makings_are_numbered.Goals as goal

pub returns-clause-numbered : goal.returns-clause-numbered
returns-clause-numbered c = makings_are_numbered

pub returns-clause-stay : goal.returns-clause-stay
returns-clause-stay c = things_go_on

pub returns-clause-stages : goal.returns-clause-stages
returns-clause-stages c = one_stage_a_step
