use Rattle.core_tree.proofs.RunLaws.{is_always_tidy, one_owner_is_lost, one_place_is_given_up, owned_is_live}
use Rattle.core_tree.proofs.laws.live_things_are_owned.Goals as goal

pub returns-clause-tidy : goal.returns-clause-tidy
returns-clause-tidy c = is_always_tidy

pub returns-clause-one : goal.returns-clause-one
returns-clause-one c = one_owner_is_lost

pub returns-clause-place : goal.returns-clause-place
returns-clause-place c = one_place_is_given_up

pub returns-clause-live : goal.returns-clause-live
returns-clause-live c = owned_is_live
