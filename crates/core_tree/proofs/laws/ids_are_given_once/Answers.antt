use Rattle.core_tree.proofs.RunLaws.{ids_are_given_once, dispatches_source_there}
use Rattle.core_tree.proofs.laws.ids_are_given_once.Goals as goal

pub returns-clause-ids : goal.returns-clause-ids
returns-clause-ids c = ids_are_given_once

pub returns-clause-dispatches : goal.returns-clause-dispatches
returns-clause-dispatches c = dispatches_source_there
