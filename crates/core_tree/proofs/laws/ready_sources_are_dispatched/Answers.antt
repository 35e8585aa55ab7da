use Rattle.core_tree.proofs.TurnLaws.{dispatches}
use Rattle.core_tree.proofs.laws.ready_sources_are_dispatched.Goals as goal

pub returns : goal.returns
returns c = dispatches
