use Rattle.core_tree.proofs.PlaceLaws.{runs_go_on}
use Rattle.core_tree.proofs.laws.runs_go_on.Goals as goal

pub returns-clause-stays : goal.returns-clause-stays
returns-clause-stays c = runs_go_on
