use Rattle.c_meaning.proofs.BlockLaws.{runs_go_on}
use Rattle.c_meaning.proofs.laws.runs_go_on.Goals as goal

pub returns : goal.returns
returns c = runs_go_on
