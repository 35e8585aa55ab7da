use Rattle.c_grammar.proofs.Fronts.{fronts_are_completed}
use Rattle.c_grammar.proofs.laws.fronts_are_completed.Goals as goal

pub returns : goal.returns
returns c = fronts_are_completed
