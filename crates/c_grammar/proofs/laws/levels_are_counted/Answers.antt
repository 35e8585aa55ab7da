use Rattle.c_grammar.proofs.Levels.{levels_are_counted}
use Rattle.c_grammar.proofs.laws.levels_are_counted.Goals as goal

pub returns : goal.returns
returns c = levels_are_counted
