use Rattle.c_grammar.proofs.Joined.{items_are_told}
use Rattle.c_grammar.proofs.laws.items_are_told.Goals as goal

pub returns : goal.returns
returns c = items_are_told
