use Rattle.c_grammar.proofs.Joined.{one_unit}
use Rattle.c_grammar.proofs.laws.tokens_are_one_unit.Goals as goal

pub returns : goal.returns
returns c = one_unit
