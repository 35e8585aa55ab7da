use Rattle.c_grammar.proofs.Joined.{types_are_told, values_are_told}
use Rattle.c_grammar.proofs.laws.values_are_told.Goals as goal

pub returns-clause-types : goal.returns-clause-types
returns-clause-types c = types_are_told

pub returns-clause-values : goal.returns-clause-values
returns-clause-values c = values_are_told
