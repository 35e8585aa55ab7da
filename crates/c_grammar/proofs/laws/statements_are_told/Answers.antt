use Rattle.c_grammar.proofs.Joined.{statements_are_told, blocks_are_told}
use Rattle.c_grammar.proofs.laws.statements_are_told.Goals as goal

pub returns-clause-statements : goal.returns-clause-statements
returns-clause-statements c = statements_are_told

pub returns-clause-blocks : goal.returns-clause-blocks
returns-clause-blocks c = blocks_are_told
