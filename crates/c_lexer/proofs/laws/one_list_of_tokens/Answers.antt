use Rattle.c_lexer.proofs.CoverLemmas.{some_list, one_list}
use Rattle.c_lexer.proofs.laws.one_list_of_tokens.Goals as goal

pub returns-clause-some : goal.returns-clause-some
returns-clause-some c = some_list

pub returns-clause-one : goal.returns-clause-one
returns-clause-one c = one_list
