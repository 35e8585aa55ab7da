use Rattle.c_lexer.proofs.ApartLemmas.{apart, puts_read}
use Rattle.c_lexer.proofs.laws.tokens_stay_apart.Goals as goal

pub returns-clause-one : goal.returns-clause-one
returns-clause-one c = apart

pub returns-clause-all : goal.returns-clause-all
returns-clause-all c = puts_read
