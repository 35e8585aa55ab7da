use Rattle.c_lexer.proofs.WrittenLemmas.{token_written, token_longest}
use Rattle.c_lexer.proofs.laws.each_token_is_longest.Goals as goal

pub returns-clause-written : goal.returns-clause-written
returns-clause-written c = token_written

pub returns-clause-longest : goal.returns-clause-longest
returns-clause-longest c = token_longest
