use Rattle.c_lexer.proofs.CoverLemmas.{covered}
use Rattle.c_lexer.proofs.ExactLemmas.{only_covers}
use Rattle.c_lexer.proofs.laws.tokens_cover.Goals as goal

pub returns-clause-covers : goal.returns-clause-covers
returns-clause-covers c = covered

pub returns-clause-only : goal.returns-clause-only
returns-clause-only c = only_covers
