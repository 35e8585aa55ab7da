use Rattle.vala_lexer.proofs.CoverLemmas.{covered}
use Rattle.vala_lexer.proofs.laws.tokens_cover.Goals as goal

pub returns : goal.returns
returns c = covered
