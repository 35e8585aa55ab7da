use Rattle.c_lexer.proofs.DenotesLemmas.{text_denotes}
use Rattle.c_lexer.proofs.laws.texts_denote.Goals as goal

pub returns : goal.returns
returns c = text_denotes
