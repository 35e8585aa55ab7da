use Rattle.c_grammar.proofs.Menders.{texts_are_mended}
use Rattle.c_grammar.proofs.laws.texts_are_mended.Goals as goal

pub returns : goal.returns
returns c = texts_are_mended
