use Rattle.run_texts.proofs.TextLemmas.{texts_grow}
use Rattle.run_texts.proofs.texts.texts_grow.Goals as goal

pub returns : goal.returns
returns c = texts_grow
