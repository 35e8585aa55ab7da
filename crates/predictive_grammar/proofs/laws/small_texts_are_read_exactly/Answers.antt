use Rattle.predictive_grammar.proofs.Small.{reads_exactly}
use Rattle.predictive_grammar.proofs.laws.small_texts_are_read_exactly.Goals as goal

pub returns : goal.returns
returns c = reads_exactly
