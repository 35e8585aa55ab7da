use Rattle.c_grammar.proofs.Joined.{reads_exactly}
use Rattle.c_grammar.proofs.laws.texts_are_read_exactly.Goals as goal

pub returns : goal.returns
returns c = reads_exactly
