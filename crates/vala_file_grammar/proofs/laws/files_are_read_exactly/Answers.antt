use Rattle.vala_file_grammar.proofs.Readers.{reads_exactly}
use Rattle.vala_file_grammar.proofs.laws.files_are_read_exactly.Goals as goal

pub returns : goal.returns
returns c = reads_exactly
