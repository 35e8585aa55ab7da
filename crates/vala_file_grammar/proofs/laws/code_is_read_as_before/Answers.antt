use Rattle.vala_file_grammar.proofs.Readers.{reads_code}
use Rattle.vala_file_grammar.proofs.laws.code_is_read_as_before.Goals as goal

pub returns : goal.returns
returns c = reads_code
