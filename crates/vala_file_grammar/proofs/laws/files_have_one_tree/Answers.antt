use Rattle.vala_file_grammar.proofs.Readers.{has_one_tree}
use Rattle.vala_file_grammar.proofs.laws.files_have_one_tree.Goals as goal

pub returns : goal.returns
returns c = has_one_tree
