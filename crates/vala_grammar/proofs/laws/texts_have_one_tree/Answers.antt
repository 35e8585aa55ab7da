use Rattle.vala_grammar.proofs.Readers.{has_one_tree}
use Rattle.vala_grammar.proofs.laws.texts_have_one_tree.Goals as goal

pub returns : goal.returns
returns c = has_one_tree
