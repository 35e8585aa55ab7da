use Rattle.c_grammar.proofs.Joined.{has_one_tree}
use Rattle.c_grammar.proofs.laws.texts_have_one_tree.Goals as goal

pub returns : goal.returns
returns c = has_one_tree
