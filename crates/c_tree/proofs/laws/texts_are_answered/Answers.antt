use Rattle.c_tree.proofs.Texts.{accepted_texts, refused_texts}
use Rattle.c_tree.proofs.laws.texts_are_answered.Goals as goal

pub returns-clause-units : goal.returns-clause-units
returns-clause-units c = accepted_texts

pub returns-clause-refusals : goal.returns-clause-refusals
returns-clause-refusals c = refused_texts
