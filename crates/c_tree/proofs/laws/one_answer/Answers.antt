use Rattle.c_tree.proofs.AnswerLemmas.{one_answer}
use Rattle.c_tree.proofs.laws.one_answer.Goals as goal

pub returns : goal.returns
returns c = one_answer
