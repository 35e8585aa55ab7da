use Rattle.c_tree.proofs.AnswerLemmas.{answers_of, answers_to}
use Rattle.c_tree.proofs.laws.units_are_answered.Goals as goal

pub returns-clause-answers : goal.returns-clause-answers
returns-clause-answers c = λ bytes limit u. (answers_of bytes limit u, answers_to bytes limit u)
