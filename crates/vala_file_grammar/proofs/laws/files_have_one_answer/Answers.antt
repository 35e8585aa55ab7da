use Rattle.vala_file_grammar.proofs.FileAnswers.{has_one_answer}
use Rattle.vala_file_grammar.proofs.laws.files_have_one_answer.Goals as goal

pub returns : goal.returns
returns c = has_one_answer
