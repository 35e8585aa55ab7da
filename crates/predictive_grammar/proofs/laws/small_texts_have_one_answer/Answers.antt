use Rattle.predictive_grammar.proofs.Small.{has_one_answer}
use Rattle.predictive_grammar.proofs.laws.small_texts_have_one_answer.Goals as goal

pub returns : goal.returns
returns c = has_one_answer
