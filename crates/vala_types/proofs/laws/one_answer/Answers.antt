use Rattle.vala_types.proofs.FitsLaws.{one_answer}
use Rattle.vala_types.proofs.laws.one_answer.Goals as goal

pub returns : goal.returns
returns c = one_answer
