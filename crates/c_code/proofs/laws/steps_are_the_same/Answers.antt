use Rattle.c_code.proofs.Stepped.{steps_same}
use Rattle.c_code.proofs.laws.steps_are_the_same.Goals as goal

pub returns : goal.returns
returns c = steps_same
