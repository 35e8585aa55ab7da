use Rattle.c_code.proofs.Steady.{steady}
use Rattle.c_code.proofs.laws.steps_are_steady.Goals as goal

pub returns : goal.returns
returns c = steady
