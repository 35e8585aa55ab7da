use Rattle.c_steps.proofs.Sizes.{code_sized}
use Rattle.c_steps.proofs.laws.code_is_sized.Goals as goal

pub returns : goal.returns
returns c = code_sized
