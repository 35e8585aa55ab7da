use Rattle.c_interpreter.proofs.RunLaws.{prints_grow}
use Rattle.c_interpreter.proofs.laws.prints_grow.Goals as goal

pub returns : goal.returns
returns c = prints_grow
