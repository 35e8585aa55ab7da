use Rattle.c_code.proofs.Values.{means_the_same}
use Rattle.c_code.proofs.laws.code_means_the_same.Goals as goal

pub returns : goal.returns
returns c = means_the_same
