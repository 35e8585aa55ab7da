use Rattle.c_fronts.proofs.Law.{fronts_are_known}
use Rattle.c_fronts.proofs.laws.fronts_are_known.Goals as goal

pub returns : goal.returns
returns c = fronts_are_known
