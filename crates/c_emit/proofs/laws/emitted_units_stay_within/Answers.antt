use Rattle.c_emit.proofs.Law.{emitted_within}
use Rattle.c_emit.proofs.laws.emitted_units_stay_within.Goals as goal

pub returns : goal.returns
returns c = emitted_within
