use Rattle.c_emit.proofs.Law.{emitted_run}
use Rattle.c_emit.proofs.laws.emitted_units_run.Goals as goal

pub returns : goal.returns
returns c = emitted_run
