use Rattle.vg_base.proofs.MachineLaws.{run_is}
use Rattle.vg_base.proofs.laws.machines_run.Goals as goal

pub returns-clause-vala : goal.returns-clause-vala
returns-clause-vala g c = λ M s. run_is M s

pub returns-clause-c : goal.returns-clause-c
returns-clause-c g c = λ M s. run_is M s
