use Rattle.vala_compile.proofs.Determined.{one_list, never_compiled}
use Rattle.vala_compile.proofs.laws.breaks_are_determined.Goals as goal

pub returns-clause-same : goal.returns-clause-same
returns-clause-same c = one_list

pub returns-clause-refused : goal.returns-clause-refused
returns-clause-refused c = never_compiled
