use Rattle.c_tree.proofs.LeastLemmas.{least_is_first, least_is_found}
use Rattle.c_tree.proofs.laws.least_fault_is_first.Goals as goal

pub returns-clause-first : goal.returns-clause-first
returns-clause-first c = least_is_first

pub returns-clause-found : goal.returns-clause-found
returns-clause-found c = least_is_found
