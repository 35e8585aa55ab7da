use Rattle.symbols.proofs.DistinctLemmas.{names_differ, c_names_differ}
use Rattle.symbols.proofs.laws.accepted_names_differ.Goals as goal

pub returns-clause-names : goal.returns-clause-names
returns-clause-names c = names_differ

pub returns-clause-c_names : goal.returns-clause-c_names
returns-clause-c_names c = c_names_differ
