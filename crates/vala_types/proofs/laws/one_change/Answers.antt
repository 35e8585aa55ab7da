use Rattle.vala_types.proofs.ChangesLaws.{some_change, one_change}
use Rattle.vala_types.proofs.laws.one_change.Goals as goal

pub returns-clause-some : goal.returns-clause-some
returns-clause-some c = some_change

pub returns-clause-one : goal.returns-clause-one
returns-clause-one c = one_change
