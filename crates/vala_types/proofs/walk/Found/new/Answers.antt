use Rattle.vala_types.proofs.WalkLemmas.{unmarked}
use Rattle.vala_types.proofs.walk.Found.new.Goals as goal

pub returns-clause-unmarked : goal.returns-clause-unmarked
returns-clause-unmarked c = unmarked 131072
