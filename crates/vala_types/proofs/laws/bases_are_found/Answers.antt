use Rattle.vala_types.proofs.TiesLemmas.{decides_base}
use Rattle.vala_types.proofs.FitsLaws.{join}
use Rattle.vala_types.proofs.laws.bases_are_found.Goals as goal

pub returns-clause-found : goal.returns-clause-found
returns-clause-found c = decides_base

pub returns-clause-joined : goal.returns-clause-joined
returns-clause-joined c = join
