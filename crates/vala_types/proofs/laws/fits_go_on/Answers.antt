use Rattle.vala_types.proofs.FitsLaws.{through}
use Rattle.vala_types.proofs.laws.fits_go_on.Goals as goal

pub returns : goal.returns
returns c = through
