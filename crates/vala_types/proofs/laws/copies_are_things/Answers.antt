use Rattle.vala_types.proofs.ChangesLaws.{things_made}
use Rattle.vala_types.proofs.laws.copies_are_things.Goals as goal

pub returns : goal.returns
returns c = things_made
