use Rattle.vala_types.proofs.ChangesLaws.{kept, moved, borrowed}
use Rattle.vala_types.proofs.laws.owners_are_right.Goals as goal

pub returns-clause-kept : goal.returns-clause-kept
returns-clause-kept c = kept

pub returns-clause-moved : goal.returns-clause-moved
returns-clause-moved c = moved

pub returns-clause-borrowed : goal.returns-clause-borrowed
returns-clause-borrowed c = borrowed
