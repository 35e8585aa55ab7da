use Rattle.vala_types.proofs.FitsLaws.{itself, without_marks}
use Rattle.vala_types.proofs.laws.each_type_fits_itself.Goals as goal

pub returns-clause-itself : goal.returns-clause-itself
returns-clause-itself c = itself

pub returns-clause-unmarked : goal.returns-clause-unmarked
returns-clause-unmarked c = without_marks
