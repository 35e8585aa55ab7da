use Rattle.vala_types.proofs.FitsLaws.{class_breaks, top_breaks}
use Rattle.vala_types.proofs.laws.fits_do_not_always_go_on.Goals as goal

pub returns-clause-class : goal.returns-clause-class
returns-clause-class c = class_breaks

pub returns-clause-top : goal.returns-clause-top
returns-clause-top c = top_breaks
