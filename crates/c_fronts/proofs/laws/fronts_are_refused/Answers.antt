use Rattle.c_fronts.proofs.FrontTexts.{refused_fronts}
use Rattle.c_fronts.proofs.laws.fronts_are_refused.Goals as goal

pub returns : goal.returns
returns c = refused_fronts
