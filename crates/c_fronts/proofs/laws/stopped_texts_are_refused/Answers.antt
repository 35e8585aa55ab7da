use Rattle.c_fronts.proofs.Law.{stopped_texts_are_refused}
use Rattle.c_fronts.proofs.laws.stopped_texts_are_refused.Goals as goal

pub returns : goal.returns
returns c = stopped_texts_are_refused
