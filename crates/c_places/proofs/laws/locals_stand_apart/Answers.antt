use Rattle.c_places.proofs.Whole.{locals_apart}
use Rattle.c_places.proofs.laws.locals_stand_apart.Goals as goal

pub returns : goal.returns
returns c = locals_apart c.tokens_cover.ensures.covers
