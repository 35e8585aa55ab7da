use Rattle.c_places.proofs.Whole.{texts_apart}
use Rattle.c_places.proofs.laws.texts_stand_apart.Goals as goal

pub returns : goal.returns
returns c = texts_apart c.tokens_cover.ensures.covers
