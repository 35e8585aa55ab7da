use Rattle.breaks.proofs.TextLemmas.{breaks_same}
use Rattle.breaks.proofs.laws.one_list_is_broken.Goals as goal

pub returns : goal.returns
returns c = breaks_same
