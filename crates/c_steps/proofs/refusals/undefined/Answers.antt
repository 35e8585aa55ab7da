-- The run ends so.
use Rattle.c_steps.proofs.refusals.undefined.Goals as goal

pub returns : goal.returns
returns c = λ env s live shows. c.undefined.ensures.shows env s shows
