use Rattle.vg_base.specs.Headline.{observed}
use Rattle.vg_base.proofs.EndLaws.{headline_ends}
use Rattle.vg_base.proofs.HeadlineLaws.{observed_stays}
use Rattle.vg_base.proofs.laws.one_end.Goals as goal

pub returns-clause-staying : goal.returns-clause-staying
returns-clause-staying g c = headline_ends

pub returns-clause-meanings : goal.returns-clause-meanings
returns-clause-meanings g c = λ V C x y. headline_ends (observed V x) (observed C y) (observed_stays C y)
