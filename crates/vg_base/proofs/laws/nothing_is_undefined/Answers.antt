use Rattle.vg_base.proofs.EndLaws.{agreeing_is_defined, headline_is_defined}
use Rattle.vg_base.proofs.laws.nothing_is_undefined.Goals as goal

pub returns-clause-agreeing : goal.returns-clause-agreeing
returns-clause-agreeing c = agreeing_is_defined

pub returns-clause-headline : goal.returns-clause-headline
returns-clause-headline c = headline_is_defined
