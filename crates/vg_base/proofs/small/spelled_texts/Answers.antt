use Rattle.vg_base.proofs.SpellingLemmas as laws
use Rattle.vg_base.proofs.small.spelled_texts.Goals as goal

pub returns : goal.returns
returns c = laws.spelled_texts
