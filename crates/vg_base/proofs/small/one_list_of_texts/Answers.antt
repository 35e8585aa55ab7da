use Rattle.vg_base.proofs.CallLemmas as laws
use Rattle.vg_base.proofs.small.one_list_of_texts.Goals as goal

pub returns : goal.returns
returns c = laws.one_list_of_texts
