use Rattle.vg_base.proofs.ScannerLemmas as laws
use Rattle.vg_base.proofs.small.one_list_of_tokens.Goals as goal

pub returns : goal.returns
returns c = laws.one_list_of_tokens
