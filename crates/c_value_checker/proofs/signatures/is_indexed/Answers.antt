use Rattle.std.proofs.Common.{◌∙◌, ap, is_some, sym}
use Rattle.c_value_checker.proofs.SignatureLemmas.{found_is}
use Rattle.c_value_checker.proofs.signatures.is_indexed.Goals as goal

pub returns : goal.returns
returns c = c.is_some.ensures ∙ sym (found_is c.get.result) ∙ ap is_some c.get.ensures.value
