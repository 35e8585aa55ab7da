-- The first bytes are those of the part.
use Rattle.std.proofs.Common.{◌∙◌}
use Rattle.c_texts.proofs.ByteLemmas.{front_is}
use Rattle.c_texts.proofs.bytes.is_front.Goals as goal

pub returns : goal.returns
returns c = c.starts_with.ensures.value ∙ front_is c.args.part.now c.args.bytes.now
