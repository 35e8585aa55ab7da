use Rattle.c_text_reader.proofs.Order.{in_order}
use Rattle.c_text_reader.proofs.laws.tokens_are_in_order.Goals as goal

pub returns : goal.returns
returns c = in_order c.tokens_cover.ensures.covers
