use Rattle.breaks.proofs.OrderLemmas.{order_keeps, order_makes_none, first_is_least}
use Rattle.breaks.proofs.laws.first_is_earliest.Goals as goal

pub returns-clause-kept : goal.returns-clause-kept
returns-clause-kept c = order_keeps

pub returns-clause-none_made : goal.returns-clause-none_made
returns-clause-none_made c = order_makes_none

pub returns-clause-earliest : goal.returns-clause-earliest
returns-clause-earliest c = first_is_least c.earlier_is_an_order.ensures.irreflexive c.earlier_is_an_order.ensures.transitive c.earlier_is_an_order.ensures.total
