use Rattle.static_rules.proofs.OrderLemmas.{earlier_irreflexive, earlier_transitive, earlier_total}
use Rattle.static_rules.proofs.laws.earlier_is_an_order.Goals as goal

pub returns-clause-irreflexive : goal.returns-clause-irreflexive
returns-clause-irreflexive c = earlier_irreflexive

pub returns-clause-transitive : goal.returns-clause-transitive
returns-clause-transitive c = earlier_transitive

pub returns-clause-total : goal.returns-clause-total
returns-clause-total c = earlier_total
