use Rattle.core_tree.proofs.RunLaws.{gone_once, made_before_gone, endings_stand_once, one_ending_begins}
use Rattle.core_tree.proofs.laws.things_go_once.Goals as goal

pub returns-clause-gone : goal.returns-clause-gone
returns-clause-gone c = gone_once

pub returns-clause-order : goal.returns-clause-order
returns-clause-order c = made_before_gone

pub returns-clause-endings : goal.returns-clause-endings
returns-clause-endings c = endings_stand_once

pub returns-clause-one : goal.returns-clause-one
returns-clause-one c = one_ending_begins
