use Rattle.std.proofs.Common.{refl}
use Rattle.c_tree.specs.Checks.{checked}
use Rattle.c_tree.specs.Rules.{checked_block}
use Rattle.c_tree.specs.Unit.{item_faults, items_faults, with_item}
use Rattle.c_value_checker.specs.Seen.{seen}
use Rattle.c_checker.proofs.Steps.{faults_step}
use Rattle.c_checker.proofs.unit.check_items.Goals as goal

pub loop-item-preserved : goal.loop-item-preserved
loop-item-preserved c = faults_step with_item (item_faults checked (checked_block checked)) (items_faults checked (checked_block checked)) (λ d x l. refl)
    c.args.items.now c.loop-item.item-index c.item-item.result (seen c.loop-item.environment) (seen c.check_item.new.environment) c.loop-item.findings c.check_item.new.findings _ c.loop-item-test.true c.item-item.is c.in_ok-check_item.ensures.names c.in_ok-check_item.ensures.faults c.loop-item.invariant
