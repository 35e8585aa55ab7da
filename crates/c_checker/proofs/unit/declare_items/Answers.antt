use Rattle.std.proofs.Common.{refl}
use Rattle.c_tree.specs.Unit.{with_item}
use Rattle.c_value_checker.specs.Seen.{seen}
use Rattle.c_checker.specs.Behind.{behind}
use Rattle.c_checker.proofs.Steps.{names_step}
use Rattle.c_checker.proofs.unit.declare_items.Goals as goal

pub loop-item-preserved : goal.loop-item-preserved
loop-item-preserved c = names_step with_item behind (λ d x l. refl) c.args.items.now c.loop-item.item-index c.item-item.result (seen c.loop-item.environment) (seen c.check_item.new.environment) _
    c.loop-item-test.true c.item-item.is c.in_ok-check_item.ensures.names c.loop-item.invariant
