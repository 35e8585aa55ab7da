use Rattle.c_printer.proofs.ItemLemmas.{item_step}
use Rattle.c_printer.proofs.items.put_items.Goals as goal

pub loop-item-preserved : goal.loop-item-preserved
loop-item-preserved c = item_step c.args.brackets c.loop-item.before c.args.items.now c.loop-item.item-index c.item-item.result c.group_of.result _ _ _ c.loop-item-test.true c.item-item.is c.group_of.ensures c.in_ok-put_next_item.ensures c.loop-item.invariant
