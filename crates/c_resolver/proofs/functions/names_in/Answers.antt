use Rattle.std.proofs.Common.{◌∙◌, refl}
use Rattle.c_resolver.specs.Routines.{all_names, names_behind}
use Rattle.c_resolver.proofs.ListLemmas.{passed_step}
use Rattle.c_resolver.proofs.functions.names_in.Goals as goal

pub loop-item-preserved : goal.loop-item-preserved
loop-item-preserved c = passed_step names_behind all_names (λ s x l. refl) c.args.items.now c.loop-item.item-index c.item-item.result c.loop-item.names
    c.add_item_name.new.names
    c.loop-item-test.true c.item-item.is c.in_ok-add_item_name.ensures ∙ c.loop-item.invariant
