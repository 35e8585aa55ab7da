use Rattle.std.proofs.Common.{◌∙◌, map, refl}
use Rattle.c_meaning.specs.Code.{item_texts, literals_of, reading}
use Rattle.c_resolver.specs.Shown.{literal_seen}
use Rattle.c_resolver.proofs.ListLemmas.{kept_step}
use Rattle.c_resolver.proofs.texts.add_items.Goals as goal

pub loop-item-preserved : goal.loop-item-preserved
loop-item-preserved c = kept_step (item_texts reading) (literals_of reading) (λ x l. refl) c.args.items.now c.loop-item.item-index c.item-item.result
    (map literal_seen c.loop-item.literals) (map literal_seen c.add_item.new.literals)
    c.loop-item-test.true c.item-item.is c.in_ok-add_item.ensures ∙ c.loop-item.invariant
