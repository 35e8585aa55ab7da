use Rattle.std.proofs.Common.{◌∙◌, map, refl}
use Rattle.c_meaning.specs.Code.{all_texts, texts_of}
use Rattle.c_resolver.specs.Shown.{literal_seen}
use Rattle.c_resolver.proofs.ListLemmas.{kept_step}
use Rattle.c_resolver.proofs.texts.add_values.Goals as goal

pub loop-value-preserved : goal.loop-value-preserved
loop-value-preserved c = kept_step texts_of (all_texts texts_of) (λ x l. refl) c.args.values.now c.loop-value.value-index c.value-item.result
    (map literal_seen c.loop-value.literals) (map literal_seen c.add_value.new.literals)
    c.loop-value-test.true c.value-item.is c.in_ok-add_value.ensures ∙ c.loop-value.invariant
