use Rattle.std.proofs.Common.{◌∙◌, map, refl}
use Rattle.c_meaning.specs.Code.{link_texts}
use Rattle.c_resolver.specs.Shown.{literal_seen}
use Rattle.c_resolver.specs.Texts.{choice_literals, link_literals, suffix_literals}
use Rattle.c_resolver.proofs.ListLemmas.{kept_step}
use Rattle.c_resolver.proofs.value_texts.+literals.Goals as goal

pub add_suffixes-loop-suffix-preserved : goal.add_suffixes-loop-suffix-preserved
add_suffixes-loop-suffix-preserved t c = kept_step suffix_literals (λ l. link_texts (map suffix_literals l))
    (λ x l. refl) c.args.suffixes.now c.loop-suffix.suffix-index c.suffix-item.result (map literal_seen c.loop-suffix.literals)
    (map literal_seen c.add_suffix.new.literals)
    c.loop-suffix-test.true c.suffix-item.is c.in_ok-add_suffix.ensures ∙ c.loop-suffix.invariant

pub add_links-loop-link-preserved : goal.add_links-loop-link-preserved
add_links-loop-link-preserved t c = kept_step link_literals (λ l. link_texts (map link_literals l))
    (λ x l. refl) c.args.links.now c.loop-link.link-index c.link-item.result (map literal_seen c.loop-link.literals)
    (map literal_seen c.add_link.new.literals)
    c.loop-link-test.true c.link-item.is c.in_ok-add_link.ensures ∙ c.loop-link.invariant

pub add_choices-loop-choice-preserved : goal.add_choices-loop-choice-preserved
add_choices-loop-choice-preserved t c = kept_step choice_literals (λ l. link_texts (map choice_literals l))
    (λ x l. refl) c.args.choices.now c.loop-choice.choice-index c.choice-item.result (map literal_seen c.loop-choice.literals)
    (map literal_seen c.add_choice.new.literals)
    c.loop-choice-test.true c.choice-item.is c.in_ok-add_choice.ensures ∙ c.loop-choice.invariant
