use Rattle.std.proofs.Common.{◌≡◌, ◌++◌, drop, map}
use Rattle.c_meaning.specs.Code.{link_texts}
use Rattle.c_resolver.specs.Shown.{literal_seen}
use Rattle.c_resolver.specs.Texts.{choice_literals, link_literals, suffix_literals}
use Rattle.c_resolver.proofs.value_texts.+literals.Given as goal

abbrev pub invariant-add_suffixes-loop-suffix : goal.invariant-add_suffixes-loop-suffix
invariant-add_suffixes-loop-suffix l = map literal_seen l.literals ++ link_texts
    (map suffix_literals (drop l.suffix-index l.suffixes)) ≡ map literal_seen l.fn.literals ++ link_texts (map suffix_literals l.suffixes)

abbrev pub invariant-add_links-loop-link : goal.invariant-add_links-loop-link
invariant-add_links-loop-link l = map literal_seen l.literals ++ link_texts
    (map link_literals (drop l.link-index l.links)) ≡ map literal_seen l.fn.literals ++ link_texts (map link_literals l.links)

abbrev pub invariant-add_choices-loop-choice : goal.invariant-add_choices-loop-choice
invariant-add_choices-loop-choice l = map literal_seen l.literals ++ link_texts
    (map choice_literals (drop l.choice-index l.choices)) ≡ map literal_seen l.fn.literals ++ link_texts (map choice_literals l.choices)
