use Rattle.std.proofs.Common.{◌≡◌, ◌++◌, drop, map}
use Rattle.c_meaning.specs.Code.{all_texts, texts_of}
use Rattle.c_resolver.specs.Shown.{literal_seen}
use Rattle.c_resolver.proofs.texts.add_values.Given as goal

abbrev pub invariant-loop-value : goal.invariant-loop-value
invariant-loop-value l = map literal_seen l.literals ++ all_texts texts_of
    (drop l.value-index l.values) ≡ map literal_seen l.fn.literals ++ all_texts texts_of l.values
