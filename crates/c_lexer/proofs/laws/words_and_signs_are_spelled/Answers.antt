use Rattle.c_lexer.proofs.SpellingLemmas.{some_spelled, only_spelled, some_unused, only_unused}
use Rattle.c_lexer.proofs.laws.words_and_signs_are_spelled.Goals as goal

pub returns : goal.returns
returns c = record { some = some_spelled; only = only_spelled; unused = some_unused; only_unused = only_unused }
