use Rattle.vala_lexer.proofs.SpellingLemmas.{some_spelled, only_spelled}
use Rattle.vala_lexer.proofs.laws.keywords_and_signs_are_spelled.Goals as goal

pub returns-clause-some : goal.returns-clause-some
returns-clause-some c = some_spelled

pub returns-clause-only : goal.returns-clause-only
returns-clause-only c = only_spelled
