use Rattle.std.proofs.Common.{refl}
use Rattle.symbols.proofs.laws.words_are_split.Goals as goal

pub returns-clause-small_and_capital : goal.returns-clause-small_and_capital
returns-clause-small_and_capital c = refl

pub returns-clause-capitals_and_word : goal.returns-clause-capitals_and_word
returns-clause-capitals_and_word c = refl

pub returns-clause-one_capital : goal.returns-clause-one_capital
returns-clause-one_capital c = refl

pub returns-clause-digit : goal.returns-clause-digit
returns-clause-digit c = refl

pub returns-clause-capitals : goal.returns-clause-capitals
returns-clause-capitals c = refl

pub returns-clause-keyword : goal.returns-clause-keyword
returns-clause-keyword c = refl

pub returns-clause-function : goal.returns-clause-function
returns-clause-function c = refl

pub returns-clause-free : goal.returns-clause-free
returns-clause-free c = refl
