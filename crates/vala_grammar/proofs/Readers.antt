-- The readers answer exactly, a text has one tree, and a reader is the walk of its form.
use Rattle.std.proofs.Common.{◌≡◌, ℕ, List}
use Rattle.predictive_grammar.specs.Reading.{walk}
use Rattle.predictive_grammar.proofs.Main as main
use Rattle.predictive_grammar.proofs.Law as law
use Rattle.vala_lexer.specs.Tokens.{Lexeme}
use Rattle.vala_grammar.specs.Parts.{Part}
use Rattle.vala_grammar.specs.Grammar.{G, forms}
use Rattle.vala_grammar.specs.Tables.{tables}
use Rattle.vala_grammar.specs.Answer.{limits}
use Rattle.vala_grammar.specs.Read.{vala_reader, ReadsExactly, HasOneTree}
use Rattle.vala_grammar.proofs.Predictive.{predictive}

pub reads_exactly : ReadsExactly
reads_exactly p level input = main.answers G forms tables predictive p level limits input

pub has_one_tree : HasOneTree
has_one_tree p level u v a b e x y = main.one_tree G forms tables predictive p level u v a b e x y

-- a reader takes its form from left to right, by the readers of the parts in it
pub reader_unfolds : (p : Part) (level : ℕ) (input : List Lexeme) → vala_reader p level input ≡ walk G vala_reader limits p (forms p) level input
reader_unfolds p level input = law.reader_law G forms tables predictive limits p level input
