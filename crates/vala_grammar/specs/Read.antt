-- The reader of each part.
use Rattle.std.specs.Prelude.{◌≡◌, ℕ, List, None}
use Rattle.vala_lexer.specs.Tokens.{Lexeme}
use Rattle.predictive_grammar.specs.Follows.{Word, raw, Reads}
use Rattle.predictive_grammar.specs.Steps.{Parser}
use Rattle.predictive_grammar.specs.Reading.{reader}
use Rattle.predictive_grammar.specs.Exact.{Answers}
use Rattle.vala_grammar.specs.Parts.{Part, tree_of}
use Rattle.vala_grammar.specs.Label.{Label}
use Rattle.vala_grammar.specs.Grammar.{G, forms}
use Rattle.vala_grammar.specs.Tables.{tables}
use Rattle.vala_grammar.specs.Answer.{limits}

-- what the tokens from here on say of a part
abbrev pub vala_reader : (p : Part) → ℕ → Parser Label Lexeme (tree_of p)
vala_reader = reader G forms tables.top tables.rank limits

-- The reader of each part answers what the grammar says: the tree as far as a text goes, or the first fault.
abbrev pub ReadsExactly : Type 0
ReadsExactly = (p : Part) (level : ℕ) (input : List Lexeme) → Answers G forms p level limits input (vala_reader p level input)

-- Texts of a part with the same tokens have the same tree.
abbrev pub HasOneTree : Type 0
HasOneTree = (p : Part) (level : ℕ) (u v : Word G) (a b : tree_of p) → raw u ≡ raw v → Reads G forms None p level u a → Reads G forms None p level v b → a ≡ b
