-- The reader of each part.
use Rattle.std.specs.Prelude.{◌≡◌, ℕ, List, None}
use Rattle.vala_lexer.specs.Tokens.{Lexeme}
use Rattle.predictive_grammar.specs.Follows.{Word, raw, Reads}
use Rattle.predictive_grammar.specs.Steps.{Parser}
use Rattle.predictive_grammar.specs.Reading.{reader}
use Rattle.predictive_grammar.specs.Exact.{Answers}
use Rattle.vala_grammar.specs.Label.{Label}
use Rattle.vala_grammar.specs.Answer.{limits}
use Rattle.vala_grammar.specs.Parts.{Part}
use Rattle.vala_grammar.specs.Read.{vala_reader}
use Rattle.vala_file_grammar.specs.Parts.{FilePart, Code, file_tree_of}
use Rattle.vala_file_grammar.specs.Embed.{F}
use Rattle.vala_file_grammar.specs.Grammar.{forms}
use Rattle.vala_file_grammar.specs.Tables.{tables}

-- what the tokens from here on say of a part
abbrev pub file_reader : (p : FilePart) → ℕ → Parser Label Lexeme (file_tree_of p)
file_reader = reader F forms tables.top tables.rank limits

-- The reader of each part answers what the grammar says: the tree as far as a text goes, or the first fault.
abbrev pub ReadsExactly : Type 0
ReadsExactly = (p : FilePart) (level : ℕ) (input : List Lexeme) → Answers F forms p level limits input (file_reader p level input)

-- Texts of a part with the same tokens have the same tree.
abbrev pub HasOneTree : Type 0
HasOneTree = (p : FilePart) (level : ℕ) (u v : Word F) (a b : file_tree_of p) → raw u ≡ raw v → Reads F forms None p level u a → Reads F forms None p level v b → a ≡ b

-- Of a part of the grammar of expressions, types and statements, the reader is that grammar's.
abbrev pub ReadsCode : Type 0
ReadsCode = (p : Part) (level : ℕ) (input : List Lexeme) → file_reader (Code p) level input ≡ vala_reader p level input
