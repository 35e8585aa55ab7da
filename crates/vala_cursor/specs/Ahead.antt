-- What a reader has in front of it.
use Rattle.std.specs.Prelude.{ℕ, List, Option}
use Rattle.predictive_grammar.specs.Forms.{Form}
use Rattle.predictive_grammar.specs.Reading.{walk}
use Rattle.predictive_grammar.specs.Steps.{Parser}
use Rattle.static_rules.specs.declared.rules.Refusal.{Refusal}
use Rattle.vala_lexer.specs.Tokens.{Lexeme, left}
use Rattle.vala_grammar.specs.Parts.{Part, tree_of}
use Rattle.vala_grammar.specs.Label.{Label}
use Rattle.vala_grammar.specs.Grammar.{G}
use Rattle.vala_grammar.specs.Answer.{limits}
use Rattle.vala_cursor.specs.declared.cursor.Cursor.{Cursor}
use Rattle.vala_cursor.specs.Rest.{tokens_of, stop_of}
use Rattle.vala_grammar.specs.Read.{vala_reader}

-- the tokens that are left
abbrev pub rest : Cursor → List Lexeme
rest c = tokens_of (left c.front)

-- the rule that is broken behind them, if one is
abbrev pub stop : Cursor → Option Refusal
stop c = stop_of (left c.front)

-- the rest of a part by its form
abbrev pub reads : {r : Part} → Form G r → ℕ → Parser Label Lexeme (tree_of r)
reads {r} form l = walk G vala_reader limits r form l
