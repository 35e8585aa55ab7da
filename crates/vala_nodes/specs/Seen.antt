-- Tokens without where their text lies in memory.
use Rattle.std.specs.Prelude.{Option, Some, None}
use Rattle.vala_lexer.specs.Tokens.{Lexeme}
use Rattle.vala_lexer.specs.declared.token.Token.{Token}

-- a token without where its text lies in memory
abbrev pub seen : Token → Lexeme
seen t = record { kind = t.kind; text = t.text.now; span = t.span }

abbrev pub seen_option : Option Token → Option Lexeme
seen_option None = None
seen_option (Some t) = Some (seen t)
