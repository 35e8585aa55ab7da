-- The tokens of the grammar behind a place of a text.
use Rattle.std.specs.Prelude.{ℕ, List, Option}
use Rattle.c_lexer.specs.declared.token.BadToken.{BadToken}
use Rattle.c_lexer.specs.declared.token.Token.{Token as LexerToken}
use Rattle.c_lexer.specs.Tokens.{Lexeme, left}
use Rattle.c_tree.specs.Words as words
use Rattle.c_tree.specs.Words.{Word, words_behind}
use Rattle.c_cursor.specs.declared.front.Before.{Before}
use Rattle.c_cursor.specs.declared.front.Before.TheVariants as before
use Rattle.c_cursor.specs.declared.front.Front.{Front}
use Rattle.c_cursor.specs.Rest.{tokens_of, bad_of}

-- a token of the lexer without where its text lies in memory
abbrev pub lexeme : LexerToken → Lexeme
lexeme t = record { kind = t.kind; text = t.text.now; start = t.start; end = t.end; begins_line = t.begins_line }

-- what stands in front of a token
abbrev pub behind_of : Before → words.Behind
behind_of before.Other = words.Other
behind_of before.Hash = words.Hash
behind_of before.IncludeWord = words.IncludeWord

-- the tokens behind a place
abbrev pub words_of : Front → Word
words_of f = words_behind (behind_of f.before) (tokens_of (left f.lexer))

-- the bad token where they stop, if there is one
abbrev pub stop_of : Front → Option BadToken
stop_of f = bad_of (left f.lexer)

-- the whole text
abbrev pub text_of : Front → List ℕ
text_of f = f.lexer.bytes.now
