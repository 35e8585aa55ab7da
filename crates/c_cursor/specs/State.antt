-- Where the reader is.
use Rattle.std.specs.Prelude.{ℕ, Bool, false, [], ◌∷◌, length, Option, Some, None}
use Rattle.c_lexer.specs.declared.token.BadToken.{BadToken}
use Rattle.c_tree.specs.Words as words
use Rattle.c_tree.specs.Words.{Word}
use Rattle.c_grammar.specs.Sorts.{Kind, kind}
use Rattle.c_nodes.specs.declared.token.Token.{Token}
use Rattle.c_nodes.specs.Seen.{seen}
use Rattle.c_cursor.specs.declared.cursor.Cursor.{Cursor}
use Rattle.c_cursor.specs.Ahead.{with_ahead, bad_ahead}
use Rattle.c_cursor.specs.Fronts.{words_of, stop_of, text_of}

-- the tokens that are left of a text
abbrev pub rest : Cursor → Word
rest c = with_ahead c.ahead (words_of c.front)

-- the bad token where they stop, if there is one
abbrev pub bad : Cursor → Option BadToken
bad c = bad_ahead c.ahead (stop_of c.front)

-- where the text ends
abbrev pub text_end : Cursor → ℕ
text_end c = length (text_of c.front)

-- the next token
abbrev pub first : Word → Option words.Token
first [] = None
first (t ∷ w) = Some t

-- whether there is a next token, of such a kind
abbrev pub is_first_in : (Kind → Bool) → Word → Bool
is_first_in f [] = false
is_first_in f (t ∷ w) = f (kind t)

-- a token that may be missing, as the grammar has it
abbrev pub seen_option : Option Token → Option words.Token
seen_option None = None
seen_option (Some t) = Some (seen t)
