-- The tokens that are left of a text, and the bad token where they stop.
use Rattle.std.specs.Prelude.{ℕ, zero, suc, List, [], ◌∷◌, length, Option, Some, None, Ok, Err}
use Rattle.c_lexer.specs.declared.token.BadToken.{BadToken}
use Rattle.c_lexer.specs.Tokens.{Left, Lexeme, Answer, next_of, behind}

abbrev pub tokens_by : (Left → List Lexeme) → Left → Answer → List Lexeme
tokens_by more l (Ok (Some t)) = t ∷ more (behind l (Ok (Some t)))
tokens_by more l _ = []

-- the first tokens, so many at most
unfoldable pub tokens_upto : ℕ → Left → List Lexeme
tokens_upto zero l = []
tokens_upto (suc n) l = tokens_by (tokens_upto n) l (next_of l)

-- all tokens: no more than there are bytes
unfoldable pub tokens_of : Left → List Lexeme
tokens_of l = tokens_upto (suc (length l.bytes)) l

abbrev pub bad_by : (Left → Option BadToken) → Left → Answer → Option BadToken
bad_by more l (Ok (Some t)) = more (behind l (Ok (Some t)))
bad_by more l (Ok None) = None
bad_by more l (Err b) = Some b

unfoldable pub bad_upto : ℕ → Left → Option BadToken
bad_upto zero l = None
bad_upto (suc n) l = bad_by (bad_upto n) l (next_of l)

-- the bad token behind them, if there is one
unfoldable pub bad_of : Left → Option BadToken
bad_of l = bad_upto (suc (length l.bytes)) l
