-- The tokens that are left of a file, and the rule that is broken where they stop.
use Rattle.std.specs.Prelude.{ℕ, zero, suc, List, [], ◌∷◌, length, Option, Some, None, Ok, Err}
use Rattle.static_rules.specs.declared.rules.Refusal.{Refusal}
use Rattle.vala_lexer.specs.Tokens.{Left, Lexeme, Answer, next_of, behind}

abbrev pub tokens_by : (Left → List Lexeme) → Left → Answer → List Lexeme
tokens_by more l (Ok (Some t)) = t ∷ more (behind l (Ok (Some t)))
tokens_by more l _ = []

-- the first tokens, so many at most
unfoldable pub tokens_upto : ℕ → Left → List Lexeme
tokens_upto zero l = []
tokens_upto (suc n) l = tokens_by (tokens_upto n) l (next_of l)

-- all tokens: no more than there are bytes
unfoldable pub tokens_of : Left → List Lexeme
tokens_of l = tokens_upto (suc (length l.bytes)) l

abbrev pub stop_by : (Left → Option Refusal) → Left → Answer → Option Refusal
stop_by more l (Ok (Some t)) = more (behind l (Ok (Some t)))
stop_by more l (Ok None) = None
stop_by more l (Err r) = Some r

unfoldable pub stop_upto : ℕ → Left → Option Refusal
stop_upto zero l = None
stop_upto (suc n) l = stop_by (stop_upto n) l (next_of l)

-- the rule that is broken behind the last token, if one is
unfoldable pub stop_of : Left → Option Refusal
stop_of l = stop_upto (suc (length l.bytes)) l
