-- The tokens of a text, and the place where they stop.
use Rattle.std.specs.Prelude.{◌≡◌, ℕ, ◌+◌, Bool, ◌||◌, ◌==◌, nat_le, if◌then◌else◌, List, [], ◌∷◌, length, take, drop, Option, Some, None, Result, Ok, Err}
use Rattle.c_lexer.specs.declared.token.TokenKind.{TokenKind}
use Rattle.c_lexer.specs.declared.token.Token.{Token}
use Rattle.c_lexer.specs.declared.token.BadToken.{BadToken}
use Rattle.c_lexer.specs.declared.pieces.Found.{Found}
use Rattle.c_lexer.specs.declared.pieces.Gap.{Gap}
use Rattle.c_lexer.specs.declared.cursor.Lexer.{Lexer}
use Rattle.c_lexer.specs.Blanks.{blanks}
use Rattle.c_lexer.specs.Cut.{cut}

-- a token: its class, the bytes that it is written by, where they stand, and whether no other token stands before it on its line
pub record Lexeme : Type 0 where
  pub kind : TokenKind
  pub text : List ℕ
  pub start : ℕ
  pub end : ℕ
  pub begins_line : Bool

-- what is left of a text: its bytes, and the place up to which its tokens were taken
pub record Left : Type 0 where
  pub bytes : List ℕ
  pub at : ℕ

abbrev pub left : Lexer → Left
left l = record { bytes = l.bytes.now; at = l.at }

abbrev pub all_of : List ℕ → Left
all_of bytes = record { bytes = bytes; at = 0 }

-- an answer: the next token, None at the end, or the place of a bad token
abbrev pub Answer : Type 0
Answer = Result (Option Lexeme) BadToken

-- an answer of the program, its texts without where they lie in memory
abbrev pub shown : Result (Option Token) BadToken → Answer
shown (Ok None) = Ok None
shown (Ok (Some t)) = Ok (Some (record { kind = t.kind; text = t.text.now; start = t.start; end = t.end; begins_line = t.begins_line }))
shown (Err b) = Err b

abbrev pub bad_token : ℕ → BadToken
bad_token p = record { at = p }

-- a token that is found at a place
abbrev pub lexeme : List ℕ → ℕ → Bool → Found → Lexeme
lexeme bytes p first t = record { kind = t.kind; text = take t.len (drop p bytes); start = p; end = p + t.len; begins_line = first }

-- the answer at a place, by what is found there
abbrev pub found_at : List ℕ → ℕ → Bool → Option Found → Answer
found_at bytes p first None = Err (bad_token p)
found_at bytes p first (Some t) = Ok (Some (lexeme bytes p first t))

-- a token begins a line where it is the first of all, or where a line feed stands in the white space in front of it
abbrev pub begins_line : ℕ → Gap → Bool
begins_line at g = at == 0 || g.breaks_line

-- the answer at a place where neither white space nor a comment begins: None at the end
abbrev pub token_at : List ℕ → ℕ → Bool → Answer
token_at bytes p first = if nat_le (length bytes) p then Ok None else found_at bytes p first (cut (drop p bytes))

abbrev pub next_behind : Left → Result Gap ℕ → Answer
next_behind l (Err n) = Err (bad_token (l.at + n))
next_behind l (Ok g) = token_at l.bytes (l.at + g.len) (begins_line l.at g)

-- the next token behind white space and comments, None at the end, or the place of a bad token
unfoldable pub next_of : Left → Answer
next_of l = next_behind l (blanks (drop l.at l.bytes))

-- what is left behind an answer: a token is taken, and else nothing
abbrev pub behind : Left → Answer → Left
behind l (Ok (Some t)) = record { bytes = l.bytes; at = t.end }
behind l a = l

abbrev pub behind_next : Left → Left
behind_next l = behind l (next_of l)

-- the tokens that are left, and the bad token where they stop, if there is one
pub data Tokens : Left → List Lexeme → Option BadToken → Type 0 where
  end : (l : Left) → next_of l ≡ Ok None → Tokens l [] None
  broken : (l : Left) (b : BadToken) → next_of l ≡ Err b → Tokens l [] (Some b)
  token : (l : Left) (t : Lexeme) → {ts : List Lexeme} {o : Option BadToken} → next_of l ≡ Ok (Some t) → Tokens (behind l (Ok (Some t))) ts o → Tokens l (t ∷ ts) o
