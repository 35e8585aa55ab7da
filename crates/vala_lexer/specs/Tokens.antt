-- The tokens of a file, and the rule that is broken where they stop.
use Rattle.std.specs.Prelude.{◌≡◌, ℕ, ◌+◌, nat_le, if◌then◌else◌, List, [], ◌∷◌, length, take, drop, Option, Some, None, Result, Ok, Err}
use Rattle.vg_base.specs.declared.event.Span.{Span}
use Rattle.static_rules.specs.declared.rules.Refusal.{Refusal}
use Rattle.vala_lexer.specs.declared.token.TokenKind.{TokenKind}
use Rattle.vala_lexer.specs.declared.token.Token.{Token}
use Rattle.vala_lexer.specs.declared.pieces.Found.{Found}
use Rattle.vala_lexer.specs.declared.pieces.Fault.{Fault}
use Rattle.vala_lexer.specs.declared.cursor.Lexer.{Lexer}
use Rattle.vala_lexer.specs.Blanks.{blanks}
use Rattle.vala_lexer.specs.Cut.{cut}

-- a token: its class, the bytes that it is written by, and where they stand
pub record Lexeme : Type 0 where
  pub kind : TokenKind
  pub text : List ℕ
  pub span : Span

-- what is left of a file: its bytes, its number, and the place up to which its tokens were taken
pub record Left : Type 0 where
  pub bytes : List ℕ
  pub file : ℕ
  pub at : ℕ

abbrev pub left : Lexer → Left
left l = record { bytes = l.bytes.now; file = l.file; at = l.at }

abbrev pub all_of : List ℕ → ℕ → Left
all_of bytes file = record { bytes = bytes; file = file; at = 0 }

-- an answer
abbrev pub Answer : Type 0
Answer = Result (Option Lexeme) Refusal

-- an answer of the program, its texts without where they lie in memory
abbrev pub shown : Result (Option Token) Refusal → Answer
shown (Ok None) = Ok None
shown (Ok (Some t)) = Ok (Some (record { kind = t.kind; text = t.text.now; span = t.span }))
shown (Err r) = Err r

abbrev pub span : ℕ → ℕ → ℕ → Span
span file start len = record { file = file; start = start; end = start + len }

abbrev pub refusal : ℕ → ℕ → Fault → Refusal
refusal file at f = record { rule = f.rule; phase = 1; span = span file (at + f.start) f.len }

-- the answer at a place, by what is found there
abbrev pub found_at : Left → ℕ → Result Found Fault → Answer
found_at l p (Err f) = Err (refusal l.file p f)
found_at l p (Ok t) = Ok (Some (record { kind = t.kind; text = take t.len (drop p l.bytes); span = span l.file p t.len }))

-- the answer at a place where neither white space nor a comment begins: None at the end
abbrev pub token_at : Left → ℕ → Answer
token_at l p = if nat_le (length l.bytes) p then Ok None else found_at l p (cut (take p l.bytes) (drop p l.bytes))

abbrev pub next_behind : Left → Result ℕ Fault → Answer
next_behind l (Err f) = Err (refusal l.file l.at f)
next_behind l (Ok n) = token_at l (l.at + n)

-- the next token behind white space and comments, None at the end, or the rule that is broken there
unfoldable pub next_of : Left → Answer
next_of l = next_behind l (blanks (drop l.at l.bytes))

-- what is left behind an answer: a token is taken, and else nothing
abbrev pub behind : Left → Answer → Left
behind l (Ok (Some t)) = record { bytes = l.bytes; file = l.file; at = t.span.end }
behind l a = l

abbrev pub behind_next : Left → Left
behind_next l = behind l (next_of l)

-- the tokens that are left, and the rule that is broken where they stop, if one is
pub data Tokens : Left → List Lexeme → Option Refusal → Type 0 where
  end : (l : Left) → next_of l ≡ Ok None → Tokens l [] None
  broken : (l : Left) (r : Refusal) → next_of l ≡ Err r → Tokens l [] (Some r)
  token : (l : Left) (t : Lexeme) → {ts : List Lexeme} {o : Option Refusal} → next_of l ≡ Ok (Some t) → Tokens (behind l (Ok (Some t))) ts o → Tokens l (t ∷ ts) o
