-- What the tokens of a text are: ranges that cover it, with white space and comments between them.
use Rattle.std.specs.Prelude.{◌≡◌, ℕ, ◌+◌, ◌<◌, ◌≤◌, List, [], ◌∷◌, ◌++◌, length, Option, Some, None, IsTrue}
use Rattle.static_rules.specs.declared.rules.Refusal.{Refusal}
use Rattle.vala_lexer.specs.declared.bytes.Class.TheVariants.{NotZero, NotLineFeed}
use Rattle.vala_lexer.specs.declared.bytes.Ending.TheVariants.{Comment}
use Rattle.vala_lexer.specs.Bytes.{is_space, run, place_of}
use Rattle.vala_lexer.specs.Tokens.{Lexeme, span}

-- a line ends in front of bytes
abbrev pub EndsLine : List ℕ → Type 0
EndsLine [] = Unit {0}
EndsLine (b ∷ z) = b ≡ 10

-- no byte is zero
abbrev pub NoZero : List ℕ → Type 0
NoZero w = run NotZero w ≡ length w

-- bytes that are white space and comments, by what stands behind them: a comment from `//` to the end of its line, and one from `/*` to the
-- first `*/`
pub data Blanks : List ℕ → List ℕ → Type 0 where
  none : {rest : List ℕ} → Blanks [] rest
  space : (b : ℕ) → {w rest : List ℕ} → IsTrue (is_space b) → Blanks w rest → Blanks (b ∷ w) rest
  line : (body : List ℕ) → {w rest : List ℕ} → run NotLineFeed body ≡ length body → NoZero body → EndsLine (w ++ rest) → Blanks w rest → Blanks (47 ∷ 47 ∷ body ++ w) rest
  block : (body : List ℕ) → {w rest : List ℕ} → place_of Comment (body ++ 42 ∷ 47 ∷ []) ≡ Some (length body) → NoZero body → Blanks w rest → Blanks (47 ∷ 42 ∷ body ++ 42 ∷ 47 ∷ w) rest

-- Tokens that cover bytes from a place of a file on: in order, each behind white space and comments, up to the end of the bytes, or up to a
-- broken rule that stands behind the last token.
pub data Covers : ℕ → ℕ → List ℕ → List Lexeme → Option Refusal → Type 0 where
  last : {file at : ℕ} → (w : List ℕ) → Blanks w [] → Covers file at w [] None
  stopped : {file at : ℕ} → (z : List ℕ) (r : Refusal) → r.span.file ≡ file → at ≤ r.span.start → r.span.start < r.span.end → r.span.end ≤ at + length z → Covers file at z [] (Some r)
  next : {file at : ℕ} → (w rest : List ℕ) (t : Lexeme) → {ts : List Lexeme} {o : Option Refusal} → Blanks w (t.text ++ rest) → 0 < length t.text → t.span ≡ span file (at + length w) (length t.text)
      → Covers file (at + length w + length t.text) rest ts o → Covers file at (w ++ t.text ++ rest) (t ∷ ts) o
