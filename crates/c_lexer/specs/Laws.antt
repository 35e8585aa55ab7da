-- What the tokens of a text are: they cover it up to its end or a bad token, with white space and comments between them.
use Rattle.std.specs.Prelude.{◌≡◌, ℕ, ◌+◌, ◌<◌, ◌≤◌, Bool, true, false, ◌||◌, ◌&&◌, ◌==◌, List, [], ◌∷◌, ◌++◌, length, Option, Some, None, slice_index}
use Rattle.c_lexer.specs.declared.token.BadToken.{BadToken}
use Rattle.c_lexer.specs.declared.token.TokenKind.{TokenKind}
use Rattle.c_lexer.specs.declared.bytes.Class.TheVariants.{Number, NotLineFeed}
use Rattle.c_lexer.specs.Bytes.{is_space, begins_number, run, comment_end}
use Rattle.c_lexer.specs.Written.{IsToken}
use Rattle.c_lexer.specs.Tokens.{Lexeme, bad_token}

-- a line ends in front of bytes
abbrev pub EndsLine : List ℕ → Type 0
EndsLine [] = Unit {0}
EndsLine (b ∷ z) = b ≡ 10

-- Bytes that are white space and comments, by what stands behind them and whether a line feed is among the white space: a comment goes from
-- `//` to the end of its line, or from `/*` to the first `*/`.
pub data Blanks : Bool → List ℕ → List ℕ → Type 0 where
  none : {rest : List ℕ} → Blanks false [] rest
  space : (b : ℕ) → {breaks : Bool} {w rest : List ℕ} → is_space b ≡ true → Blanks breaks w rest → Blanks (b == 10 || breaks) (b ∷ w) rest
  line : (body : List ℕ) → {breaks : Bool} {w rest : List ℕ} → run NotLineFeed body ≡ length body → EndsLine (w ++ rest) → Blanks breaks w rest → Blanks breaks (47 ∷ 47 ∷ body ++ w) rest
  block : (body : List ℕ) → {breaks : Bool} {w rest : List ℕ} → comment_end (body ++ 42 ∷ 47 ∷ []) ≡ Some (length body) → Blanks breaks w rest → Blanks breaks (47 ∷ 42 ∷ body ++ 42 ∷ 47 ∷ w) rest

-- white space or a comment begins
abbrev pub begins_blank : List ℕ → Bool
begins_blank z = is_space (slice_index z 0) || (slice_index z 0 == 47 && (slice_index z 1 == 47 || slice_index z 1 == 42))

-- bytes that are the longest token of all that stand there, where no comment begins; a number ends where no digit, letter, `_` or `.` follows
pub record IsLongest (w rest : List ℕ) (kind : TokenKind) : Type 0 where
  pub some : 0 < length w
  pub no_blank : begins_blank (w ++ rest) ≡ false
  pub written : IsToken w kind
  pub longest : (u v : List ℕ) (other : TokenKind) → w ++ rest ≡ u ++ v → IsToken u other → length u ≤ length w
  pub ends : begins_number (w ++ rest) ≡ true → run Number rest ≡ 0

-- Bytes that begin with a bad token: a comment without an end; digits, letters, `_` and `.` together, which begin as a number and are none;
-- and bytes else with which no token begins.
pub data BeginsBadly : List ℕ → Type 0 where
  open_comment : (z : List ℕ) → comment_end z ≡ None → BeginsBadly (47 ∷ 42 ∷ z)
  no_number : (w rest : List ℕ) → begins_number (w ++ rest) ≡ true → run Number w ≡ length w → run Number rest ≡ 0 → ((kind : TokenKind) → IsToken w kind → ⊥) → BeginsBadly (w ++ rest)
  no_token : (z : List ℕ) → 0 < length z → begins_blank z ≡ false → begins_number z ≡ false → ((w rest : List ℕ) (kind : TokenKind) → z ≡ w ++ rest → IsToken w kind → ⊥) → BeginsBadly z

-- Tokens that cover bytes from a place of a text on: in order, each the longest that stands behind white space and comments, up to the end of
-- the bytes, or up to a bad token. A token begins a line where it is the first of the text, or where a line feed stands in the white space in
-- front of it.
pub data Covers : ℕ → List ℕ → List Lexeme → Option BadToken → Type 0 where
  last : {at : ℕ} {breaks : Bool} → (w : List ℕ) → Blanks breaks w [] → Covers at w [] None
  stopped : {at : ℕ} {breaks : Bool} → (w z : List ℕ) → Blanks breaks w z → BeginsBadly z → Covers at (w ++ z) [] (Some (bad_token (at + length w)))
  next : {at : ℕ} {breaks : Bool} → (w rest : List ℕ) (t : Lexeme) → {ts : List Lexeme} {o : Option BadToken} → Blanks breaks w (t.text ++ rest) → IsLongest t.text rest t.kind
      → t.start ≡ at + length w → t.end ≡ t.start + length t.text → t.begins_line ≡ (at == 0 || breaks) → Covers t.end rest ts o → Covers at (w ++ t.text ++ rest) (t ∷ ts) o
