-- How the tokens of each class are written, and what the literals denote.
use Rattle.std.specs.Prelude.{◌≡◌, ◌≢◌, ℕ, ◌<◌, true, List, [], ◌∷◌, ◌++◌, length, Some, slice_index}
use Rattle.c_lexer.specs.declared.bytes.Class.TheVariants.{Word, Digit, HexDigit}
use Rattle.c_lexer.specs.declared.numbers.Suffix.{Suffix}
use Rattle.c_lexer.specs.declared.token.NumberType.{NumberType}
use Rattle.c_lexer.specs.declared.token.Sign.{Sign}
use Rattle.c_lexer.specs.declared.token.TokenKind.{TokenKind}
use Rattle.c_lexer.specs.declared.token.TokenKind.TheVariants as k
use Rattle.c_lexer.specs.Bytes.{is_letter, is_octal_digit, run, value}
use Rattle.c_lexer.specs.Words.{word_kind}
use Rattle.c_lexer.specs.Signs.{sign_of_one, sign_of_two, sign_of_three}
use Rattle.c_lexer.specs.Numbers.{suffix_bytes, number_type}
use Rattle.c_lexer.specs.Texts.{simple_escape, octal_value}

-- a letter or `_`, and then letters, digits and `_`
pub record IsWord (w : List ℕ) : Type 0 where
  pub some : 0 < length w
  pub letter : is_letter (slice_index w 0) ≡ true
  pub all : run Word w ≡ length w

-- decimal digits; the first is no zero, or it is alone
pub record IsDecimal (d : List ℕ) : Type 0 where
  pub some : 0 < length d
  pub all : run Digit d ≡ length d
  pub no_leading_zero : slice_index d 0 ≡ 48 → length d ≡ 1

pub record IsHexadecimal (d : List ℕ) : Type 0 where
  pub some : 0 < length d
  pub all : run HexDigit d ≡ length d

-- What stands between quotes, and the bytes that it denotes: a byte itself, but for the quote, the backslash and a line feed; a backslash
-- and a byte of the table; and a backslash and three octal digits that say a byte.
pub data Denotes (q : ℕ) : List ℕ → List ℕ → Type 0 where
  nothing : Denotes q [] []
  byte : (b : ℕ) → {body bytes : List ℕ} → b ≢ q → b ≢ 10 → b ≢ 92 → Denotes q body bytes → Denotes q (b ∷ body) (b ∷ bytes)
  simple : (c b : ℕ) → {body bytes : List ℕ} → simple_escape c ≡ Some b → Denotes q body bytes → Denotes q (92 ∷ c ∷ body) (b ∷ bytes)
  octal : (x y z : ℕ) → {body bytes : List ℕ} → is_octal_digit x ≡ true → is_octal_digit y ≡ true → is_octal_digit z ≡ true → octal_value x y z < 256 → Denotes q body bytes → Denotes q (92 ∷ x ∷ y ∷ z ∷ body) (octal_value x y z ∷ bytes)

-- The tokens, by how they are written: a word, which is a keyword, a literal or an identifier; a number with its suffix, whose value is what
-- its digits say and whose type has that value; a text on one line; a character, which denotes one byte and is not a zero byte; and a sign of
-- one, two or three bytes.
pub data IsToken : List ℕ → TokenKind → Type 0 where
  word : (w : List ℕ) → IsWord w → IsToken w (word_kind w)
  decimal : (d : List ℕ) (s : Suffix) (t : NumberType) → IsDecimal d → number_type s (value 10 d) ≡ Some t → IsToken (d ++ suffix_bytes s) (k.Number (value 10 d) t)
  hexadecimal : (d : List ℕ) (s : Suffix) (t : NumberType) → IsHexadecimal d → number_type s (value 16 d) ≡ Some t → IsToken (48 ∷ 120 ∷ d ++ suffix_bytes s) (k.Number (value 16 d) t)
  text : (body bytes : List ℕ) → Denotes 34 body bytes → IsToken (34 ∷ body ++ 34 ∷ []) k.Text
  character : (body : List ℕ) (b : ℕ) → Denotes 39 body (b ∷ []) → body ≢ 0 ∷ [] → IsToken (39 ∷ body ++ 39 ∷ []) (k.Character b)
  one : (b : ℕ) (sign : Sign) → sign_of_one b ≡ Some sign → IsToken (b ∷ []) (k.Sign sign)
  two : (b c : ℕ) (sign : Sign) → sign_of_two b c ≡ Some sign → IsToken (b ∷ c ∷ []) (k.Sign sign)
  three : (b c d : ℕ) (sign : Sign) → sign_of_three b c d ≡ Some sign → IsToken (b ∷ c ∷ d ∷ []) (k.Sign sign)
