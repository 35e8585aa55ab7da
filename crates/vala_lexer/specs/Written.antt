-- How the tokens of each class are written, and what the literals denote.
use Rattle.std.specs.Prelude.{◌≡◌, ℕ, ◌+◌, ◌<◌, ◌≤◌, true, false, List, [], ◌∷◌, ◌++◌, length, Some, Ok, slice_index}
use Rattle.vala_lexer.specs.declared.bytes.Class.TheVariants.{Word, Digit, HexDigit}
use Rattle.vala_lexer.specs.declared.bytes.Ending.TheVariants.{Quotes}
use Rattle.vala_lexer.specs.declared.token.IntegerType.{IntegerType}
use Rattle.vala_lexer.specs.declared.token.TokenKind.{TokenKind}
use Rattle.vala_lexer.specs.declared.token.TokenKind.TheVariants as k
use Rattle.vala_lexer.specs.Bytes.{is_letter, run, place_of, value}
use Rattle.vala_lexer.specs.Words.{word_kind, is_identifier}
use Rattle.vala_lexer.specs.Signs.{sign_of_one, sign_of_two, sign_of_three}
use Rattle.vala_lexer.specs.Numbers.{suffix_of, suffix_len, integer_type}
use Rattle.vala_lexer.specs.Texts.{inside, sound_bytes, sound_escapes, character_inside}

-- a letter or `_`, and then letters, digits and `_`
pub record IsWord (w : List ℕ) : Type 0 where
  pub some : 0 < length w
  pub letter : is_letter (slice_index w 0) ≡ true
  pub all : run Word w ≡ length w

-- decimal digits; the first is no zero, or it is alone
pub record IsDecimal (d : List ℕ) : Type 0 where
  pub some : 0 < length d
  pub all : run Digit d ≡ length d
  pub no_leading_zero : slice_index d 0 ≡ 48 → length d ≡ 1

pub record IsHexadecimal (d : List ℕ) : Type 0 where
  pub some : 0 < length d
  pub all : run HexDigit d ≡ length d

-- all of the bytes are a suffix of a number, or there are none
abbrev pub IsSuffix : List ℕ → Type 0
IsSuffix s = suffix_len (suffix_of s) ≡ length s

-- The tokens, by how they are written: a word, which is a keyword or an identifier; `@` and a keyword; a number, whose value is what its digits
-- say and whose type has that value; a text with escapes on one line; a text without escapes; a character; and a sign of one, two or three
-- bytes.
pub data IsToken : List ℕ → TokenKind → Type 0 where
  word : (w : List ℕ) → IsWord w → length w ≤ 200 → IsToken w (word_kind w)
  marked : (w : List ℕ) → IsWord w → is_identifier (word_kind w) ≡ false → IsToken (64 ∷ w) k.Identifier
  decimal : (d s : List ℕ) (t : IntegerType) → IsDecimal d → IsSuffix s → integer_type (suffix_of s) (value 10 d) ≡ Some t → IsToken (d ++ s) (k.Integer (value 10 d) t)
  hexadecimal : (d s : List ℕ) (t : IntegerType) → IsHexadecimal d → IsSuffix s → integer_type (suffix_of s) (value 16 d) ≡ Some t → IsToken (48 ∷ 120 ∷ d ++ s) (k.Integer (value 16 d) t)
  text : (b : List ℕ) → inside 34 (b ++ 34 ∷ []) ≡ Some (length b) → sound_bytes b ≡ length b → sound_escapes b ≡ length b → IsToken (34 ∷ b ++ 34 ∷ []) k.Text
  verbatim : (b : List ℕ) → place_of Quotes (b ++ 34 ∷ 34 ∷ 34 ∷ []) ≡ Some (length b) → sound_bytes b ≡ length b → IsToken (34 ∷ 34 ∷ 34 ∷ b ++ 34 ∷ 34 ∷ 34 ∷ []) k.Text
  character : (b : List ℕ) (code : ℕ) → inside 39 (b ++ 39 ∷ []) ≡ Some (length b) → character_inside b ≡ Ok (record { kind = k.Character code; len = length b + 2 }) → IsToken (39 ∷ b ++ 39 ∷ []) (k.Character code)
  one : (b : ℕ) (kind : TokenKind) → sign_of_one b ≡ Some kind → IsToken (b ∷ []) kind
  two : (b c : ℕ) (kind : TokenKind) → sign_of_two b c ≡ Some kind → IsToken (b ∷ c ∷ []) kind
  three : (b c d : ℕ) (kind : TokenKind) → sign_of_three b c d ≡ Some kind → IsToken (b ∷ c ∷ d ∷ []) kind
