-- Tokens that are put one after another: where white space is needed between two of them.
use Rattle.std.specs.Prelude.{◌≡◌, ℕ, Bool, false, ◌&&◌, ◌||◌, ◌==◌, nat_lt, if◌then◌else◌, List, [], ◌∷◌, ◌++◌, length, is_some, slice_index}
use Rattle.c_lexer.specs.declared.bytes.Class.TheVariants.{Space, Word, Number, NotLineFeed}
use Rattle.c_lexer.specs.declared.token.TokenKind.{TokenKind}
use Rattle.c_lexer.specs.Bytes.{is_digit, is_letter, begins_number, is_in, run}
use Rattle.c_lexer.specs.Signs.{sign_of_two, sign_of_three}
use Rattle.c_lexer.specs.Written.{IsToken}

-- a longer sign, a number or a comment begins with a sign of one byte and the byte behind it
abbrev pub joins : ℕ → ℕ → Bool
joins b c = is_some (sign_of_two b c) || (b == 46 && (c == 46 || is_digit c)) || (b == 47 && (c == 47 || c == 42))

-- a longer sign begins with a sign and the byte behind it
abbrev pub sign_goes_on : List ℕ → ℕ → Bool
sign_goes_on w c = if length w == 1 then joins (slice_index w 0) c else (if length w == 2 then is_some (sign_of_three (slice_index w 0) (slice_index w 1) c) else false)

-- a token goes on with the byte that stands right behind it, or is a word in front of a quote, which C takes for one text
abbrev pub needs_space : List ℕ → ℕ → Bool
needs_space w c =
    if is_letter (slice_index w 0) then is_in Word c || c == 34 || c == 39
    else (if begins_number w then is_in Number c
    else (if slice_index w 0 == 34 || slice_index w 0 == 39 then false else sign_goes_on w c))

-- a line feed stands in white space
abbrev pub has_line_feed : List ℕ → Bool
has_line_feed w = nat_lt (run NotLineFeed w) (length w)

-- a token that is put: its bytes, its class, and whether it begins a line
abbrev pub Item : Type 0
Item = List ℕ × TokenKind × Bool

-- Texts that put tokens one after another, with white space in front of each and behind the last; where a token needs space, some stands
-- behind it. The flag says that nothing stands in front of the text.
pub data Puts : Bool → List Item → List ℕ → Type 0 where
  done : {first : Bool} → (w : List ℕ) → run Space w ≡ length w → Puts first [] w
  put : {first : Bool} → (w text z : List ℕ) (kind : TokenKind) → {ts : List Item} → run Space w ≡ length w → IsToken text kind → needs_space text (slice_index z 0) ≡ false → Puts false ts z → Puts first ((text, kind, first || has_line_feed w) ∷ ts) (w ++ text ++ z)
