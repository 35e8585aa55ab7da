-- How a token is written that says something.
use Rattle.std.specs.Prelude.{◌≡◌, ℕ, ◌+◌, ◌/◌, ◌%◌, ◌<◌, ◌^◌, Bool, not, ◌&&◌, ◌||◌, ◌==◌, nat_le, if◌then◌else◌, List, [], ◌∷◌, ◌++◌, codes, Option, Some, None}
use Rattle.std.specs.Fmt.{decimal}
use Rattle.c_lexer.specs.declared.token.NumberType.{NumberType}
use Rattle.c_lexer.specs.declared.token.NumberType.TheVariants.{Gint, Guint, Glong, Gulong}
use Rattle.c_lexer.specs.declared.token.TokenKind.{TokenKind}
use Rattle.c_lexer.specs.declared.token.TokenKind.TheVariants as k
use Rattle.c_lexer.specs.Spelling.{keyword_spelling, constant_spelling, sign_spelling}
use Rattle.c_lexer.specs.Words.{word_kind}
use Rattle.c_lexer.specs.Written.{IsWord}
use Rattle.c_printer.specs.declared.piece.Piece.{Piece}
use Rattle.c_printer.specs.declared.piece.Piece.TheVariants as piece

-- the letter behind a backslash that denotes a byte
abbrev pub letter_of : ℕ → Option ℕ
letter_of b =
    if b == 7 then Some 97
    else (if b == 8 then Some 98
    else (if b == 9 then Some 116
    else (if b == 10 then Some 110
    else (if b == 11 then Some 118
    else (if b == 12 then Some 102
    else (if b == 13 then Some 114 else None))))))

-- a byte that stands for itself between quotes: from space to `~`, but no second `?` in a row
abbrev pub is_plain : ℕ → ℕ → Bool
is_plain previous b = nat_le 32 b && nat_le b 126 && not (b == 63 && previous == 63)

-- a backslash and three octal digits
abbrev pub octal : ℕ → List ℕ
octal b = 92 ∷ (48 + b / 64) ∷ (48 + b / 8 % 8) ∷ (48 + b % 8) ∷ []

abbrev pub by_letter : Option ℕ → List ℕ → List ℕ
by_letter (Some c) other = 92 ∷ c ∷ []
by_letter None other = other

-- a byte between quotes, behind another byte
abbrev pub spelled_byte : ℕ → ℕ → ℕ → List ℕ
spelled_byte quote previous b = if b == quote || b == 92 then 92 ∷ b ∷ [] else by_letter (letter_of b) (if is_plain previous b then b ∷ [] else octal b)

abbrev pub spelled_bytes : ℕ → ℕ → List ℕ → List ℕ
spelled_bytes quote previous [] = []
spelled_bytes quote previous (b ∷ z) = spelled_byte quote previous b ++ spelled_bytes quote b z

abbrev pub spelled_text : List ℕ → List ℕ
spelled_text z = 34 ∷ spelled_bytes 34 0 z ++ 34 ∷ []

abbrev pub spelled_character : ℕ → List ℕ
spelled_character b = 39 ∷ spelled_byte 39 0 b ++ 39 ∷ []

abbrev pub suffix_spelling : NumberType → List ℕ
suffix_spelling Gint = []
suffix_spelling Guint = codes "U"
suffix_spelling Glong = codes "L"
suffix_spelling Gulong = codes "UL"

abbrev pub spelled_number : ℕ → NumberType → List ℕ
spelled_number v t = decimal v ++ suffix_spelling t

-- how a token is written
abbrev pub spelled : Piece → List ℕ
spelled (piece.Name w) = w.now
spelled (piece.Keyword word) = keyword_spelling word
spelled (piece.Constant name) = constant_spelling name
spelled (piece.Number v t) = spelled_number v t
spelled (piece.Text z) = spelled_text z.now
spelled (piece.Character b) = spelled_character b
spelled (piece.Sign sign) = sign_spelling sign

-- the class of a token
abbrev pub kind_of : Piece → TokenKind
kind_of (piece.Name w) = k.Identifier
kind_of (piece.Keyword word) = k.Keyword word
kind_of (piece.Constant name) = k.Constant name
kind_of (piece.Number v t) = k.Number v t
kind_of (piece.Text z) = k.Text
kind_of (piece.Character b) = k.Character b
kind_of (piece.Sign sign) = k.Sign sign

-- the values that a type holds
abbrev pub Holds : NumberType → ℕ → Type 0
Holds Gint v = v < 2 ^ 31
Holds Guint v = v < 2 ^ 32
Holds Glong v = v < 2 ^ 63
Holds Gulong v = v < 2 ^ 64

abbrev pub AreBytes : List ℕ → Type 0
AreBytes [] = Unit {0}
AreBytes (b ∷ z) = (b < 256) × AreBytes z

-- what can be written: a name is a word and none of those with another meaning, and a number's type holds its value
abbrev pub CanBePut : Piece → Type 0
CanBePut (piece.Name w) = IsWord w.now × (word_kind w.now ≡ k.Identifier)
CanBePut (piece.Number v t) = Holds t v
CanBePut (piece.Text z) = AreBytes z.now
CanBePut (piece.Character b) = b < 256
CanBePut p = Unit {0}
