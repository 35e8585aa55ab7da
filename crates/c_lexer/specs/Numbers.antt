-- Numbers: their suffixes, their types, and which bytes are one.
use Rattle.std.specs.Prelude.{ℕ, ◌^◌, Bool, ◌&&◌, ◌==◌, nat_lt, if◌then◌else◌, List, [], take, drop, codes, Option, Some, None, slice_index}
use Rattle.std.specs.Option.{option_map}
use Rattle.std.specs.Str.{bytes_eq}
use Rattle.c_lexer.specs.declared.bytes.Class.TheVariants.{Number, Digit, HexDigit}
use Rattle.c_lexer.specs.declared.token.NumberType.{NumberType}
use Rattle.c_lexer.specs.declared.token.NumberType.TheVariants.{Gint, Guint, Glong, Gulong}
use Rattle.c_lexer.specs.declared.token.TokenKind.{TokenKind}
use Rattle.c_lexer.specs.declared.token.TokenKind.TheVariants as k
use Rattle.c_lexer.specs.declared.numbers.Suffix.{Suffix}
use Rattle.c_lexer.specs.declared.numbers.Suffix.TheVariants as suffix
use Rattle.c_lexer.specs.declared.pieces.Found.{Found}
use Rattle.c_lexer.specs.Bytes.{is_digit, run, value, in_64_bits}

-- how a suffix is written
abbrev pub suffix_bytes : Suffix → List ℕ
suffix_bytes suffix.Plain = []
suffix_bytes suffix.U = codes "U"
suffix_bytes suffix.L = codes "L"
suffix_bytes suffix.Ul = codes "UL"

-- the suffix that bytes are
abbrev pub suffix_of : List ℕ → Option Suffix
suffix_of z = if bytes_eq z [] then Some suffix.Plain else (if bytes_eq z (codes "U") then Some suffix.U else (if bytes_eq z (codes "L") then Some suffix.L else (if bytes_eq z (codes "UL") then Some suffix.Ul else None)))

-- a type, where its values go up to below a bound
abbrev pub below : ℕ → ℕ → NumberType → Option NumberType
below n bound t = if nat_lt n bound then Some t else None

-- the type of a number by its suffix and value: the first that holds it, without a sign exactly where `U` stands, and of 64 bits where `L`
-- stands
abbrev pub number_type : Suffix → ℕ → Option NumberType
number_type suffix.Plain n = if nat_lt n (2 ^ 31) then Some Gint else below n (2 ^ 63) Glong
number_type suffix.U n = if nat_lt n (2 ^ 32) then Some Guint else below n (2 ^ 64) Gulong
number_type suffix.L n = below n (2 ^ 63) Glong
number_type suffix.Ul n = below n (2 ^ 64) Gulong

-- the number of a suffix and a value
abbrev pub of_parts : Option ℕ → Option Suffix → Option TokenKind
of_parts (Some v) (Some s) = option_map (λ t. k.Number v t) (number_type s v)
of_parts v s = None

-- the number of some digits in front of its suffix
abbrev pub of_digits : ℕ → ℕ → List ℕ → Option TokenKind
of_digits base n z = if n == 0 then None else of_parts (in_64_bits (value base (take n z))) (suffix_of (drop n z))

abbrev pub is_prefixed : List ℕ → Bool
is_prefixed w = slice_index w 0 == 48 && slice_index w 1 == 120

abbrev pub has_leading_zero : List ℕ → Bool
has_leading_zero w = slice_index w 0 == 48 && is_digit (slice_index w 1)

-- the number that bytes are
abbrev pub number_of : List ℕ → Option TokenKind
number_of w =
    if is_prefixed w then of_digits 16 (run HexDigit (drop 2 w)) (drop 2 w)
    else (if has_leading_zero w then None else of_digits 10 (run Digit w) w)

-- the number in front: digits, letters, `_` and `.` together are one, or none
abbrev pub number : List ℕ → Option Found
number z = option_map (λ kind. record { kind = kind; len = run Number z }) (number_of (take (run Number z) z))
