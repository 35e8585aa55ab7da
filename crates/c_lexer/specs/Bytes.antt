-- Classes of bytes, how far they go, and what digits say.
use Rattle.std.specs.Prelude.{ℕ, suc, ◌+◌, ◌-◌, ◌*◌, ◌^◌, Bool, not, ◌&&◌, ◌||◌, ◌==◌, nat_le, nat_lt, if◌then◌else◌, List, [], ◌∷◌, length, Option, Some, None, slice_index}
use Rattle.std.specs.Option.{option_map}
use Rattle.c_lexer.specs.declared.bytes.Class.{Class}
use Rattle.c_lexer.specs.declared.bytes.Class.TheVariants as class

-- white space: space, tab, line feed, form feed and carriage return
abbrev pub is_space : ℕ → Bool
is_space b = b == 32 || b == 9 || b == 10 || b == 12 || b == 13

abbrev pub is_digit : ℕ → Bool
is_digit b = nat_le 48 b && nat_le b 57

abbrev pub is_octal_digit : ℕ → Bool
is_octal_digit b = nat_le 48 b && nat_le b 55

-- an ASCII letter or `_`
abbrev pub is_letter : ℕ → Bool
is_letter b = (nat_le 65 b && nat_le b 90) || b == 95 || (nat_le 97 b && nat_le b 122)

abbrev pub is_hex_digit : ℕ → Bool
is_hex_digit b = is_digit b || (nat_le 65 b && nat_le b 70) || (nat_le 97 b && nat_le b 102)

abbrev pub is_in : Class → ℕ → Bool
is_in class.Space b = is_space b
is_in class.Letter b = is_letter b
is_in class.Digit b = is_digit b
is_in class.Word b = is_digit b || is_letter b
is_in class.Number b = is_digit b || is_letter b || b == 46
is_in class.HexDigit b = is_hex_digit b
is_in class.NotLineFeed b = not (b == 10)

-- how many bytes in front are in a class
abbrev pub run : Class → List ℕ → ℕ
run c [] = 0
run c (b ∷ z) = if is_in c b then suc (run c z) else 0

-- a digit, or `.` and a digit, stands in front
abbrev pub begins_number : List ℕ → Bool
begins_number z = is_digit (slice_index z 0) || (slice_index z 0 == 46 && is_digit (slice_index z 1))

-- `*/` stands in front
abbrev pub ends_comment : List ℕ → Bool
ends_comment z = slice_index z 0 == 42 && slice_index z 1 == 47

-- how many bytes stand before the first `*/`; None where there is none
abbrev pub comment_end : List ℕ → Option ℕ
comment_end [] = None
comment_end (b ∷ z) = if ends_comment (b ∷ z) then Some 0 else option_map (λ n. suc n) (comment_end z)

abbrev pub digit_value : ℕ → ℕ
digit_value b = if is_digit b then b - 48 else (if nat_le 65 b && nat_le b 70 then b - 65 + 10 else (if nat_le 97 b && nat_le b 102 then b - 97 + 10 else 0))

-- what digits say: each counts its value times the base to the power of the digits behind it
abbrev pub value : ℕ → List ℕ → ℕ
value base [] = 0
value base (d ∷ z) = digit_value d * base ^ length z + value base z

-- a value with one digit more
abbrev pub with_digit : ℕ → ℕ → ℕ → ℕ
with_digit base v d = v * base + digit_value d

-- a number, where 64 bits hold it
abbrev pub in_64_bits : ℕ → Option ℕ
in_64_bits n = if nat_lt n (2 ^ 64) then Some n else None
