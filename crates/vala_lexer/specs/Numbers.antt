-- Numbers: their suffixes, their types, and what is refused of them.
use Rattle.std.specs.Prelude.{ℕ, ◌+◌, ◌^◌, Bool, ◌&&◌, ◌||◌, ◌==◌, nat_lt, if◌then◌else◌, List, take, drop, Option, Some, None, Result, Ok, Err, slice_index, option_and_then}
use Rattle.static_rules.specs.declared.rules.Rule.TheVariants.{L4, U1}
use Rattle.vala_lexer.specs.declared.bytes.Class.TheVariants.{Digit, HexDigit}
use Rattle.vala_lexer.specs.declared.token.IntegerType.{IntegerType}
use Rattle.vala_lexer.specs.declared.token.IntegerType.TheVariants.{Int, Uint, Long, Ulong, Int64, Uint64}
use Rattle.vala_lexer.specs.declared.token.TokenKind.TheVariants.{Integer}
use Rattle.vala_lexer.specs.declared.numbers.Suffix.{Suffix}
use Rattle.vala_lexer.specs.declared.numbers.Suffix.TheVariants as suffix
use Rattle.vala_lexer.specs.declared.pieces.Found.{Found}
use Rattle.vala_lexer.specs.declared.pieces.Fault.{Fault}
use Rattle.vala_lexer.specs.Bytes.{is_digit, is_hex_digit, run, value, in_64_bits}
use Rattle.vala_lexer.specs.Pieces.{fault}

abbrev pub is_u : ℕ → Bool
is_u b = b == 85 || b == 117

abbrev pub is_l : ℕ → Bool
is_l b = b == 76 || b == 108

-- the longest suffix in front
abbrev pub suffix_of : List ℕ → Suffix
suffix_of z =
    if is_u (slice_index z 0) then (if is_l (slice_index z 1) then (if is_l (slice_index z 2) then suffix.Ull else suffix.Ul) else suffix.U)
    else (if is_l (slice_index z 0) then (if is_l (slice_index z 1) then suffix.Ll else suffix.L) else suffix.Plain)

abbrev pub suffix_len : Suffix → ℕ
suffix_len suffix.Plain = 0
suffix_len suffix.U = 1
suffix_len suffix.L = 1
suffix_len suffix.Ul = 2
suffix_len suffix.Ll = 2
suffix_len suffix.Ull = 3

-- a type, where its values go up to below a bound
abbrev pub below : ℕ → ℕ → IntegerType → Option IntegerType
below n bound t = if nat_lt n bound then Some t else None

-- the type of a number by its suffix and value; None where the value is out of range
abbrev pub integer_type : Suffix → ℕ → Option IntegerType
integer_type suffix.Plain n = if nat_lt n (2 ^ 31) then Some Int else below n (2 ^ 63) Int64
integer_type suffix.U n = if nat_lt n (2 ^ 32) then Some Uint else below n (2 ^ 64) Uint64
integer_type suffix.L n = below n (2 ^ 63) Long
integer_type suffix.Ul n = below n (2 ^ 64) Ulong
integer_type suffix.Ll n = below n (2 ^ 63) Int64
integer_type suffix.Ull n = below n (2 ^ 64) Uint64

abbrev pub integer_of : ℕ → Option ℕ → Option IntegerType → Result Found Fault
integer_of len (Some v) (Some t) = Ok (record { kind = Integer v t; len = len })
integer_of len v t = Err (fault L4 0 len)

-- a number by the value of its digits, where it has one, how many bytes it takes up to its suffix, and what stands behind them
abbrev pub integer : Option ℕ → ℕ → List ℕ → Result Found Fault
integer v len behind = let s = suffix_of behind in integer_of (len + suffix_len s) v (option_and_then (integer_type s) v)

abbrev pub hexadecimal : List ℕ → Result Found Fault
hexadecimal z = let behind = drop 2 z in let n = run HexDigit behind in
    integer (in_64_bits (value 16 (take n behind))) (n + 2) (drop n behind)

-- the digits are followed by `.` and a digit
abbrev pub is_fraction : List ℕ → Bool
is_fraction behind = slice_index behind 0 == 46 && is_digit (slice_index behind 1)

-- decimal digits: no number of this profile where a fraction follows, and none with a leading zero
abbrev pub decimal : List ℕ → Result Found Fault
decimal z = let n = run Digit z in let behind = drop n z in
    if is_fraction behind then Err (fault U1 0 n)
    else (if nat_lt 1 n && slice_index z 0 == 48 then integer None n behind
    else integer (in_64_bits (value 10 (take n z))) n behind)

abbrev pub is_prefixed : List ℕ → Bool
is_prefixed z = slice_index z 0 == 48 && slice_index z 1 == 120 && is_hex_digit (slice_index z 2)

-- the number in front
abbrev pub number : List ℕ → Result Found Fault
number z = if is_prefixed z then hexadecimal z else decimal z
