-- Texts and characters: where they end, and what they denote.
use Rattle.std.specs.Prelude.{ℕ, zero, suc, ◌-◌, ◌+◌, ◌*◌, ◌&&◌, ◌==◌, nat_lt, if◌then◌else◌, List, [], ◌∷◌, length, take, drop, Option, Some, None, slice_index, option_and_then}
use Rattle.std.specs.Option.{option_map}
use Rattle.c_lexer.specs.declared.token.TokenKind.TheVariants as k
use Rattle.c_lexer.specs.declared.texts.Escape.{Escape}
use Rattle.c_lexer.specs.declared.pieces.Found.{Found}
use Rattle.c_lexer.specs.Bytes.{is_octal_digit}

-- `\"`, `\'`, `\\`, `\a`, `\b`, `\f`, `\n`, `\r`, `\t` and `\v`, by the byte behind the backslash
abbrev pub simple_escape : ℕ → Option ℕ
simple_escape b =
    if b == 34 then Some 34
    else (if b == 39 then Some 39
    else (if b == 92 then Some 92
    else (if b == 97 then Some 7
    else (if b == 98 then Some 8
    else (if b == 102 then Some 12
    else (if b == 110 then Some 10
    else (if b == 114 then Some 13
    else (if b == 116 then Some 9
    else (if b == 118 then Some 11 else None)))))))))

-- what three octal digits say
abbrev pub octal_value : ℕ → ℕ → ℕ → ℕ
octal_value a b c = (a - 48) * 64 + (b - 48) * 8 + (c - 48)

-- an octal escape of a value, which is that of a byte
abbrev pub octal_of : ℕ → Option Escape
octal_of v = if nat_lt v 256 then Some (record { byte = v; len = 3 }) else None

-- three octal digits in front that say a byte
abbrev pub octal_escape : ℕ → ℕ → ℕ → Option Escape
octal_escape a b c = if is_octal_digit a && is_octal_digit b && is_octal_digit c then octal_of (octal_value a b c) else None

-- the escape whose backslash stands before the bytes
abbrev pub escape : List ℕ → Option Escape
escape z =
    if is_octal_digit (slice_index z 0) then octal_escape (slice_index z 0) (slice_index z 1) (slice_index z 2)
    else option_map (λ v. record { byte = v; len = 1 }) (simple_escape (slice_index z 0))

-- the same where the escape before has taken some of the bytes
abbrev pub quoted_behind : ℕ → ℕ → List ℕ → Option ℕ
quoted_behind n q [] = None
quoted_behind (suc n) q (b ∷ z) = option_map (λ m. suc m) (quoted_behind n q z)
quoted_behind zero q (b ∷ z) =
    if b == q then Some 0
    else (if b == 10 then None
    else (if b == 92 then option_and_then (λ e. option_map (λ m. suc m) (quoted_behind e.len q z)) (escape z) else option_map (λ m. suc m) (quoted_behind zero q z)))

-- how many bytes stand before the quote that ends a text or character; None where the line ends before it or a backslash begins no escape
abbrev pub quoted : ℕ → List ℕ → Option ℕ
quoted = quoted_behind 0

-- the text in front
abbrev pub text : List ℕ → Option Found
text z = option_map (λ n. record { kind = k.Text; len = n + 2 }) (quoted 34 (drop 1 z))

-- an escape must be all that stands between the quotes
abbrev pub whole_escape : ℕ → Escape → Option ℕ
whole_escape n e = if n == e.len + 1 then Some e.byte else None

-- the byte of a character by what stands between its quotes: one byte that is not zero, or one escape
abbrev pub character_byte : List ℕ → Option ℕ
character_byte z =
    if slice_index z 0 == 0 then None
    else (if slice_index z 0 == 92 then option_and_then (whole_escape (length z)) (escape (drop 1 z))
    else (if length z == 1 then Some (slice_index z 0) else None))

abbrev pub character_of : List ℕ → ℕ → Option Found
character_of z n = option_map (λ b. record { kind = k.Character b; len = n + 2 }) (character_byte (take n z))

-- the character in front
abbrev pub character : List ℕ → Option Found
character z = option_and_then (character_of (drop 1 z)) (quoted 39 (drop 1 z))

-- the byte of an escape and what follows it
abbrev pub with_escape : Option Escape → (ℕ → List ℕ) → List ℕ
with_escape None further = further 0
with_escape (Some e) further = e.byte ∷ further e.len

-- the same where the escape before has taken some of the bytes
abbrev pub denoted_behind : ℕ → List ℕ → List ℕ
denoted_behind n [] = []
denoted_behind (suc n) (b ∷ z) = denoted_behind n z
denoted_behind zero (b ∷ z) = if b == 92 then with_escape (escape z) (λ n. denoted_behind n z) else b ∷ denoted_behind zero z

-- what the bytes between the quotes of a text denote: each escape its byte, all else itself
abbrev pub denoted : List ℕ → List ℕ
denoted = denoted_behind 0

-- what a text denotes, as it is written with its quotes
abbrev pub text_value : List ℕ → List ℕ
text_value w = denoted (take (length w - 2) (drop 1 w))
