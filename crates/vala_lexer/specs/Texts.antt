-- Texts and characters: where they end, what they denote, and what is refused of them.
use Rattle.std.specs.Prelude.{ℕ, zero, suc, ◌-◌, ◌+◌, Bool, true, false, not, ◌&&◌, ◌||◌, ◌==◌, nat_le, nat_lt, if◌then◌else◌, List, [], ◌∷◌, ◌++◌, length, take, drop, Option, Some, None, is_some, Result, Ok, Err, slice_index, option_and_then}
use Rattle.std.specs.Option.{option_map}
use Rattle.std.specs.Char.{encode_utf8}
use Rattle.std.specs.Str.Lossy.{utf8_valid_len}
use Rattle.vala_lexer.specs.declared.bytes.Class.TheVariants.{HexDigit, NotZero}
use Rattle.vala_lexer.specs.declared.bytes.Ending.TheVariants.{Quotes}
use Rattle.vala_lexer.specs.declared.token.TokenKind.TheVariants as k
use Rattle.vala_lexer.specs.declared.texts.Literal.{Literal}
use Rattle.vala_lexer.specs.declared.texts.Literal.TheVariants as literal
use Rattle.vala_lexer.specs.declared.texts.Escape.{Escape}
use Rattle.vala_lexer.specs.declared.pieces.Found.{Found}
use Rattle.vala_lexer.specs.declared.pieces.Fault.{Fault}
use Rattle.vala_lexer.specs.Bytes.{run, starts_with_quotes, place_of, value, in_64_bits}
use Rattle.vala_lexer.specs.Pieces.{bad_byte, no_end, bad_escape}

-- the same behind a byte, which may be a backslash that escapes the next
abbrev pub inside_behind : Bool → ℕ → List ℕ → Option ℕ
inside_behind escaped quote [] = None
inside_behind escaped quote (b ∷ z) =
    if b == 10 then None
    else (if b == quote && not escaped then Some 0 else option_map (λ n. suc n) (inside_behind (b == 92 && not escaped) quote z))

-- how many bytes stand before the first quote that no backslash escapes; None where the line or the text ends before it
abbrev pub inside : ℕ → List ℕ → Option ℕ
inside = inside_behind false

-- `\"`, `\'`, `\\`, `\b`, `\f`, `\n`, `\r`, `\t` and `\v`, by the byte behind the backslash
abbrev pub simple_escape : ℕ → Option ℕ
simple_escape b =
    if b == 34 then Some 34
    else (if b == 39 then Some 39
    else (if b == 92 then Some 92
    else (if b == 98 then Some 8
    else (if b == 102 then Some 12
    else (if b == 110 then Some 10
    else (if b == 114 then Some 13
    else (if b == 116 then Some 9
    else (if b == 118 then Some 11 else None))))))))

-- the value of a number of hexadecimal digits in front
abbrev pub hex_number : ℕ → List ℕ → Option ℕ
hex_number n z = if nat_le n (run HexDigit z) then in_64_bits (value 16 (take n z)) else None

-- an escape of a length, where its code passes a test
abbrev pub escape_if : (ℕ → Bool) → ℕ → ℕ → Option Escape
escape_if ok n code = if ok code then Some (record { code = code; len = n }) else None

-- two hexadecimal digits from 01 to 7F, behind `\x`
abbrev pub byte_escape : List ℕ → Option Escape
byte_escape z = option_and_then (escape_if (λ v. nat_le 1 v && nat_le v 127) 3) (hex_number 2 z)

-- four hexadecimal digits of a character that is not zero, behind `\u`
abbrev pub unicode_escape : List ℕ → Option Escape
unicode_escape z = option_and_then (escape_if (λ v. nat_le 1 v && (nat_lt v 55296 || nat_le 57344 v)) 5) (hex_number 4 z)

abbrev pub is_text : Literal → Bool
is_text literal.Text = true
is_text literal.Character = false

-- the escape whose backslash stands before the bytes
abbrev pub escape : Literal → List ℕ → Option Escape
escape l z =
    if slice_index z 0 == 120 then byte_escape (drop 1 z)
    else (if is_text l && slice_index z 0 == 117 then unicode_escape (drop 1 z)
    else (if not (is_text l) && slice_index z 0 == 48 then Some (record { code = 0; len = 1 })
    else option_map (λ v. record { code = v; len = 1 }) (simple_escape (slice_index z 0))))

abbrev pub is_escape : List ℕ → Bool
is_escape z = is_some (escape literal.Text z)

-- the same behind a byte, which may be a backslash that escapes the next
abbrev pub sound_behind : Bool → List ℕ → ℕ
sound_behind escaped [] = 0
sound_behind escaped (b ∷ z) = if (b == 92 && not escaped) && not (is_escape z) then 0 else suc (sound_behind (b == 92 && not escaped) z)

-- how many bytes stand before the first backslash that begins no escape
abbrev pub sound_escapes : List ℕ → ℕ
sound_escapes = sound_behind false

-- how many bytes stand before the first that is zero or with which the bytes stop being UTF-8
abbrev pub sound_bytes : List ℕ → ℕ
sound_bytes z = if nat_lt (run NotZero z) (utf8_valid_len z) then run NotZero z else utf8_valid_len z

-- a text of a length between quotes, by how far its bytes and its escapes are sound: the first fault decides
abbrev pub checked : ℕ → ℕ → ℕ → ℕ → Result Found Fault
checked quotes len bytes escapes =
    if nat_lt bytes len && nat_le bytes escapes then Err (bad_byte (quotes + bytes))
    else (if nat_lt escapes len then Err (bad_escape (quotes + escapes)) else Ok (record { kind = k.Text; len = quotes + len + quotes }))

-- behind `"`
abbrev pub plain_text_of : List ℕ → Option ℕ → Result Found Fault
plain_text_of z None = Err no_end
plain_text_of z (Some n) = checked 1 n (sound_bytes (take n z)) (sound_escapes (take n z))

abbrev pub plain_text : List ℕ → Result Found Fault
plain_text z = plain_text_of z (inside 34 z)

-- behind `"""`, without escapes
abbrev pub verbatim_text_of : List ℕ → Option ℕ → Result Found Fault
verbatim_text_of z None = Err no_end
verbatim_text_of z (Some n) = checked 3 n (sound_bytes (take n z)) n

abbrev pub verbatim_text : List ℕ → Result Found Fault
verbatim_text z = verbatim_text_of z (place_of Quotes z)

-- the text in front
abbrev pub text : List ℕ → Result Found Fault
text z = if starts_with_quotes z then verbatim_text (drop 3 z) else plain_text (drop 1 z)

-- a character between quotes
abbrev pub character_of : ℕ → ℕ → Result Found Fault
character_of code n = Ok (record { kind = k.Character code; len = n + 2 })

-- an escape must be all that stands between the quotes
abbrev pub escaped_character : ℕ → Option Escape → Result Found Fault
escaped_character n None = Err (bad_escape 1)
escaped_character n (Some e) = if n == e.len + 1 then character_of e.code (e.len + 1) else Err no_end

-- what stands between the quotes of a character: one ASCII character or one escape
abbrev pub character_inside : List ℕ → Result Found Fault
character_inside z = let b = slice_index z 0 in
    if length z == 0 then Err no_end
    else (if b == 0 || nat_le 128 b then Err (bad_byte 1)
    else (if not (b == 92) then (if length z == 1 then character_of b 1 else Err no_end)
    else escaped_character (length z) (escape literal.Character (drop 1 z))))

abbrev pub character_between : List ℕ → Option ℕ → Result Found Fault
character_between z None = Err no_end
character_between z (Some n) = character_inside (take n z)

-- the character in front
abbrev pub character : List ℕ → Result Found Fault
character z = character_between (drop 1 z) (inside 39 (drop 1 z))

-- the bytes of an escape's character, in UTF-8
abbrev pub escape_bytes : Option Escape → List ℕ
escape_bytes None = []
escape_bytes (Some e) = encode_utf8 e.code

-- how many bytes behind its backslash an escape takes
abbrev pub escape_len : Option Escape → ℕ
escape_len None = 0
escape_len (Some e) = e.len

-- the same where the escape before has taken some of the bytes
abbrev pub denoted_behind : ℕ → List ℕ → List ℕ
denoted_behind n [] = []
denoted_behind (suc n) (b ∷ z) = denoted_behind n z
denoted_behind zero (b ∷ z) = if b == 92 then escape_bytes (escape literal.Text z) ++ denoted_behind (escape_len (escape literal.Text z)) z else b ∷ denoted_behind zero z

-- what the bytes between two `"` denote: each escape its character, all else itself
abbrev pub denoted : List ℕ → List ℕ
denoted = denoted_behind 0

-- what a text denotes, as it is written: without its quotes, and between `"""` without escapes
abbrev pub text_value : List ℕ → List ℕ
text_value w = if starts_with_quotes w then take (length w - 6) (drop 3 w) else denoted (take (length w - 2) (drop 1 w))
