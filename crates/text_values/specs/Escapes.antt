-- Escapes, as the code of this crate reads them.
use Rattle.std.specs.Prelude.{ℕ, Bool, ◌&&◌, ◌||◌, nat_le, nat_lt, if◌then◌else◌, Option, Some, None}
use Rattle.vala_lexer.specs.Bytes.{is_hex_digit, digit_value}
use Rattle.vala_lexer.specs.declared.texts.Escape.{Escape as LexerEscape}
use Rattle.text_values.specs.declared.escapes.Escape.{Escape}

-- the value of a hexadecimal digit
abbrev pub hex_digit : ℕ → Option ℕ
hex_digit b = if is_hex_digit b then Some (digit_value b) else None

-- the code of a character other than zero, among those of four hexadecimal digits
abbrev pub is_character : ℕ → Bool
is_character v = nat_le 1 v && (nat_lt v 55296 || nat_le 57344 v)

-- an escape as the lexer's definitions tell it: the code of its character, and its length
abbrev pub in_lexer : Escape → LexerEscape
in_lexer e = record { code = e.character; len = e.len }
