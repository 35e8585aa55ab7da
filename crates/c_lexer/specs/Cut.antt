-- The token in front of bytes; None where they begin with none.
use Rattle.std.specs.Prelude.{ℕ, ◌==◌, if◌then◌else◌, List, take, Option, Some, slice_index}
use Rattle.c_lexer.specs.declared.bytes.Class.TheVariants.{Word}
use Rattle.c_lexer.specs.declared.pieces.Found.{Found}
use Rattle.c_lexer.specs.Bytes.{is_letter, begins_number, run}
use Rattle.c_lexer.specs.Words.{word_kind}
use Rattle.c_lexer.specs.Signs.{sign}
use Rattle.c_lexer.specs.Numbers.{number}
use Rattle.c_lexer.specs.Texts.{text, character}

-- the word in front: letters, digits and `_` together are one
abbrev pub word : List ℕ → Found
word z = record { kind = word_kind (take (run Word z) z); len = run Word z }

-- the token in front, by its first byte
unfoldable pub cut : List ℕ → Option Found
cut z =
    if is_letter (slice_index z 0) then Some (word z)
    else (if begins_number z then number z
    else (if slice_index z 0 == 34 then text z
    else (if slice_index z 0 == 39 then character z else sign z)))
