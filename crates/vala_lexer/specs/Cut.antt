-- The token in front of a text, or what is refused there.
use Rattle.std.specs.Prelude.{ℕ, ◌+◌, Bool, true, ◌&&◌, ◌||◌, ◌==◌, nat_lt, if◌then◌else◌, List, [], ◌∷◌, take, drop, Option, Some, None, Result, Ok, Err, slice_index}
use Rattle.static_rules.specs.declared.rules.Rule.TheVariants.{M4, U1}
use Rattle.vala_lexer.specs.declared.bytes.Class.TheVariants.{Word}
use Rattle.vala_lexer.specs.declared.token.TokenKind.{TokenKind}
use Rattle.vala_lexer.specs.declared.token.TokenKind.TheVariants as k
use Rattle.vala_lexer.specs.declared.pieces.Found.{Found}
use Rattle.vala_lexer.specs.declared.pieces.Fault.{Fault}
use Rattle.vala_lexer.specs.Bytes.{is_space, is_letter, is_digit, run}
use Rattle.vala_lexer.specs.Pieces.{fault, bad_byte}
use Rattle.vala_lexer.specs.Words as words
use Rattle.vala_lexer.specs.Signs.{sign}
use Rattle.vala_lexer.specs.Numbers.{number}
use Rattle.vala_lexer.specs.Texts.{text, character}

-- a keyword or an identifier of at most 200 bytes
abbrev pub word : List ℕ → Result Found Fault
word z = let n = run Word z in
    if nat_lt 200 n then Err (fault M4 0 n) else Ok (record { kind = words.word_kind (take n z); len = n })

abbrev pub left_out : Fault
left_out = fault U1 0 1

abbrev pub is_identifier : TokenKind → Bool
is_identifier = words.is_identifier

-- `@` in front of a keyword makes it an identifier, and in front of `"` a text that is left out
abbrev pub marked_word : List ℕ → Result Found Fault
marked_word z = let behind = drop 1 z in let n = run Word behind in
    if slice_index behind 0 == 34 then Err left_out
    else (if is_identifier (words.word_kind (take n behind)) then Err (bad_byte 0) else Ok (record { kind = k.Identifier; len = n + 1 }))

-- the same behind bytes, of whose last line it is known whether it is clear
abbrev pub is_clear : Bool → List ℕ → Bool
is_clear clear [] = clear
is_clear clear (b ∷ z) = is_clear (b == 10 || (clear && is_space b)) z

-- whether nothing but white space stands behind the last line feed
abbrev pub begins_line : List ℕ → Bool
begins_line = is_clear true

-- a `#` that begins a line is a line for a preprocessor, which is left out
abbrev pub hash : List ℕ → Fault
hash front = if begins_line front then left_out else bad_byte 0

abbrev pub sign_or_bad_of : Option Found → Result Found Fault
sign_or_bad_of (Some t) = Ok t
sign_or_bad_of None = Err (bad_byte 0)

abbrev pub sign_or_bad : List ℕ → Result Found Fault
sign_or_bad z = sign_or_bad_of (sign z)

-- the token in front of a text, behind what stands before it in the file
unfoldable pub cut : List ℕ → List ℕ → Result Found Fault
cut front z = let b = slice_index z 0 in
    if is_letter b then word z
    else (if is_digit b then number z
    else (if b == 34 then text z
    else (if b == 39 then character z
    else (if b == 64 then marked_word z
    else (if b == 35 then Err (hash front) else sign_or_bad z)))))
