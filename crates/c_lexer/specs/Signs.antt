-- The signs of one, two and three bytes, and the longest of them in front of a text.
use Rattle.std.specs.Prelude.{ℕ, ◌==◌, ◌&&◌, if◌then◌else◌, List, Option, Some, None, slice_index}
use Rattle.c_lexer.specs.declared.token.Sign.{Sign}
use Rattle.c_lexer.specs.declared.token.Sign.TheVariants as s
use Rattle.c_lexer.specs.declared.token.TokenKind.TheVariants as k
use Rattle.c_lexer.specs.declared.pieces.Found.{Found}

abbrev pub sign_of_one : ℕ → Option Sign
sign_of_one b =
    if b == 123 then Some s.OpenBrace
    else (if b == 125 then Some s.CloseBrace
    else (if b == 40 then Some s.OpenParen
    else (if b == 41 then Some s.CloseParen
    else (if b == 91 then Some s.OpenBracket
    else (if b == 93 then Some s.CloseBracket
    else (if b == 44 then Some s.Comma
    else (if b == 59 then Some s.Semicolon
    else (if b == 58 then Some s.Colon
    else (if b == 46 then Some s.Dot
    else (if b == 63 then Some s.Question
    else (if b == 61 then Some s.Assign
    else (if b == 60 then Some s.Less
    else (if b == 62 then Some s.Greater
    else (if b == 43 then Some s.Plus
    else (if b == 45 then Some s.Minus
    else (if b == 42 then Some s.Star
    else (if b == 47 then Some s.Slash
    else (if b == 37 then Some s.Percent
    else (if b == 38 then Some s.Ampersand
    else (if b == 124 then Some s.Bar
    else (if b == 94 then Some s.Caret
    else (if b == 33 then Some s.Not
    else (if b == 126 then Some s.Tilde
    else (if b == 35 then Some s.Hash else None))))))))))))))))))))))))

-- the signs of two bytes that end with `=`
abbrev pub sign_with_equals : ℕ → Option Sign
sign_with_equals b =
    if b == 61 then Some s.Equal
    else (if b == 33 then Some s.NotEqual
    else (if b == 60 then Some s.LessEqual
    else (if b == 62 then Some s.GreaterEqual
    else (if b == 43 then Some s.PlusAssign
    else (if b == 45 then Some s.MinusAssign
    else (if b == 42 then Some s.StarAssign
    else (if b == 47 then Some s.SlashAssign
    else (if b == 37 then Some s.PercentAssign
    else (if b == 38 then Some s.AndAssign
    else (if b == 124 then Some s.OrAssign
    else (if b == 94 then Some s.XorAssign else None)))))))))))

-- the other signs of two equal bytes
abbrev pub doubled_sign : ℕ → Option Sign
doubled_sign b =
    if b == 38 then Some s.AndAnd
    else (if b == 124 then Some s.OrOr
    else (if b == 60 then Some s.ShiftLeft
    else (if b == 62 then Some s.ShiftRight
    else (if b == 43 then Some s.Increment
    else (if b == 45 then Some s.Decrement
    else (if b == 35 then Some s.Paste else None))))))

abbrev pub sign_of_two : ℕ → ℕ → Option Sign
sign_of_two b c = if c == 61 then sign_with_equals b else (if b == c then doubled_sign b else (if b == 45 && c == 62 then Some s.Arrow else None))

abbrev pub sign_of_three : ℕ → ℕ → ℕ → Option Sign
sign_of_three b c d =
    if b == 60 && c == 60 && d == 61 then Some s.ShiftLeftAssign
    else (if b == 62 && c == 62 && d == 61 then Some s.ShiftRightAssign
    else (if b == 46 && c == 46 && d == 46 then Some s.Ellipsis else None))

-- a sign of a length, or else what follows
abbrev pub or_shorter : Option Sign → ℕ → Option Found → Option Found
or_shorter (Some sign) n shorter = Some (record { kind = k.Sign sign; len = n })
or_shorter None n shorter = shorter

-- the longest sign in front
abbrev pub sign : List ℕ → Option Found
sign z =
    or_shorter (sign_of_three (slice_index z 0) (slice_index z 1) (slice_index z 2)) 3
    (or_shorter (sign_of_two (slice_index z 0) (slice_index z 1)) 2 (or_shorter (sign_of_one (slice_index z 0)) 1 None))
