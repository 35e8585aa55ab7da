-- The signs of one, two and three bytes, and the longest of them in front of a text.
use Rattle.std.specs.Prelude.{ℕ, ◌==◌, ◌&&◌, if◌then◌else◌, List, Option, Some, None, slice_index}
use Rattle.vala_lexer.specs.declared.token.TokenKind.{TokenKind}
use Rattle.vala_lexer.specs.declared.token.TokenKind.TheVariants as k
use Rattle.vala_lexer.specs.declared.pieces.Found.{Found}

abbrev pub sign_of_one : ℕ → Option TokenKind
sign_of_one b = if b == 123 then Some k.OpenBrace else (if b == 125 then Some k.CloseBrace else (if b == 40 then Some k.OpenParen else (if b == 41 then Some k.CloseParen else (if b == 91 then Some k.OpenBracket else (if b == 93 then Some k.CloseBracket else (if b == 44 then Some k.Comma else (if b == 59 then Some k.Semicolon else (if b == 58 then Some k.Colon else (if b == 46 then Some k.Dot else (if b == 63 then Some k.Question else (if b == 61 then Some k.Assign else (if b == 60 then Some k.Less else (if b == 62 then Some k.Greater else (if b == 43 then Some k.Plus else (if b == 45 then Some k.Minus else (if b == 42 then Some k.Star else (if b == 47 then Some k.Slash else (if b == 37 then Some k.Percent else (if b == 38 then Some k.Ampersand else (if b == 124 then Some k.Bar else (if b == 94 then Some k.Caret else (if b == 33 then Some k.Not else (if b == 126 then Some k.Tilde else None)))))))))))))))))))))))

-- the signs of two bytes that end with `=`
abbrev pub sign_with_equals : ℕ → Option TokenKind
sign_with_equals b = if b == 61 then Some k.Equal else (if b == 33 then Some k.NotEqual else (if b == 60 then Some k.LessEqual else (if b == 62 then Some k.GreaterEqual else (if b == 43 then Some k.PlusAssign else (if b == 45 then Some k.MinusAssign else (if b == 42 then Some k.StarAssign else (if b == 47 then Some k.SlashAssign else (if b == 37 then Some k.PercentAssign else (if b == 38 then Some k.AndAssign else (if b == 124 then Some k.OrAssign else (if b == 94 then Some k.XorAssign else None)))))))))))

-- the other signs of two equal bytes
abbrev pub doubled_sign : ℕ → Option TokenKind
doubled_sign b = if b == 63 then Some k.Coalesce else (if b == 38 then Some k.AndAnd else (if b == 124 then Some k.OrOr else (if b == 60 then Some k.ShiftLeft else (if b == 62 then Some k.ShiftRight else (if b == 43 then Some k.Increment else (if b == 45 then Some k.Decrement else None))))))

abbrev pub sign_of_two : ℕ → ℕ → Option TokenKind
sign_of_two b c = if c == 61 then sign_with_equals b else (if b == c then doubled_sign b else (if b == 61 && c == 62 then Some k.Arrow else None))

abbrev pub sign_of_three : ℕ → ℕ → ℕ → Option TokenKind
sign_of_three b c d =
    if b == 60 && c == 60 && d == 61 then Some k.ShiftLeftAssign
    else (if b == 62 && c == 62 && d == 61 then Some k.ShiftRightAssign
    else (if b == 46 && c == 46 && d == 46 then Some k.Ellipsis else None))

-- a sign of a length, or else what follows
abbrev pub or_shorter : Option TokenKind → ℕ → Option Found → Option Found
or_shorter (Some kind) n shorter = Some (record { kind = kind; len = n })
or_shorter None n shorter = shorter

-- the longest sign in front
abbrev pub sign : List ℕ → Option Found
sign z = let b = slice_index z 0 in let c = slice_index z 1 in
    or_shorter (sign_of_three b c (slice_index z 2)) 3 (or_shorter (sign_of_two b c) 2 (or_shorter (sign_of_one b) 1 None))
