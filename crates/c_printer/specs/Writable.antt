-- What can be written, and which tokens are then read.
use Rattle.std.specs.Prelude.{◌≡◌, ℕ, ◌+◌, ◌<◌, Bool, true, false, List, [], ◌∷◌, ◌++◌, length}
use Rattle.c_lexer.specs.declared.token.TokenKind.{TokenKind}
use Rattle.c_lexer.specs.declared.token.TokenKind.TheVariants as k
use Rattle.c_lexer.specs.Spelling.{keyword_spelling, constant_spelling, sign_spelling}
use Rattle.c_lexer.specs.Tokens.{Lexeme}
use Rattle.c_lexer.specs.Words.{word_kind}
use Rattle.c_lexer.specs.Written.{IsWord}
use Rattle.c_printer.specs.Marks.{Mark, Marks, Name, AKeyword, AConstant, Number, Chars, Character, ASign, Space, Line, put_mark}
use Rattle.c_printer.specs.Put.{AreBytes, Holds, spelled_number, spelled_text, spelled_character}
use Rattle.c_printer.specs.Text.{Text, gap}

-- a name is a word without a meaning of its own, a number's type holds its value, and bytes are below 256
abbrev pub IsWritable : Mark → Type 0
IsWritable (Name w) = IsWord w × (word_kind w ≡ k.Identifier)
IsWritable (Number n y) = Holds y n
IsWritable (Chars z) = AreBytes z
IsWritable (Character b) = b < 256
IsWritable m = Unit {0}

-- all of them
abbrev pub AreWritable : Marks → Type 0
AreWritable [] = Unit {0}
AreWritable (m ∷ ms) = IsWritable m × AreWritable ms

-- a token that is written behind a text, of a class, on a line that nothing else begins or not
abbrev pub lexeme : Text → Bool → List ℕ → TokenKind → Lexeme
lexeme t first w kind = record { kind = kind; text = w; start = length (t.bytes ++ gap t.last w); end = length (t.bytes ++ gap t.last w) + length w; begins_line = first }

-- THE TOKENS that are written behind a text, with their places
abbrev pub lexemes : Text → Bool → Marks → List Lexeme
lexemes t first [] = []
lexemes t first (Space ∷ ms) = lexemes (put_mark t Space) first ms
lexemes t first (Line n ∷ ms) = lexemes (put_mark t (Line n)) true ms
lexemes t first (Name w ∷ ms) = lexeme t first w k.Identifier ∷ lexemes (put_mark t (Name w)) false ms
lexemes t first (AKeyword w ∷ ms) = lexeme t first (keyword_spelling w) (k.Keyword w) ∷ lexemes (put_mark t (AKeyword w)) false ms
lexemes t first (AConstant c ∷ ms) = lexeme t first (constant_spelling c) (k.Constant c) ∷ lexemes (put_mark t (AConstant c)) false ms
lexemes t first (Number n y ∷ ms) = lexeme t first (spelled_number n y) (k.Number n y) ∷ lexemes (put_mark t (Number n y)) false ms
lexemes t first (Chars z ∷ ms) = lexeme t first (spelled_text z) k.Text ∷ lexemes (put_mark t (Chars z)) false ms
lexemes t first (Character b ∷ ms) = lexeme t first (spelled_character b) (k.Character b) ∷ lexemes (put_mark t (Character b)) false ms
lexemes t first (ASign s ∷ ms) = lexeme t first (sign_spelling s) (k.Sign s) ∷ lexemes (put_mark t (ASign s)) false ms
