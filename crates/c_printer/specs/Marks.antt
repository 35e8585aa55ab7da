-- What is put one after another: tokens and the white space between them.
use Rattle.std.specs.Prelude.{◌≡◌, ℕ, false, List, [], ◌∷◌, ◌++◌}
use Rattle.c_lexer.specs.declared.token.NumberType.{NumberType}
use Rattle.c_lexer.specs.declared.token.Constant.{Constant}
use Rattle.c_lexer.specs.declared.token.Keyword.{Keyword}
use Rattle.c_lexer.specs.declared.token.Sign.{Sign}
use Rattle.c_lexer.specs.declared.token.TokenKind.{TokenKind}
use Rattle.c_lexer.specs.declared.token.TokenKind.TheVariants as k
use Rattle.c_lexer.specs.Spelling.{keyword_spelling, constant_spelling, sign_spelling}
use Rattle.c_tree.specs.Words.{Of, Token, Word}
use Rattle.c_printer.specs.Put.{spelled_number, spelled_text, spelled_character}
use Rattle.c_printer.specs.declared.output.Writer.{Writer}
use Rattle.c_printer.specs.Text.{Text, seen, with_token, with_white, new_line}

pub data Mark : Type 0 where
  -- a name by its bytes, a text by the bytes that it denotes, and so on
  Name : List ℕ → Mark
  AKeyword : Keyword → Mark
  AConstant : Constant → Mark
  Number : ℕ → NumberType → Mark
  Chars : List ℕ → Mark
  Character : ℕ → Mark
  ASign : Sign → Mark
  -- a space
  Space : Mark
  -- a new line, with so many spaces in front
  Line : ℕ → Mark

abbrev pub Marks : Type 0
Marks = List Mark

-- a text, and one mark behind it
abbrev pub put_mark : Text → Mark → Text
put_mark t (Name w) = with_token t w
put_mark t (AKeyword w) = with_token t (keyword_spelling w)
put_mark t (AConstant c) = with_token t (constant_spelling c)
put_mark t (Number n y) = with_token t (spelled_number n y)
put_mark t (Chars z) = with_token t (spelled_text z)
put_mark t (Character b) = with_token t (spelled_character b)
put_mark t (ASign s) = with_token t (sign_spelling s)
put_mark t Space = with_white t (32 ∷ [])
put_mark t (Line n) = with_white t (new_line n)

-- and all of them
abbrev pub put_marks : Text → Marks → Text
put_marks t [] = t
put_marks t (m ∷ ms) = put_marks (put_mark t m) ms

-- a token without a place
abbrev pub token : TokenKind → List ℕ → Token
token kind bytes = record { terminal = Of kind; bytes = bytes; start = 0; end = 0; begins_line = false }

-- the token that a mark is to the grammar
abbrev pub mark_word : Mark → Word
mark_word (Name w) = token k.Identifier w ∷ []
mark_word (AKeyword w) = token (k.Keyword w) [] ∷ []
mark_word (AConstant c) = token (k.Constant c) [] ∷ []
mark_word (Number n y) = token (k.Number n y) [] ∷ []
mark_word (Chars z) = token k.Text z ∷ []
mark_word (Character b) = token (k.Character b) [] ∷ []
mark_word (ASign s) = token (k.Sign s) [] ∷ []
mark_word Space = []
mark_word (Line n) = []

abbrev pub word : Marks → Word
word [] = []
word (m ∷ ms) = mark_word m ++ word ms

-- lists of marks in a row
abbrev pub in_row : List Marks → Marks
in_row [] = []
in_row (m ∷ ms) = m ++ in_row ms

-- marks were put behind what was written
abbrev pub Wrote : Writer → Marks → Writer → Type 0
Wrote old ms new = seen new ≡ put_marks (seen old) ms
