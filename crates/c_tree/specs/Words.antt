-- The tokens that the grammar is told over: those of the text, but that the name of an included file is one.
use Rattle.std.specs.Prelude.{◌≡◌, ℕ, suc, ◌-◌, ◌+◌, ◌==◌, ◌&&◌, ◌||◌, not, nat_le, Bool, true, false, if◌then◌else◌, List, [], ◌∷◌, ◌++◌, length, take, drop, codes, Option, Some, None}
use Rattle.std.specs.List.{list_all}
use Rattle.std.specs.Str.{bytes_eq}
use Rattle.c_lexer.specs.declared.token.TokenKind.{TokenKind}
use Rattle.c_lexer.specs.declared.token.TokenKind.TheVariants as k
use Rattle.c_lexer.specs.declared.token.Sign.{Sign}
use Rattle.c_lexer.specs.declared.token.Sign.TheVariants as sign
use Rattle.c_lexer.specs.declared.token.Keyword.{Keyword}
use Rattle.c_lexer.specs.Tokens.{Lexeme}
use Rattle.c_lexer.specs.Texts.{text_value}
use Rattle.c_lexer.specs.Bytes.{is_digit, is_letter}
use Rattle.c_tree.specs.declared.names.Span.{Span}
use Rattle.c_tree.specs.declared.unit.Include.{Include}
use Rattle.c_tree.specs.declared.unit.Include.TheVariants as include

-- what a token is to the grammar
pub data Terminal : Type 0 where
  Of : TokenKind → Terminal
  -- `<glib.h>` and its kin, and `"NAME.h"`
  Header : Include → Terminal

-- a token: what it is, the bytes of its word or text, where it stands, and whether it is the first on its line
pub record Token : Type 0 where
  pub terminal : Terminal
  pub bytes : List ℕ
  pub start : ℕ
  pub end : ℕ
  pub begins_line : Bool

-- tokens in order
abbrev pub Word : Type 0
Word = List Token

-- a token is this sign, this keyword, or a word
abbrev pub IsSign : Token → Sign → Type 0
IsSign t s = t.terminal ≡ Of (k.Sign s)

-- a token is this keyword
abbrev pub IsWord : Token → Keyword → Type 0
IsWord t w = t.terminal ≡ Of (k.Keyword w)

-- a token is a word without a meaning of its own
abbrev pub IsName : Token → Type 0
IsName t = t.terminal ≡ Of k.Identifier

-- a word that has no meaning of its own, by its bytes
abbrev pub IsNamed : Token → List ℕ → Type 0
IsNamed t bytes = IsName t × (t.bytes ≡ bytes)

-- where a token stands
abbrev pub at : Token → Span
at t = record { start = t.start; end = t.end }

-- from the start of one to the end of another
abbrev pub join : Span → Span → Span
join a b = record { start = a.start; end = b.end }

-- where the tokens begin and end
abbrev pub start_of : ℕ → Word → ℕ
start_of n [] = n
start_of n (t ∷ w) = t.start

-- where the last of them ends
abbrev pub end_of : ℕ → Word → ℕ
end_of n [] = n
end_of n (t ∷ w) = end_of t.end w

-- where tokens stand
abbrev pub extent : Word → Span
extent w = record { start = start_of 0 w; end = end_of 0 w }

-- the next token, if there is one, is the first on its line
abbrev pub BeginsLine : Word → Bool
BeginsLine [] = true
BeginsLine (t ∷ w) = t.begins_line

-- 1. Included files

-- the bytes of tokens that stand side by side from a place on
abbrev pub side_by_side : ℕ → List Lexeme → List ℕ
side_by_side at [] = []
side_by_side at (t ∷ ts) = if t.start == at then t.text ++ side_by_side t.end ts else []

-- an included file, and how many tokens its name has
pub record Named : Type 0 where
  pub file : Include
  pub tokens : ℕ

-- an included file with so many tokens
abbrev pub named : Include → ℕ → Option Named
named file n = Some (record { file = file; tokens = n })

-- which of the five files these tokens name
abbrev pub system_file : ℕ → List Lexeme → Option Named
system_file at ts =
    if bytes_eq (side_by_side at (take 5 ts)) (codes "<glib.h>") then named include.Glib 5
    else (if bytes_eq (side_by_side at (take 7 ts)) (codes "<glib-object.h>") then named include.GlibObject 7
    else (if bytes_eq (side_by_side at (take 7 ts)) (codes "<gio/gio.h>") then named include.Gio 7
    else (if bytes_eq (side_by_side at (take 5 ts)) (codes "<string.h>") then named include.String 5
    else (if bytes_eq (side_by_side at (take 5 ts)) (codes "<stdlib.h>") then named include.Stdlib 5 else None))))

-- a letter, and then at most 99 letters, digits and `_`
abbrev pub is_file_name : List ℕ → Bool
is_file_name [] = false
is_file_name (b ∷ bs) = is_letter b && not (b == 95) && nat_le (length bs) 99 && list_all (λ c. is_letter c || is_digit c) bs

-- what `"NAME.h"` names, by the bytes between the quotes
abbrev pub own_file : List ℕ → Option Named
own_file bytes =
    if is_file_name (take (length bytes - 2) bytes) && bytes_eq (drop (length bytes - 2) bytes) (codes ".h")
    then named (include.Own (take (length bytes - 2) bytes)) 1
    else None

-- the file that tokens name, the first of which is of that class
abbrev pub file_at : TokenKind → Lexeme → List Lexeme → Option Named
file_at (k.Sign sign.Less) t ts = system_file t.start (t ∷ ts)
file_at k.Text t ts = own_file (take (length t.text - 2) (drop 1 t.text))
file_at kind t ts = None

-- What stands in front: the `#` of a line, that and `include`, or tokens of a name that are still to be passed.
pub data Behind : Type 0 where
  Other : Behind
  Hash : Behind
  IncludeWord : Behind
  Inside : ℕ → Behind

-- what a token's bytes stand for: those of a text what it denotes, all others themselves
abbrev pub meant : TokenKind → List ℕ → List ℕ
meant k.Text bytes = text_value bytes
meant kind bytes = bytes

-- a token that is one to the grammar
abbrev pub plain : Lexeme → Token
plain t = record { terminal = Of t.kind; bytes = meant t.kind t.text; start = t.start; end = t.end; begins_line = t.begins_line }

-- the name of an included file as one token
abbrev pub header : Lexeme → List Lexeme → Named → Token
header t ts n = record { terminal = Header n.file; bytes = []; start = t.start; end = t.start + length (side_by_side t.start (take n.tokens (t ∷ ts))); begins_line = t.begins_line }

-- whether a token is the `#` that begins a line, and the word `include`
abbrev pub is_hash : Lexeme → Bool
is_hash t = t.begins_line && bytes_eq t.text (codes "#")

-- whether a token is the word `include` on the line of its `#`
abbrev pub is_include : Lexeme → Bool
is_include t = not t.begins_line && bytes_eq t.text (codes "include")

-- what a token stands behind
abbrev pub then_behind : Behind → Lexeme → Behind
then_behind Hash t = if is_include t then IncludeWord else (if is_hash t then Hash else Other)
then_behind b t = if is_hash t then Hash else Other

-- the file that is named at this place
abbrev pub file_behind : Behind → Lexeme → List Lexeme → Option Named
file_behind IncludeWord t ts = if t.begins_line then None else file_at t.kind t ts
file_behind b t ts = None

-- a token and those behind it
abbrev pub words_by : Option Named → Behind → Lexeme → List Lexeme → (Behind → Word) → Word
words_by None b t ts further = plain t ∷ further (then_behind b t)
words_by (Some n) b t ts further = header t ts n ∷ further (Inside (n.tokens - 1))

-- the tokens for the grammar
abbrev pub words_behind : Behind → List Lexeme → Word
words_behind b [] = []
words_behind (Inside (suc n)) (t ∷ ts) = words_behind (Inside n) ts
words_behind b (t ∷ ts) = words_by (file_behind b t ts) b t ts (λ c. words_behind c ts)

-- the tokens for the grammar
abbrev pub words : List Lexeme → Word
words = words_behind Other

-- 2. Brackets

-- the signs whose closing sign has not come, the last one first
abbrev pub Open : Type 0
Open = List Sign

-- a `?` is open up to its `:`
abbrev pub closed_choice : Open → Open
closed_choice (sign.Question ∷ o) = o
closed_choice o = o

-- without the last sign that is open
abbrev pub closed : Open → Open
closed [] = []
closed (s ∷ o) = o

-- what is open behind a sign
abbrev pub with_sign : Open → Sign → Open
with_sign o sign.OpenBrace = sign.OpenBrace ∷ o
with_sign o sign.OpenParen = sign.OpenParen ∷ o
with_sign o sign.OpenBracket = sign.OpenBracket ∷ o
with_sign o sign.Question = sign.Question ∷ o
with_sign o sign.CloseBrace = closed o
with_sign o sign.CloseParen = closed o
with_sign o sign.CloseBracket = closed o
with_sign o sign.Colon = closed_choice o
with_sign o s = o

-- what is open behind a token
abbrev pub with_terminal : Open → Terminal → Open
with_terminal o (Of (k.Sign s)) = with_sign o s
with_terminal o t = o

-- no more than 64 are open at any token
abbrev pub is_shallow : Open → Word → Bool
is_shallow o [] = true
is_shallow o (t ∷ w) = nat_le (length (with_terminal o t.terminal)) 64 && is_shallow (with_terminal o t.terminal) w
