-- What a token is to the grammar. A name is told by its role among the names in scope, which the parts carry.
use Rattle.std.specs.Prelude.{ℕ, ◌==◌, Bool, true, false, List}
use Rattle.c_lexer.specs.declared.token.Constant.{Constant}
use Rattle.c_lexer.specs.declared.token.Constant.TheVariants as constant
use Rattle.c_lexer.specs.declared.token.TokenKind.TheVariants as k
use Rattle.c_lexer.specs.declared.token.Keyword.{Keyword}
use Rattle.c_lexer.specs.declared.token.Keyword.TheVariants as keyword
use Rattle.c_lexer.specs.declared.token.Sign.{Sign}
use Rattle.c_lexer.specs.declared.token.Sign.TheVariants as sign
use Rattle.c_tree.specs.Words.{Terminal, Of, Header, Token}
use Rattle.c_tree.specs.Names.{Names, Role, Unknown, role_of}

-- A token but for its place: what it is, its bytes, and whether it is the first on its line.
pub record Kind : Type 0 where
  pub terminal : Terminal
  pub bytes : List ℕ
  pub begins_line : Bool

-- the kind of a token
abbrev pub kind : Token → Kind
kind t = record { terminal = t.terminal; bytes = t.bytes; begins_line = t.begins_line }

-- what a token is, without its bytes and values
pub data Sort : Type 0 where
  Name : Sort
  Number : Sort
  Character : Sort
  Text : Sort
  -- `NULL`, and the other capital names
  Null : Sort
  Capital : Sort
  OfSign : Sign → Sort
  OfWord : Keyword → Sort
  -- a keyword of C that the dialect does not have
  Unused : Sort
  -- the name of an included file
  File : Sort

-- the sort of a capital name
abbrev pub sort_of_constant : Constant → Sort
sort_of_constant constant.Null = Null
sort_of_constant c = Capital

-- the sort of a token
abbrev pub sort_of : Terminal → Sort
sort_of (Of k.Identifier) = Name
sort_of (Of (k.Number n y)) = Number
sort_of (Of (k.Character b)) = Character
sort_of (Of k.Text) = Text
sort_of (Of (k.Constant c)) = sort_of_constant c
sort_of (Of (k.Sign s)) = OfSign s
sort_of (Of (k.Keyword w)) = OfWord w
sort_of (Of k.UnusedKeyword) = Unused
sort_of (Header f) = File

-- A token among names: its sort, for a name its role, and whether it is the first on its line.
pub record Class : Type 0 where
  pub sort : Sort
  pub role : Role
  pub begins_line : Bool

-- the role of a name; what is none has none
abbrev pub role_in : Names → Terminal → List ℕ → Role
role_in ns (Of k.Identifier) w = role_of ns w
role_in ns t w = Unknown

-- the class of a kind
abbrev pub class : Names → Kind → Class
class ns x = record { sort = sort_of x.terminal; role = role_in ns x.terminal x.bytes; begins_line = x.begins_line }

-- a set of classes, as one of kinds
abbrev pub on : Names → (Class → Bool) → Kind → Bool
on ns test x = test (class ns x)

-- 1. Signs and words by number

abbrev pub sign_number : Sign → ℕ
sign_number sign.OpenBrace = 0
sign_number sign.CloseBrace = 1
sign_number sign.OpenParen = 2
sign_number sign.CloseParen = 3
sign_number sign.OpenBracket = 4
sign_number sign.CloseBracket = 5
sign_number sign.Comma = 6
sign_number sign.Semicolon = 7
sign_number sign.Colon = 8
sign_number sign.Dot = 9
sign_number sign.Question = 10
sign_number sign.Assign = 11
sign_number sign.Less = 12
sign_number sign.Greater = 13
sign_number sign.Plus = 14
sign_number sign.Minus = 15
sign_number sign.Star = 16
sign_number sign.Slash = 17
sign_number sign.Percent = 18
sign_number sign.Ampersand = 19
sign_number sign.Bar = 20
sign_number sign.Caret = 21
sign_number sign.Not = 22
sign_number sign.Tilde = 23
sign_number sign.Hash = 24
sign_number sign.Equal = 25
sign_number sign.NotEqual = 26
sign_number sign.LessEqual = 27
sign_number sign.GreaterEqual = 28
sign_number sign.PlusAssign = 29
sign_number sign.MinusAssign = 30
sign_number sign.StarAssign = 31
sign_number sign.SlashAssign = 32
sign_number sign.PercentAssign = 33
sign_number sign.AndAssign = 34
sign_number sign.OrAssign = 35
sign_number sign.XorAssign = 36
sign_number sign.AndAnd = 37
sign_number sign.OrOr = 38
sign_number sign.ShiftLeft = 39
sign_number sign.ShiftRight = 40
sign_number sign.Increment = 41
sign_number sign.Decrement = 42
sign_number sign.Paste = 43
sign_number sign.Arrow = 44
sign_number sign.ShiftLeftAssign = 45
sign_number sign.ShiftRightAssign = 46
sign_number sign.Ellipsis = 47

abbrev pub word_number : Keyword → ℕ
word_number keyword.Case = 0
word_number keyword.Char = 1
word_number keyword.Const = 2
word_number keyword.Default = 3
word_number keyword.Else = 4
word_number keyword.Enum = 5
word_number keyword.Goto = 6
word_number keyword.If = 7
word_number keyword.Int = 8
word_number keyword.Return = 9
word_number keyword.Sizeof = 10
word_number keyword.Static = 11
word_number keyword.Struct = 12
word_number keyword.Switch = 13
word_number keyword.Typedef = 14
word_number keyword.Void = 15
word_number keyword.StructOffset = 16

-- whether two sorts are one
abbrev pub same : Sort → Sort → Bool
same Name Name = true
same Number Number = true
same Character Character = true
same Text Text = true
same Null Null = true
same Capital Capital = true
same (OfSign a) (OfSign b) = sign_number a == sign_number b
same (OfWord a) (OfWord b) = word_number a == word_number b
same Unused Unused = true
same File File = true
same _ _ = false
