-- How the keywords, literals and signs are written.
use Rattle.std.specs.Prelude.{◌≡◌, ◌⊎◌, ℕ, List, [], ◌∷◌, codes}
use Rattle.c_lexer.specs.declared.token.Keyword.{Keyword}
use Rattle.c_lexer.specs.declared.token.Keyword.TheVariants as keyword
use Rattle.c_lexer.specs.declared.token.Constant.{Constant}
use Rattle.c_lexer.specs.declared.token.Constant.TheVariants as constant
use Rattle.c_lexer.specs.declared.token.Sign.{Sign}
use Rattle.c_lexer.specs.declared.token.Sign.TheVariants as s
use Rattle.c_lexer.specs.declared.token.TokenKind.{TokenKind}
use Rattle.c_lexer.specs.declared.token.TokenKind.TheVariants as k

abbrev pub keyword_spelling : Keyword → List ℕ
keyword_spelling keyword.Case = codes "case"
keyword_spelling keyword.Char = codes "char"
keyword_spelling keyword.Const = codes "const"
keyword_spelling keyword.Default = codes "default"
keyword_spelling keyword.Else = codes "else"
keyword_spelling keyword.Enum = codes "enum"
keyword_spelling keyword.Goto = codes "goto"
keyword_spelling keyword.If = codes "if"
keyword_spelling keyword.Int = codes "int"
keyword_spelling keyword.Return = codes "return"
keyword_spelling keyword.Sizeof = codes "sizeof"
keyword_spelling keyword.Static = codes "static"
keyword_spelling keyword.Struct = codes "struct"
keyword_spelling keyword.Switch = codes "switch"
keyword_spelling keyword.Typedef = codes "typedef"
keyword_spelling keyword.Void = codes "void"
keyword_spelling keyword.StructOffset = codes "G_STRUCT_OFFSET"

abbrev pub constant_spelling : Constant → List ℕ
constant_spelling constant.Null = codes "NULL"
constant_spelling constant.True = codes "TRUE"
constant_spelling constant.False = codes "FALSE"
constant_spelling constant.TypeNone = codes "G_TYPE_NONE"
constant_spelling constant.TypeInterface = codes "G_TYPE_INTERFACE"
constant_spelling constant.TypeObject = codes "G_TYPE_OBJECT"
constant_spelling constant.TypeBoolean = codes "G_TYPE_BOOLEAN"
constant_spelling constant.TypeChar = codes "G_TYPE_CHAR"
constant_spelling constant.TypeUchar = codes "G_TYPE_UCHAR"
constant_spelling constant.TypeInt = codes "G_TYPE_INT"
constant_spelling constant.TypeUint = codes "G_TYPE_UINT"
constant_spelling constant.TypeLong = codes "G_TYPE_LONG"
constant_spelling constant.TypeUlong = codes "G_TYPE_ULONG"
constant_spelling constant.TypeInt64 = codes "G_TYPE_INT64"
constant_spelling constant.TypeUint64 = codes "G_TYPE_UINT64"
constant_spelling constant.TypeString = codes "G_TYPE_STRING"
constant_spelling constant.SignalRunLast = codes "G_SIGNAL_RUN_LAST"
constant_spelling constant.SignalMatchId = codes "G_SIGNAL_MATCH_ID"
constant_spelling constant.SignalMatchFunc = codes "G_SIGNAL_MATCH_FUNC"
constant_spelling constant.SignalMatchData = codes "G_SIGNAL_MATCH_DATA"
constant_spelling constant.ConnectAfter = codes "G_CONNECT_AFTER"
constant_spelling constant.ParamReadwrite = codes "G_PARAM_READWRITE"
constant_spelling constant.ParamConstruct = codes "G_PARAM_CONSTRUCT"

abbrev pub sign_spelling : Sign → List ℕ
sign_spelling s.OpenBrace = codes "{"
sign_spelling s.CloseBrace = codes "}"
sign_spelling s.OpenParen = codes "("
sign_spelling s.CloseParen = codes ")"
sign_spelling s.OpenBracket = codes "["
sign_spelling s.CloseBracket = codes "]"
sign_spelling s.Comma = codes ","
sign_spelling s.Semicolon = codes ";"
sign_spelling s.Colon = codes ":"
sign_spelling s.Dot = codes "."
sign_spelling s.Question = codes "?"
sign_spelling s.Assign = codes "="
sign_spelling s.Less = codes "<"
sign_spelling s.Greater = codes ">"
sign_spelling s.Plus = codes "+"
sign_spelling s.Minus = codes "-"
sign_spelling s.Star = codes "*"
sign_spelling s.Slash = codes "/"
sign_spelling s.Percent = codes "%"
sign_spelling s.Ampersand = codes "&"
sign_spelling s.Bar = codes "|"
sign_spelling s.Caret = codes "^"
sign_spelling s.Not = codes "!"
sign_spelling s.Tilde = codes "~"
sign_spelling s.Hash = codes "#"
sign_spelling s.Equal = codes "=="
sign_spelling s.NotEqual = codes "!="
sign_spelling s.LessEqual = codes "<="
sign_spelling s.GreaterEqual = codes ">="
sign_spelling s.PlusAssign = codes "+="
sign_spelling s.MinusAssign = codes "-="
sign_spelling s.StarAssign = codes "*="
sign_spelling s.SlashAssign = codes "/="
sign_spelling s.PercentAssign = codes "%="
sign_spelling s.AndAssign = codes "&="
sign_spelling s.OrAssign = codes "|="
sign_spelling s.XorAssign = codes "^="
sign_spelling s.AndAnd = codes "&&"
sign_spelling s.OrOr = codes "||"
sign_spelling s.ShiftLeft = codes "<<"
sign_spelling s.ShiftRight = codes ">>"
sign_spelling s.Increment = codes "++"
sign_spelling s.Decrement = codes "--"
sign_spelling s.Paste = codes "##"
sign_spelling s.Arrow = codes "->"
sign_spelling s.ShiftLeftAssign = codes "<<="
sign_spelling s.ShiftRightAssign = codes ">>="
sign_spelling s.Ellipsis = codes "..."

-- the bytes of a keyword, a literal or a sign; none for the classes whose tokens are written in several ways
abbrev pub spelling : TokenKind → List ℕ
spelling (k.Keyword word) = keyword_spelling word
spelling (k.Constant name) = constant_spelling name
spelling (k.Sign sign) = sign_spelling sign
spelling kind = []

abbrev pub IsOneOf : List ℕ → List (List ℕ) → Type 0
IsOneOf w [] = ⊥
IsOneOf w (v ∷ vs) = (w ≡ v) ⊎ IsOneOf w vs

-- the keywords of C11 that the dialect does not use
abbrev pub unused_keywords : List (List ℕ)
unused_keywords = codes "_Alignas" ∷ codes "_Alignof" ∷ codes "_Atomic" ∷ codes "_Bool" ∷ codes "_Complex" ∷ codes "_Generic" ∷ codes "_Imaginary" ∷ codes "_Noreturn" ∷ codes "_Static_assert" ∷ codes "_Thread_local" ∷ codes "auto" ∷ codes "break" ∷ codes "continue" ∷ codes "do" ∷ codes "double" ∷ codes "extern" ∷ codes "float" ∷ codes "for" ∷ codes "inline" ∷ codes "long" ∷ codes "register" ∷ codes "restrict" ∷ codes "short" ∷ codes "signed" ∷ codes "union" ∷ codes "unsigned" ∷ codes "volatile" ∷ codes "while" ∷ []
