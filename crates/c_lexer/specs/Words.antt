-- Which words are keywords and literals.
use Rattle.std.specs.Prelude.{ℕ, ◌==◌, if◌then◌else◌, List, codes, slice_index}
use Rattle.std.specs.Str.{bytes_eq}
use Rattle.c_lexer.specs.declared.token.Keyword.TheVariants as keyword
use Rattle.c_lexer.specs.declared.token.Constant.TheVariants as constant
use Rattle.c_lexer.specs.declared.token.TokenKind.{TokenKind}
use Rattle.c_lexer.specs.declared.token.TokenKind.TheVariants as k

abbrev pub word_in_a : List ℕ → TokenKind
word_in_a w =
    if bytes_eq w (codes "auto") then k.UnusedKeyword else k.Identifier

abbrev pub word_in_b : List ℕ → TokenKind
word_in_b w =
    if bytes_eq w (codes "break") then k.UnusedKeyword else k.Identifier

abbrev pub word_in_c : List ℕ → TokenKind
word_in_c w =
    if bytes_eq w (codes "case") then k.Keyword keyword.Case
    else (if bytes_eq w (codes "char") then k.Keyword keyword.Char
    else (if bytes_eq w (codes "const") then k.Keyword keyword.Const
    else (if bytes_eq w (codes "continue") then k.UnusedKeyword else k.Identifier)))

abbrev pub word_in_d : List ℕ → TokenKind
word_in_d w =
    if bytes_eq w (codes "default") then k.Keyword keyword.Default
    else (if bytes_eq w (codes "do") then k.UnusedKeyword
    else (if bytes_eq w (codes "double") then k.UnusedKeyword else k.Identifier))

abbrev pub word_in_e : List ℕ → TokenKind
word_in_e w =
    if bytes_eq w (codes "else") then k.Keyword keyword.Else
    else (if bytes_eq w (codes "enum") then k.Keyword keyword.Enum
    else (if bytes_eq w (codes "extern") then k.UnusedKeyword else k.Identifier))

abbrev pub word_in_f : List ℕ → TokenKind
word_in_f w =
    if bytes_eq w (codes "float") then k.UnusedKeyword
    else (if bytes_eq w (codes "for") then k.UnusedKeyword else k.Identifier)

abbrev pub word_in_g : List ℕ → TokenKind
word_in_g w =
    if bytes_eq w (codes "goto") then k.Keyword keyword.Goto else k.Identifier

abbrev pub word_in_i : List ℕ → TokenKind
word_in_i w =
    if bytes_eq w (codes "if") then k.Keyword keyword.If
    else (if bytes_eq w (codes "inline") then k.UnusedKeyword
    else (if bytes_eq w (codes "int") then k.Keyword keyword.Int else k.Identifier))

abbrev pub word_in_l : List ℕ → TokenKind
word_in_l w =
    if bytes_eq w (codes "long") then k.UnusedKeyword else k.Identifier

abbrev pub word_in_r : List ℕ → TokenKind
word_in_r w =
    if bytes_eq w (codes "register") then k.UnusedKeyword
    else (if bytes_eq w (codes "restrict") then k.UnusedKeyword
    else (if bytes_eq w (codes "return") then k.Keyword keyword.Return else k.Identifier))

abbrev pub word_in_s : List ℕ → TokenKind
word_in_s w =
    if bytes_eq w (codes "short") then k.UnusedKeyword
    else (if bytes_eq w (codes "signed") then k.UnusedKeyword
    else (if bytes_eq w (codes "sizeof") then k.Keyword keyword.Sizeof
    else (if bytes_eq w (codes "static") then k.Keyword keyword.Static
    else (if bytes_eq w (codes "struct") then k.Keyword keyword.Struct
    else (if bytes_eq w (codes "switch") then k.Keyword keyword.Switch else k.Identifier)))))

abbrev pub word_in_t : List ℕ → TokenKind
word_in_t w =
    if bytes_eq w (codes "typedef") then k.Keyword keyword.Typedef else k.Identifier

abbrev pub word_in_u : List ℕ → TokenKind
word_in_u w =
    if bytes_eq w (codes "union") then k.UnusedKeyword
    else (if bytes_eq w (codes "unsigned") then k.UnusedKeyword else k.Identifier)

abbrev pub word_in_v : List ℕ → TokenKind
word_in_v w =
    if bytes_eq w (codes "void") then k.Keyword keyword.Void
    else (if bytes_eq w (codes "volatile") then k.UnusedKeyword else k.Identifier)

abbrev pub word_in_w : List ℕ → TokenKind
word_in_w w =
    if bytes_eq w (codes "while") then k.UnusedKeyword else k.Identifier

abbrev pub word_in_capital_f : List ℕ → TokenKind
word_in_capital_f w =
    if bytes_eq w (codes "FALSE") then k.Constant constant.False else k.Identifier

abbrev pub word_in_capital_n : List ℕ → TokenKind
word_in_capital_n w =
    if bytes_eq w (codes "NULL") then k.Constant constant.Null else k.Identifier

abbrev pub word_in_capital_t : List ℕ → TokenKind
word_in_capital_t w =
    if bytes_eq w (codes "TRUE") then k.Constant constant.True else k.Identifier

abbrev pub word_in_underscore : List ℕ → TokenKind
word_in_underscore w =
    if bytes_eq w (codes "_Alignas") then k.UnusedKeyword
    else (if bytes_eq w (codes "_Alignof") then k.UnusedKeyword
    else (if bytes_eq w (codes "_Atomic") then k.UnusedKeyword
    else (if bytes_eq w (codes "_Bool") then k.UnusedKeyword
    else (if bytes_eq w (codes "_Complex") then k.UnusedKeyword
    else (if bytes_eq w (codes "_Generic") then k.UnusedKeyword
    else (if bytes_eq w (codes "_Imaginary") then k.UnusedKeyword
    else (if bytes_eq w (codes "_Noreturn") then k.UnusedKeyword
    else (if bytes_eq w (codes "_Static_assert") then k.UnusedKeyword
    else (if bytes_eq w (codes "_Thread_local") then k.UnusedKeyword else k.Identifier)))))))))

abbrev pub word_in_g_c : List ℕ → TokenKind
word_in_g_c w =
    if bytes_eq w (codes "G_CONNECT_AFTER") then k.Constant constant.ConnectAfter else k.Identifier

abbrev pub word_in_g_p : List ℕ → TokenKind
word_in_g_p w =
    if bytes_eq w (codes "G_PARAM_CONSTRUCT") then k.Constant constant.ParamConstruct
    else (if bytes_eq w (codes "G_PARAM_READWRITE") then k.Constant constant.ParamReadwrite else k.Identifier)

abbrev pub word_in_g_s : List ℕ → TokenKind
word_in_g_s w =
    if bytes_eq w (codes "G_SIGNAL_MATCH_DATA") then k.Constant constant.SignalMatchData
    else (if bytes_eq w (codes "G_SIGNAL_MATCH_FUNC") then k.Constant constant.SignalMatchFunc
    else (if bytes_eq w (codes "G_SIGNAL_MATCH_ID") then k.Constant constant.SignalMatchId
    else (if bytes_eq w (codes "G_SIGNAL_RUN_LAST") then k.Constant constant.SignalRunLast
    else (if bytes_eq w (codes "G_STRUCT_OFFSET") then k.Keyword keyword.StructOffset else k.Identifier))))

abbrev pub word_in_g_t : List ℕ → TokenKind
word_in_g_t w =
    if bytes_eq w (codes "G_TYPE_BOOLEAN") then k.Constant constant.TypeBoolean
    else (if bytes_eq w (codes "G_TYPE_CHAR") then k.Constant constant.TypeChar
    else (if bytes_eq w (codes "G_TYPE_INT") then k.Constant constant.TypeInt
    else (if bytes_eq w (codes "G_TYPE_INT64") then k.Constant constant.TypeInt64
    else (if bytes_eq w (codes "G_TYPE_INTERFACE") then k.Constant constant.TypeInterface
    else (if bytes_eq w (codes "G_TYPE_LONG") then k.Constant constant.TypeLong
    else (if bytes_eq w (codes "G_TYPE_NONE") then k.Constant constant.TypeNone
    else (if bytes_eq w (codes "G_TYPE_OBJECT") then k.Constant constant.TypeObject
    else (if bytes_eq w (codes "G_TYPE_STRING") then k.Constant constant.TypeString
    else (if bytes_eq w (codes "G_TYPE_UCHAR") then k.Constant constant.TypeUchar
    else (if bytes_eq w (codes "G_TYPE_UINT") then k.Constant constant.TypeUint
    else (if bytes_eq w (codes "G_TYPE_UINT64") then k.Constant constant.TypeUint64
    else (if bytes_eq w (codes "G_TYPE_ULONG") then k.Constant constant.TypeUlong else k.Identifier))))))))))))

-- what begins with `G_`, by its third byte
abbrev pub word_behind_g : ℕ → List ℕ → TokenKind
word_behind_g b w =
    if b == 67 then word_in_g_c w
    else (if b == 80 then word_in_g_p w
    else (if b == 83 then word_in_g_s w
    else (if b == 84 then word_in_g_t w else k.Identifier)))

-- the keyword or literal that a word is, looked for by its first byte; else an identifier
abbrev pub word_starting : ℕ → List ℕ → TokenKind
word_starting b w =
    if b == 97 then word_in_a w
    else (if b == 98 then word_in_b w
    else (if b == 99 then word_in_c w
    else (if b == 100 then word_in_d w
    else (if b == 101 then word_in_e w
    else (if b == 102 then word_in_f w
    else (if b == 103 then word_in_g w
    else (if b == 105 then word_in_i w
    else (if b == 108 then word_in_l w
    else (if b == 114 then word_in_r w
    else (if b == 115 then word_in_s w
    else (if b == 116 then word_in_t w
    else (if b == 117 then word_in_u w
    else (if b == 118 then word_in_v w
    else (if b == 119 then word_in_w w
    else (if b == 70 then word_in_capital_f w
    else (if b == 78 then word_in_capital_n w
    else (if b == 84 then word_in_capital_t w
    else (if b == 95 then word_in_underscore w
    else (if b == 71 then word_behind_g (slice_index w 2) w else k.Identifier)))))))))))))))))))

abbrev pub word_kind : List ℕ → TokenKind
word_kind w = word_starting (slice_index w 0) w
