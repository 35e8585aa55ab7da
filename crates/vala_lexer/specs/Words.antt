-- Which words are keywords.
use Rattle.std.specs.Prelude.{ℕ, Bool, true, false, ◌==◌, if◌then◌else◌, List, codes, slice_index}
use Rattle.std.specs.Str.{bytes_eq}
use Rattle.vala_lexer.specs.declared.token.TokenKind.{TokenKind}
use Rattle.vala_lexer.specs.declared.token.TokenKind.TheVariants as k

abbrev pub keyword_in_a : List ℕ → TokenKind
keyword_in_a w = if bytes_eq w (codes "abstract") then k.Abstract else (if bytes_eq w (codes "as") then k.As else (if bytes_eq w (codes "async") then k.Async else k.Identifier))

abbrev pub keyword_in_b : List ℕ → TokenKind
keyword_in_b w = if bytes_eq w (codes "base") then k.Base else (if bytes_eq w (codes "break") then k.Break else k.Identifier)

abbrev pub keyword_in_c : List ℕ → TokenKind
keyword_in_c w = if bytes_eq w (codes "case") then k.Case else (if bytes_eq w (codes "catch") then k.Catch else (if bytes_eq w (codes "class") then k.Class else (if bytes_eq w (codes "const") then k.Const else (if bytes_eq w (codes "construct") then k.Construct else (if bytes_eq w (codes "continue") then k.Continue else k.Identifier)))))

abbrev pub keyword_in_d : List ℕ → TokenKind
keyword_in_d w = if bytes_eq w (codes "default") then k.Default else (if bytes_eq w (codes "delegate") then k.Delegate else (if bytes_eq w (codes "delete") then k.Delete else (if bytes_eq w (codes "do") then k.Do else k.Identifier)))

abbrev pub keyword_in_e : List ℕ → TokenKind
keyword_in_e w = if bytes_eq w (codes "else") then k.Else else (if bytes_eq w (codes "enum") then k.Enum else (if bytes_eq w (codes "errordomain") then k.Errordomain else (if bytes_eq w (codes "extern") then k.Extern else k.Identifier)))

abbrev pub keyword_in_f : List ℕ → TokenKind
keyword_in_f w = if bytes_eq w (codes "false") then k.False else (if bytes_eq w (codes "finally") then k.Finally else (if bytes_eq w (codes "for") then k.For else (if bytes_eq w (codes "foreach") then k.Foreach else k.Identifier)))

abbrev pub keyword_in_i : List ℕ → TokenKind
keyword_in_i w = if bytes_eq w (codes "if") then k.If else (if bytes_eq w (codes "in") then k.In else (if bytes_eq w (codes "inline") then k.Inline else (if bytes_eq w (codes "interface") then k.Interface else (if bytes_eq w (codes "internal") then k.Internal else (if bytes_eq w (codes "is") then k.Is else k.Identifier)))))

abbrev pub keyword_in_l : List ℕ → TokenKind
keyword_in_l w = if bytes_eq w (codes "lock") then k.Lock else k.Identifier

abbrev pub keyword_in_n : List ℕ → TokenKind
keyword_in_n w = if bytes_eq w (codes "namespace") then k.Namespace else (if bytes_eq w (codes "new") then k.New else (if bytes_eq w (codes "null") then k.Null else k.Identifier))

abbrev pub keyword_in_o : List ℕ → TokenKind
keyword_in_o w = if bytes_eq w (codes "out") then k.Out else (if bytes_eq w (codes "override") then k.Override else (if bytes_eq w (codes "owned") then k.Owned else k.Identifier))

abbrev pub keyword_in_p : List ℕ → TokenKind
keyword_in_p w = if bytes_eq w (codes "params") then k.Params else (if bytes_eq w (codes "private") then k.Private else (if bytes_eq w (codes "protected") then k.Protected else (if bytes_eq w (codes "public") then k.Public else k.Identifier)))

abbrev pub keyword_in_r : List ℕ → TokenKind
keyword_in_r w = if bytes_eq w (codes "ref") then k.Ref else (if bytes_eq w (codes "return") then k.Return else k.Identifier)

abbrev pub keyword_in_s : List ℕ → TokenKind
keyword_in_s w = if bytes_eq w (codes "sealed") then k.Sealed else (if bytes_eq w (codes "signal") then k.Signal else (if bytes_eq w (codes "sizeof") then k.Sizeof else (if bytes_eq w (codes "static") then k.Static else (if bytes_eq w (codes "struct") then k.Struct else (if bytes_eq w (codes "switch") then k.Switch else k.Identifier)))))

abbrev pub keyword_in_t : List ℕ → TokenKind
keyword_in_t w = if bytes_eq w (codes "this") then k.This else (if bytes_eq w (codes "throw") then k.Throw else (if bytes_eq w (codes "throws") then k.Throws else (if bytes_eq w (codes "true") then k.True else (if bytes_eq w (codes "try") then k.Try else (if bytes_eq w (codes "typeof") then k.Typeof else k.Identifier)))))

abbrev pub keyword_in_u : List ℕ → TokenKind
keyword_in_u w = if bytes_eq w (codes "unowned") then k.Unowned else (if bytes_eq w (codes "using") then k.Using else k.Identifier)

abbrev pub keyword_in_v : List ℕ → TokenKind
keyword_in_v w = if bytes_eq w (codes "var") then k.Var else (if bytes_eq w (codes "virtual") then k.Virtual else (if bytes_eq w (codes "void") then k.Void else k.Identifier))

abbrev pub keyword_in_w : List ℕ → TokenKind
keyword_in_w w = if bytes_eq w (codes "weak") then k.Weak else (if bytes_eq w (codes "while") then k.While else (if bytes_eq w (codes "with") then k.With else k.Identifier))

abbrev pub keyword_in_y : List ℕ → TokenKind
keyword_in_y w = if bytes_eq w (codes "yield") then k.Yield else k.Identifier

-- the keyword that a word is, looked for by its first byte; else an identifier
abbrev pub word_starting : ℕ → List ℕ → TokenKind
word_starting b w = if b == 97 then keyword_in_a w else (if b == 98 then keyword_in_b w else (if b == 99 then keyword_in_c w else (if b == 100 then keyword_in_d w else (if b == 101 then keyword_in_e w else (if b == 102 then keyword_in_f w else (if b == 105 then keyword_in_i w else (if b == 108 then keyword_in_l w else (if b == 110 then keyword_in_n w else (if b == 111 then keyword_in_o w else (if b == 112 then keyword_in_p w else (if b == 114 then keyword_in_r w else (if b == 115 then keyword_in_s w else (if b == 116 then keyword_in_t w else (if b == 117 then keyword_in_u w else (if b == 118 then keyword_in_v w else (if b == 119 then keyword_in_w w else (if b == 121 then keyword_in_y w else k.Identifier)))))))))))))))))

abbrev pub word_kind : List ℕ → TokenKind
word_kind w = word_starting (slice_index w 0) w

abbrev pub is_identifier : TokenKind → Bool
is_identifier k.Identifier = true
is_identifier kind = false
