-- Trees from the tokens that stand in a text.
use Rattle.std.specs.Prelude.{ℕ, suc, ◌||◌, Bool, true, false, List, [], ◌∷◌, ◌++◌, Option, Some, None}
use Rattle.c_lexer.specs.declared.token.TokenKind.TheVariants as k
use Rattle.c_lexer.specs.declared.token.Keyword.TheVariants as keyword
use Rattle.c_lexer.specs.declared.token.Sign.TheVariants as sign
use Rattle.c_tree.specs.declared.names.Base.{Base}
use Rattle.c_tree.specs.declared.names.Base.TheVariants as base
use Rattle.c_tree.specs.declared.names.Name.{Name}
use Rattle.c_tree.specs.declared.names.CType.{CType}
use Rattle.c_tree.specs.declared.operators.BinaryOperator.{BinaryOperator}
use Rattle.c_tree.specs.declared.operators.BinaryOperator.TheVariants as op
use Rattle.c_tree.specs.declared.operators.Prefix.{Prefix}
use Rattle.c_tree.specs.declared.operators.Prefix.TheVariants as prefix
use Rattle.c_tree.specs.declared.operators.PrefixOperator.{PrefixOperator}
use Rattle.c_tree.specs.declared.code.Expr.{Expr}
use Rattle.c_tree.specs.declared.code.Shape.{Shape}
use Rattle.c_tree.specs.declared.code.Shape.TheVariants as shape
use Rattle.c_tree.specs.declared.code.Suffix.{Suffix}
use Rattle.c_tree.specs.declared.code.Suffix.TheVariants as suffix
use Rattle.c_lexer.specs.declared.token.NumberType.TheVariants as number_type
use Rattle.c_tree.specs.declared.names.Number.{Number}
use Rattle.c_tree.specs.declared.names.SignedNumber.{SignedNumber}
use Rattle.c_tree.specs.declared.code.Local.{Local}
use Rattle.c_tree.specs.declared.code.Callee.TheVariants as callee
use Rattle.c_tree.specs.declared.code.Call.{Call}
use Rattle.c_tree.specs.declared.code.Case.{Case}
use Rattle.c_tree.specs.declared.unit.Include.{Include}
use Rattle.c_tree.specs.declared.unit.Include.TheVariants as include
use Rattle.c_tree.specs.declared.unit.Parameter.{Parameter}
use Rattle.c_tree.specs.declared.unit.Signature.{Signature}
use Rattle.c_tree.specs.declared.code.Stmt.{Stmt}
use Rattle.c_tree.specs.declared.code.Stmt.TheVariants as stmt
use Rattle.c_tree.specs.Words.{Terminal, Of, Header, Token, Word, at, join, extent}
use Rattle.c_tree.specs.Names.{Names, Role, FunctionName, MemberName, role_of}
use Rattle.c_tree.specs.Types.{is_void_base}
use Rattle.c_tree.specs.Values.{binary_of, prefix_of}
use Rattle.c_tree.specs.Make.{name_at, span_of, expr, prefixed}
use Rattle.c_grammar.specs.Parts.{Starred}

-- 1. Types

-- whether a word has a token
abbrev pub is_some_word : Word → Bool
is_some_word [] = false
is_some_word (t ∷ w) = true

-- the base of a type, by its token
abbrev pub base_in : Terminal → Name → Base
base_in (Of (k.Keyword keyword.Void)) n = base.Void
base_in (Of (k.Keyword keyword.Int)) n = base.Int
base_in (Of (k.Keyword keyword.Char)) n = base.Char
base_in t n = base.Named n

-- the base that a token is
abbrev pub base_of : Token → Base
base_of t = base_in t.terminal (name_at t)

-- whether it is `void`
abbrev pub is_void : Token → Bool
is_void t = is_void_base (base_of t)

-- the type of a base with what stands in front of it and behind
abbrev pub type_of : Word → Token → Word → Starred → CType
type_of u t v s = record { base = base_of t; is_const = is_some_word u || is_some_word v; stars = s.stars; span = extent (u ++ t ∷ v ++ s.word) }

-- no stars
abbrev pub no_stars : Starred
no_stars = record { word = []; stars = 0 }

-- a star, what stands behind it, and those behind that
abbrev pub one_star : Token → Word → Starred → Starred
one_star t u s = record { word = t ∷ u ++ s.word; stars = suc s.stars }

-- 2. Operators

-- an operator that is there, or any
abbrev pub known_operator : Option BinaryOperator → BinaryOperator
known_operator None = op.Or
known_operator (Some o) = o

-- the operator that a token is between operands
abbrev pub operator_in : Terminal → BinaryOperator
operator_in (Of (k.Sign s)) = known_operator (binary_of s)
operator_in t = op.Or

-- an operator that is there, or any
abbrev pub known_prefix : Option Prefix → Prefix
known_prefix None = prefix.Plus
known_prefix (Some p) = p

-- the operator that a token is before an operand
abbrev pub prefix_in : Terminal → Prefix
prefix_in (Of (k.Sign s)) = known_prefix (prefix_of false s)
prefix_in t = prefix.Plus

-- the same with its place
abbrev pub sign_prefix : Token → PrefixOperator
sign_prefix t = record { prefix = prefix_in t.terminal; span = at t }

-- a cast, from `(` to `)`
abbrev pub cast_prefix : Token → CType → Token → PrefixOperator
cast_prefix t c s = record { prefix = prefix.Cast c; span = join (at t) (at s) }

-- an operand with the operators before it
abbrev pub with_prefixes : List PrefixOperator × Expr → Expr
with_prefixes r = prefixed r.0 r.1

-- one operator more
abbrev pub one_prefix : PrefixOperator → List PrefixOperator × Expr → List PrefixOperator × Expr
one_prefix p r = (p ∷ r.0, r.1)

-- 3. Operands

-- what a name of a role is as a value
abbrev pub name_shape : Role → Name → Shape
name_shape FunctionName n = shape.Function n
name_shape MemberName n = shape.Member n
name_shape r n = shape.Variable n

-- a name as a value
abbrev pub name_value : Names → Token → Expr
name_value ns t = expr (name_shape (role_of ns t.bytes) (name_at t)) (at t)

-- a number, a character, a text or a capital name
abbrev pub literal_shape : Terminal → List ℕ → Shape
literal_shape (Of (k.Number n y)) w = shape.Number (record { value = n; kind = y })
literal_shape (Of (k.Character b)) w = shape.Character b
literal_shape (Of (k.Constant c)) w = shape.Constant c
literal_shape t w = shape.Text w

-- the same as a value
abbrev pub literal : Token → Expr
literal t = expr (literal_shape t.terminal t.bytes) (at t)

-- `sizeof` up to its `)`
abbrev pub size_of : Token → CType → Token → Expr
size_of t c s = expr (shape.SizeOf c (join (at t) (at s))) (join (at t) (at s))

-- `G_STRUCT_OFFSET` up to its `)`
abbrev pub offset : Token → CType → Token → Token → Expr
offset t c n s = expr (shape.Offset c (name_at n) (join (at t) (at s))) (join (at t) (at s))

-- `.` and a name, or `->` and a name
abbrev pub field_suffix : Terminal → Name → Suffix
field_suffix (Of (k.Sign sign.Dot)) n = suffix.Field n
field_suffix t n = suffix.Arrow n

-- `[` and a value up to `]`
abbrev pub index_suffix : Token → Expr → Token → Suffix
index_suffix t i s = suffix.Index i (join (at t) (at s))

-- 4. Statements

-- a number by its token
abbrev pub number_in : Terminal → Number
number_in (Of (k.Number n y)) = record { value = n; kind = y }
number_in t = record { value = 0; kind = number_type.Gint }

-- with `-` before it or not
abbrev pub signed : Bool → Token → SignedNumber
signed minus t = record { is_negative = minus; number = number_in t.terminal }

-- a declaration
abbrev pub local : CType → Token → Local
local c n = record { declared = c; name = name_at n }

-- the call of a value, up to `)`
abbrev pub value_call : Expr → List Expr → Token → Call
value_call a xs s = record { callee = callee.Value a; type_argument = None; arguments = xs; span = join (span_of a) (at s) }

-- the call of a function of the library, up to `)`
abbrev pub row_call : Token → Option CType → List Expr → Token → Call
row_call n c xs s = record { callee = callee.Row (name_at n); type_argument = c; arguments = xs; span = join (at n) (at s) }

-- a call, or the same whose result is stored to a place
abbrev pub call_stmt : Option Expr → Call → Stmt
call_stmt None c = stmt.Call c
call_stmt (Some b) c = stmt.Store b c

-- `case n: goto L;`
abbrev pub one_case : SignedNumber → Token → Case
one_case x n = record { number = x; label = name_at n }

-- 5. Items

-- the letters behind the first
abbrev pub behind_first : List ℕ → List ℕ
behind_first [] = []
behind_first (b ∷ w) = w

-- the file that a token names
abbrev pub file_in : Terminal → Include
file_in (Header f) = f
file_in t = include.Glib

-- a parameter with a name, and one without
abbrev pub named_parameter : CType → Token → Parameter
named_parameter c n = record { declared = c; name = Some (name_at n) }

-- the same without a name
abbrev pub unnamed_parameter : CType → Parameter
unnamed_parameter c = record { declared = c; name = None }

-- two stars with `const` behind each
abbrev pub two_stars : Token → Word → Token → Word → Starred
two_stars p u q w = one_star p u (one_star q w no_stars)

-- what a function takes and gives, from a place up to `)`
abbrev pub signature : Bool → CType → Token → List Parameter → ℕ → Token → Signature
signature b c n ps from s = record { is_static = b; result = c; name = name_at n; parameters = ps; span = record { start = from; «end» = s.«end» } }

-- the name of a struct by its tag
abbrev pub struct_name : Token → Name
struct_name g = record { text = behind_first g.bytes; span = at g }
