-- The grammar of values, one case for each production. Chains, prefixes, suffixes and choices are lists.
use Rattle.std.specs.Prelude.{◌≡◌, ℕ, not, ◌||◌, Bool, true, false, List, [], ◌∷◌, ◌++◌, Option, Some, None}
use Rattle.c_lexer.specs.declared.token.NumberType.{NumberType}
use Rattle.c_lexer.specs.declared.token.Constant.{Constant}
use Rattle.c_lexer.specs.declared.token.TokenKind.TheVariants as k
use Rattle.c_lexer.specs.declared.token.Keyword.TheVariants as keyword
use Rattle.c_lexer.specs.declared.token.Sign.{Sign}
use Rattle.c_lexer.specs.declared.token.Sign.TheVariants as sign
use Rattle.c_tree.specs.declared.names.CType.{CType}
use Rattle.c_tree.specs.declared.operators.BinaryOperator.{BinaryOperator}
use Rattle.c_tree.specs.declared.operators.BinaryOperator.TheVariants as op
use Rattle.c_tree.specs.declared.operators.Level.{Level}
use Rattle.c_tree.specs.declared.operators.Level.TheVariants as level
use Rattle.c_tree.specs.declared.operators.Prefix.{Prefix}
use Rattle.c_tree.specs.declared.operators.Prefix.TheVariants as prefix
use Rattle.c_tree.specs.declared.operators.PrefixOperator.{PrefixOperator}
use Rattle.c_tree.specs.declared.code.Expr.{Expr}
use Rattle.c_tree.specs.declared.code.Shape.{out-Shape}
use Rattle.c_tree.specs.declared.code.Shape.TheVariants as shape
use Rattle.c_tree.specs.declared.code.Shape.TheOpen.{Shape-F, Suffix-F}
use Rattle.c_tree.specs.declared.code.Link.{Link}
use Rattle.c_tree.specs.declared.code.Choice.{Choice}
use Rattle.c_tree.specs.declared.code.Suffix.{Suffix, out-Suffix}
use Rattle.c_tree.specs.declared.code.Suffix.TheVariants as suffix
use Rattle.c_tree.specs.Words.{Of, Token, Word, IsSign, IsWord, IsName, at, join}
use Rattle.c_tree.specs.Kinds.{level_of}
use Rattle.c_tree.specs.Names.{Names, Role, VariableName, FunctionName, MemberName, Unknown, role_of}
use Rattle.c_tree.specs.Types.{ReadsType, is_object}
use Rattle.c_tree.specs.Make.{name_at, expr, shape_of, bracketed, link, choice, chained, prefixed, suffixed, conditional}

-- 1. Signs of operators

-- the operator that a sign is between two operands
abbrev pub binary_of : Sign → Option BinaryOperator
binary_of sign.OrOr = Some op.Or
binary_of sign.AndAnd = Some op.And
binary_of sign.Bar = Some op.BitOr
binary_of sign.Caret = Some op.BitXor
binary_of sign.Ampersand = Some op.BitAnd
binary_of sign.Equal = Some op.Equal
binary_of sign.NotEqual = Some op.Unequal
binary_of sign.Less = Some op.Less
binary_of sign.Greater = Some op.Greater
binary_of sign.LessEqual = Some op.AtMost
binary_of sign.GreaterEqual = Some op.AtLeast
binary_of sign.ShiftLeft = Some op.ShiftLeft
binary_of sign.ShiftRight = Some op.ShiftRight
binary_of sign.Plus = Some op.Add
binary_of sign.Minus = Some op.Subtract
binary_of sign.Star = Some op.Multiply
binary_of sign.Slash = Some op.Divide
binary_of sign.Percent = Some op.Remainder
binary_of s = None

-- a constant has no `*` and no `&` before its operands
abbrev pub prefix_of : Bool → Sign → Option Prefix
prefix_of constant sign.Plus = Some prefix.Plus
prefix_of constant sign.Minus = Some prefix.Minus
prefix_of constant sign.Not = Some prefix.Not
prefix_of constant sign.Tilde = Some prefix.Complement
prefix_of false sign.Star = Some prefix.Deref
prefix_of false sign.Ampersand = Some prefix.AddressOf
prefix_of constant s = None

-- 2. Places: a variable, `*p`, `p->f`, `x.f` and `p[i]`

-- whether an operator is `*`
abbrev pub is_deref : Prefix → Bool
is_deref prefix.Deref = true
is_deref p = false

-- whether the outermost operator is `*`
abbrev pub begins_with_deref : List PrefixOperator → Bool
begins_with_deref [] = false
begins_with_deref (p ∷ ps) = is_deref p.prefix

-- whether one level is a place
abbrev pub is_place_layer : {A B C D E : Type 0} → Shape-F A B C D E → Bool
is_place_layer (Shape-F.Variable x) = true
is_place_layer (Shape-F.Prefix ps a) = begins_with_deref ps
is_place_layer (Shape-F.Postfix a xs) = true
is_place_layer s = false

-- whether a value is a place
abbrev pub is_place : Expr → Bool
is_place e = is_place_layer (out-Shape (shape_of e))

-- `&` stands before places alone
abbrev pub may_precede : Prefix → Expr → Bool
may_precede prefix.AddressOf a = is_place a
may_precede p a = true

-- whether a suffix begins with `.`
abbrev pub is_dot_layer : {A B C D E : Type 0} → Suffix-F A B C D E → Bool
is_dot_layer (Suffix-F.Field x) = true
is_dot_layer x = false

-- and `.` behind places alone
abbrev pub may_follow : Expr → List Suffix → Bool
may_follow a [] = true
may_follow a (x ∷ xs) = not (is_dot_layer (out-Suffix x)) || is_place a

-- 3. Which names are values

-- A variable, or a name that nothing declares. A constant names no variable.
abbrev pub is_variable : Bool → Role → Bool
is_variable false VariableName = true
is_variable constant Unknown = true
is_variable constant r = false

-- 4. The grammar

-- what is read
pub data Part : Type 0 where
  Value : Part
  -- `a ? b : c ? d : e`
  Choosing : Part
  -- a chain of a level, or one operand of it
  Chained : Level → Part
  -- what follows its first operand
  Links : Level → Part
  -- an operand of a level
  Operand : Level → Part
  Prefixed : Part
  Postfixed : Part
  Suffixes : Part
  Primary : Part
  -- the values between the brackets of a call, and those behind the first
  Arguments : Part
  MoreArguments : Part

-- what it is read as
abbrev pub tree_of : Part → Type 0
tree_of Choosing = List Choice × Expr
tree_of (Links l) = List Link
tree_of Prefixed = List PrefixOperator × Expr
tree_of Suffixes = List Suffix
tree_of Arguments = List Expr
tree_of MoreArguments = List Expr
tree_of p = Expr

-- the next level that binds more tightly
abbrev pub tighter : Level → Option Level
tighter level.Or = Some level.And
tighter level.And = Some level.BitOr
tighter level.BitOr = Some level.BitXor
tighter level.BitXor = Some level.BitAnd
tighter level.BitAnd = Some level.Equality
tighter level.Equality = Some level.Relation
tighter level.Relation = Some level.Shift
tighter level.Shift = Some level.Sum
tighter level.Sum = Some level.Product
tighter level.Product = None

-- a part of a value among names, as a constant or not
pub data Reads (ns : Names) (constant : Bool) : (p : Part) → Word → tree_of p → Type 0 where
  value : {w : Word} {cs : List Choice} {e : Expr} → Reads ns constant Choosing w (cs, e) → Reads ns constant Value w (conditional cs e)
  last_choice : {w : Word} {a : Expr} → Reads ns constant (Chained level.Or) w a → Reads ns constant Choosing w ([], a)
  more_choices : (t s : Token) → {u v w : Word} {a b e : Expr} {cs : List Choice} → Reads ns constant (Chained level.Or) u a → IsSign t sign.Question → Reads ns constant Value v b → IsSign s sign.Colon
      → Reads ns constant Choosing w (cs, e) → Reads ns constant Choosing (u ++ t ∷ v ++ s ∷ w) (choice a b ∷ cs, e)
  chain : {l : Level} {u v : Word} {a : Expr} {ls : List Link} → Reads ns constant (Operand l) u a → Reads ns constant (Links l) v ls → Reads ns constant (Chained l) (u ++ v) (chained a ls)
  no_link : {l : Level} → Reads ns constant (Links l) [] []
  more_links : {t : Token} {s : Sign} {o : BinaryOperator} {l : Level} {u v : Word} {b : Expr} {ls : List Link} → IsSign t s → binary_of s ≡ Some o → level_of o ≡ l
      → Reads ns constant (Operand l) u b → Reads ns constant (Links l) v ls → Reads ns constant (Links l) (t ∷ u ++ v) (link o b ∷ ls)
  operand : {l m : Level} {w : Word} {a : Expr} → tighter l ≡ Some m → Reads ns constant (Chained m) w a → Reads ns constant (Operand l) w a
  tightest : {w : Word} {ps : List PrefixOperator} {a : Expr} → Reads ns constant Prefixed w (ps, a) → Reads ns constant (Operand level.Product) w (prefixed ps a)
  no_prefix : {w : Word} {a : Expr} → Reads ns constant Postfixed w a → Reads ns constant Prefixed w ([], a)
  more_prefixes : {t : Token} {s : Sign} {p : Prefix} {w : Word} {ps : List PrefixOperator} {a : Expr} → IsSign t s → prefix_of constant s ≡ Some p → Reads ns constant Prefixed w (ps, a)
      → may_precede p (prefixed ps a) ≡ true → Reads ns constant Prefixed (t ∷ w) (record { prefix = p; span = at t } ∷ ps, a)
  cast : {t : Token} (s : Token) → {u w : Word} {c : CType} {ps : List PrefixOperator} {a : Expr} → IsSign t sign.OpenParen → ReadsType ns false u c → is_object c ≡ true → IsSign s sign.CloseParen
      → Reads ns constant Prefixed w (ps, a) → Reads ns constant Prefixed (t ∷ u ++ s ∷ w) (record { prefix = prefix.Cast c; span = join (at t) (at s) } ∷ ps, a)
  postfixed : {u v : Word} {a : Expr} {xs : List Suffix} → Reads ns constant Primary u a → Reads ns constant Suffixes v xs → may_follow a xs ≡ true → Reads ns constant Postfixed (u ++ v) (suffixed a xs)
  no_suffix : Reads ns constant Suffixes [] []
  field : {t n : Token} {w : Word} {xs : List Suffix} → constant ≡ false → IsSign t sign.Dot → IsName n → Reads ns constant Suffixes w xs → Reads ns constant Suffixes (t ∷ n ∷ w) (suffix.Field (name_at n) ∷ xs)
  arrow : {t n : Token} {w : Word} {xs : List Suffix} → constant ≡ false → IsSign t sign.Arrow → IsName n → Reads ns constant Suffixes w xs → Reads ns constant Suffixes (t ∷ n ∷ w) (suffix.Arrow (name_at n) ∷ xs)
  index : {t : Token} (s : Token) → {v w : Word} {i : Expr} {xs : List Suffix} → constant ≡ false → IsSign t sign.OpenBracket → Reads ns constant Value v i → IsSign s sign.CloseBracket → Reads ns constant Suffixes w xs
      → Reads ns constant Suffixes (t ∷ v ++ s ∷ w) (suffix.Index i (join (at t) (at s)) ∷ xs)
  number : {t : Token} {n : ℕ} {y : NumberType} → t.terminal ≡ Of (k.Number n y) → Reads ns constant Primary (t ∷ []) (expr (shape.Number (record { value = n; kind = y })) (at t))
  character : {t : Token} {b : ℕ} → t.terminal ≡ Of (k.Character b) → Reads ns constant Primary (t ∷ []) (expr (shape.Character b) (at t))
  text : {t : Token} → t.terminal ≡ Of k.Text → Reads ns constant Primary (t ∷ []) (expr (shape.Text t.bytes) (at t))
  constant_name : {t : Token} {c : Constant} → t.terminal ≡ Of (k.Constant c) → Reads ns constant Primary (t ∷ []) (expr (shape.Constant c) (at t))
  variable : {t : Token} → IsName t → is_variable constant (role_of ns t.bytes) ≡ true → Reads ns constant Primary (t ∷ []) (expr (shape.Variable (name_at t)) (at t))
  function : {t : Token} → IsName t → role_of ns t.bytes ≡ FunctionName → Reads ns constant Primary (t ∷ []) (expr (shape.Function (name_at t)) (at t))
  member : {t : Token} → IsName t → role_of ns t.bytes ≡ MemberName → Reads ns constant Primary (t ∷ []) (expr (shape.Member (name_at t)) (at t))
  size_of : {t r : Token} (s : Token) → {w : Word} {c : CType} → IsWord t keyword.Sizeof → IsSign r sign.OpenParen → ReadsType ns true w c → is_object c ≡ true → IsSign s sign.CloseParen
      → Reads ns constant Primary (t ∷ r ∷ w ++ s ∷ []) (expr (shape.SizeOf c (join (at t) (at s))) (join (at t) (at s)))
  offset : {t r : Token} (m n s : Token) → {w : Word} {c : CType} → IsWord t keyword.StructOffset → IsSign r sign.OpenParen → ReadsType ns true w c → is_object c ≡ true → IsSign m sign.Comma → IsName n → IsSign s sign.CloseParen
      → Reads ns constant Primary (t ∷ r ∷ w ++ m ∷ n ∷ s ∷ []) (expr (shape.Offset c (name_at n) (join (at t) (at s))) (join (at t) (at s)))
  brackets : {t : Token} (s : Token) → {w : Word} {a : Expr} → IsSign t sign.OpenParen → Reads ns constant Value w a → IsSign s sign.CloseParen → Reads ns constant Primary (t ∷ w ++ s ∷ []) (bracketed (join (at t) (at s)) a)
  no_argument : Reads ns constant Arguments [] []
  arguments : {u v : Word} {a : Expr} {xs : List Expr} → Reads ns constant Value u a → Reads ns constant MoreArguments v xs → Reads ns constant Arguments (u ++ v) (a ∷ xs)
  no_more : Reads ns constant MoreArguments [] []
  more_arguments : {t : Token} {u v : Word} {a : Expr} {xs : List Expr} → IsSign t sign.Comma → Reads ns constant Value u a → Reads ns constant MoreArguments v xs → Reads ns constant MoreArguments (t ∷ u ++ v) (a ∷ xs)
