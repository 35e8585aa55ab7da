-- How types and values are written.
use Rattle.std.specs.Prelude.{ℕ, zero, suc, Bool, true, false, if◌then◌else◌, List, [], ◌∷◌, ◌++◌}
use Rattle.c_lexer.specs.declared.token.Keyword.TheVariants as keyword
use Rattle.c_lexer.specs.declared.token.Sign.{Sign}
use Rattle.c_lexer.specs.declared.token.Sign.TheVariants as sign
use Rattle.c_tree.specs.declared.names.Base.{Base}
use Rattle.c_tree.specs.declared.names.Base.TheVariants as base
use Rattle.c_tree.specs.declared.names.CType.{CType}
use Rattle.c_tree.specs.declared.names.Name as tree
use Rattle.c_tree.specs.declared.operators.BinaryOperator.{BinaryOperator}
use Rattle.c_tree.specs.declared.operators.BinaryOperator.TheVariants as op
use Rattle.c_tree.specs.declared.operators.Level.{Level}
use Rattle.c_tree.specs.declared.operators.Level.TheVariants as level
use Rattle.c_tree.specs.declared.operators.Prefix.{Prefix}
use Rattle.c_tree.specs.declared.operators.Prefix.TheVariants as prefix
use Rattle.c_tree.specs.declared.operators.PrefixOperator.{PrefixOperator}
use Rattle.c_tree.specs.declared.code.Expr.{Expr}
use Rattle.c_tree.specs.declared.code.Shape.{Shape}
use Rattle.c_tree.specs.declared.code.Shape.TheOpen.{Shape-F, Suffix-F, Choice-F, Expr-F, Link-F}
use Rattle.c_tree.specs.declared.code.Shape.TheFolds.{fold-Expr, fold-Shape, fold-Suffix, fold-Choice, fold-Link}
use Rattle.c_tree.specs.declared.code.Suffix.{Suffix}
use Rattle.c_tree.specs.declared.code.Choice.{Choice}
use Rattle.c_tree.specs.declared.code.Link.{Link}
use Rattle.c_tree.specs.Kinds.{level_of}
use Rattle.c_printer.specs.declared.grade.Brackets.{Brackets}
use Rattle.c_printer.specs.declared.grade.Grade.{Grade}
use Rattle.c_printer.specs.declared.grade.Grade.TheVariants.{Choosing, Chaining, Prefixing, Suffixing, Single}
use Rattle.c_printer.specs.declared.grade.Place.{Place}
use Rattle.c_printer.specs.declared.grade.Place.TheVariants.{Anywhere, Chosen, Operand, BehindPrefix, BeforeSuffix}
use Rattle.c_printer.specs.Grades.{stands}
use Rattle.c_printer.specs.Marks.{Marks, Name, AKeyword, AConstant, Number, Chars, Character, ASign, Space, in_row}

-- 1. Types

abbrev pub const_marks : Bool → Marks
const_marks true = AKeyword keyword.Const ∷ Space ∷ []
const_marks false = []

abbrev pub base_marks : Base → Marks
base_marks base.Void = AKeyword keyword.Void ∷ []
base_marks base.Int = AKeyword keyword.Int ∷ []
base_marks base.Char = AKeyword keyword.Char ∷ []
base_marks (base.Named x) = Name x.text ∷ []

-- any number of `*`
abbrev pub stars : ℕ → Marks
stars zero = []
stars (suc n) = ASign sign.Star ∷ stars n

-- a space in front of a `*`
abbrev pub star_marks : ℕ → Marks
star_marks zero = []
star_marks (suc n) = Space ∷ stars (suc n)

-- `const gchar **`
abbrev pub type_marks : CType → Marks
type_marks c = const_marks c.is_const ++ base_marks c.base ++ star_marks c.stars

-- 2. Operators

abbrev pub sign_of : BinaryOperator → Sign
sign_of op.Or = sign.OrOr
sign_of op.And = sign.AndAnd
sign_of op.BitOr = sign.Bar
sign_of op.BitXor = sign.Caret
sign_of op.BitAnd = sign.Ampersand
sign_of op.Equal = sign.Equal
sign_of op.Unequal = sign.NotEqual
sign_of op.Less = sign.Less
sign_of op.Greater = sign.Greater
sign_of op.AtMost = sign.LessEqual
sign_of op.AtLeast = sign.GreaterEqual
sign_of op.ShiftLeft = sign.ShiftLeft
sign_of op.ShiftRight = sign.ShiftRight
sign_of op.Add = sign.Plus
sign_of op.Subtract = sign.Minus
sign_of op.Multiply = sign.Star
sign_of op.Divide = sign.Slash
sign_of op.Remainder = sign.Percent

abbrev pub in_brackets : Marks → Marks
in_brackets ms = ASign sign.OpenParen ∷ ms ++ ASign sign.CloseParen ∷ []

-- `(gchar *) `
abbrev pub cast_marks : CType → Marks
cast_marks c = in_brackets (type_marks c) ++ Space ∷ []

abbrev pub prefix_marks : Prefix → Marks
prefix_marks prefix.Plus = ASign sign.Plus ∷ []
prefix_marks prefix.Minus = ASign sign.Minus ∷ []
prefix_marks prefix.Not = ASign sign.Not ∷ []
prefix_marks prefix.Complement = ASign sign.Tilde ∷ []
prefix_marks prefix.Deref = ASign sign.Star ∷ []
prefix_marks prefix.AddressOf = ASign sign.Ampersand ∷ []
prefix_marks (prefix.Cast c) = cast_marks c

abbrev pub prefixes_marks : List PrefixOperator → Marks
prefixes_marks [] = []
prefixes_marks (p ∷ ps) = prefix_marks p.prefix ++ prefixes_marks ps

-- 3. Values

-- a value as it is written outside of brackets
pub record Printed : Type 0 where
  pub grade : Grade
  pub marks : Marks

-- an operator and its operand, as they are written
pub record PrintedLink : Type 0 where
  pub level : Level
  pub marks : Marks

-- a value at a place
abbrev pub placed : Brackets → Place → Printed → Marks
placed style p a = if stands style p a.grade then a.marks else in_brackets a.marks

abbrev pub is_not : Prefix → Bool
is_not prefix.Not = true
is_not p = false

abbrev pub begins_with_not : List PrefixOperator → Bool
begins_with_not [] = false
begins_with_not (p ∷ ps) = is_not p.prefix

abbrev pub single : Marks → Printed
single ms = record { grade = Single; marks = ms }

abbrev pub link_marks : List PrintedLink → Marks
link_marks [] = []
link_marks (l ∷ ls) = l.marks ++ link_marks ls

-- the level of a chain; each has a link
abbrev pub chain_level : List PrintedLink → Level
chain_level [] = level.Product
chain_level (l ∷ ls) = l.level

-- `sizeof (gint)`
abbrev pub size_marks : CType → Marks
size_marks c = AKeyword keyword.Sizeof ∷ Space ∷ in_brackets (type_marks c)

-- `gint, f)`
abbrev pub field_marks : CType → tree.Name → Marks
field_marks c x = type_marks c ++ ASign sign.Comma ∷ Space ∷ Name x.text ∷ ASign sign.CloseParen ∷ []

-- `G_STRUCT_OFFSET (gint, f)`
abbrev pub offset_marks : CType → tree.Name → Marks
offset_marks c x = AKeyword keyword.StructOffset ∷ Space ∷ ASign sign.OpenParen ∷ field_marks c x

-- one level of a value
abbrev pub print_shape : Brackets → Shape-F Printed Marks Marks Printed PrintedLink → Printed
print_shape style (Shape-F.Number n) = single (Number n.value n.kind ∷ [])
print_shape style (Shape-F.Character b) = single (Character b ∷ [])
print_shape style (Shape-F.Text z) = single (Chars z ∷ [])
print_shape style (Shape-F.Constant c) = single (AConstant c ∷ [])
print_shape style (Shape-F.Variable x) = single (Name x.text ∷ [])
print_shape style (Shape-F.Function x) = single (Name x.text ∷ [])
print_shape style (Shape-F.Member x) = single (Name x.text ∷ [])
print_shape style (Shape-F.SizeOf c s) = single (size_marks c)
print_shape style (Shape-F.Offset c x s) = single (offset_marks c x)
print_shape style (Shape-F.Prefix ps a) = record { grade = Prefixing (begins_with_not ps); marks = prefixes_marks ps ++ placed style BehindPrefix a }
print_shape style (Shape-F.Postfix a xs) = record { grade = Suffixing; marks = placed style BeforeSuffix a ++ in_row xs }
print_shape style (Shape-F.Chain a ls) = record { grade = Chaining (chain_level ls); marks = placed style (Operand (chain_level ls)) a ++ link_marks ls }
print_shape style (Shape-F.Conditional cs e) = record { grade = Choosing; marks = in_row cs ++ placed style Chosen e }

-- `.f` or `->f`
abbrev pub member_marks : Sign → tree.Name → Marks
member_marks s x = ASign s ∷ Name x.text ∷ []

abbrev pub index_marks : Brackets → Printed → Marks
index_marks style i = ASign sign.OpenBracket ∷ placed style Anywhere i ++ ASign sign.CloseBracket ∷ []

-- a sign between two spaces
abbrev pub spaced : Sign → Marks
spaced s = Space ∷ ASign s ∷ Space ∷ []

abbrev pub print_suffix : Brackets → Suffix-F Printed Marks Marks Printed PrintedLink → Marks
print_suffix style (Suffix-F.Field x) = member_marks sign.Dot x
print_suffix style (Suffix-F.Arrow x) = member_marks sign.Arrow x
print_suffix style (Suffix-F.Index i s) = index_marks style i

abbrev pub print_choice : Brackets → Choice-F Printed Marks Marks Printed PrintedLink → Marks
print_choice style c = placed style Chosen c.test ++ spaced sign.Question ++ placed style Anywhere c.yes ++ spaced sign.Colon

abbrev pub print_expr : Expr-F Printed Marks Marks Printed PrintedLink → Printed
print_expr e = e.shape

abbrev pub print_link : Brackets → Link-F Printed Marks Marks Printed PrintedLink → PrintedLink
print_link style l = record { level = level_of l.operator; marks = spaced (sign_of l.operator) ++ placed style (Operand (level_of l.operator)) l.operand }

-- a value
abbrev pub printed : Brackets → Expr → Printed
printed style = fold-Expr Printed Marks Marks Printed PrintedLink (print_shape style) (print_suffix style) (print_choice style) print_expr (print_link style)

abbrev pub printed_shape : Brackets → Shape → Printed
printed_shape style = fold-Shape Printed Marks Marks Printed PrintedLink (print_shape style) (print_suffix style) (print_choice style) print_expr (print_link style)

abbrev pub suffix_marks : Brackets → Suffix → Marks
suffix_marks style = fold-Suffix Printed Marks Marks Printed PrintedLink (print_shape style) (print_suffix style) (print_choice style) print_expr (print_link style)

abbrev pub choice_marks : Brackets → Choice → Marks
choice_marks style = fold-Choice Printed Marks Marks Printed PrintedLink (print_shape style) (print_suffix style) (print_choice style) print_expr (print_link style)

abbrev pub printed_link : Brackets → Link → PrintedLink
printed_link style = fold-Link Printed Marks Marks Printed PrintedLink (print_shape style) (print_suffix style) (print_choice style) print_expr (print_link style)

abbrev pub value_marks : Brackets → Expr → Marks
value_marks style e = placed style Anywhere (printed style e)

-- a value behind another
abbrev pub next_argument_marks : Brackets → Expr → Marks
next_argument_marks style a = ASign sign.Comma ∷ Space ∷ value_marks style a

-- values behind one another, with commas
abbrev pub more_arguments_marks : Brackets → List Expr → Marks
more_arguments_marks style [] = []
more_arguments_marks style (a ∷ es) = next_argument_marks style a ++ more_arguments_marks style es

abbrev pub arguments_marks : Brackets → List Expr → Marks
arguments_marks style [] = []
arguments_marks style (a ∷ es) = value_marks style a ++ more_arguments_marks style es
