-- What types mean: which are equal, which values fit which places, and what the operators of values give.
use Rattle.std.specs.Prelude.{ℕ, suc, ◌==◌, ◌&&◌, ◌||◌, not, nat_lt, Bool, true, false, if◌then◌else◌, List, [], ◌∷◌, Option, Some, None}
use Rattle.c_tree.specs.declared.kinds.Width.{Width}
use Rattle.c_tree.specs.declared.kinds.Width.TheVariants.{Eight, Sixteen, ThirtyTwo, SixtyFour}
use Rattle.c_tree.specs.declared.kinds.KindBase.{KindBase}
use Rattle.c_tree.specs.declared.kinds.KindBase.TheVariants.{Void, Integer, Struct, Function}
use Rattle.c_tree.specs.declared.kinds.Kind.{Kind}
use Rattle.c_tree.specs.declared.kinds.Operand.{Operand}
use Rattle.c_tree.specs.declared.operators.BinaryOperator.{BinaryOperator}
use Rattle.c_tree.specs.declared.operators.BinaryOperator.TheVariants as op
use Rattle.c_tree.specs.declared.operators.Level.{Level}
use Rattle.c_tree.specs.declared.operators.Level.TheVariants as level

-- 1. Kinds by name

-- a base without `*`
abbrev pub plain : KindBase → Kind
plain b = record { base = b; stars = 0 }

-- a pointer to a kind
abbrev pub pointer_to : Kind → Kind
pointer_to k = record { base = k.base; stars = suc k.stars }

-- `void`
abbrev pub void : Kind
void = plain Void

-- `gpointer`
abbrev pub gpointer : Kind
gpointer = pointer_to void

-- `gint`
abbrev pub int : Kind
int = plain (Integer ThirtyTwo true)

-- `guint`
abbrev pub uint : Kind
uint = plain (Integer ThirtyTwo false)

-- `glong`
abbrev pub long : Kind
long = plain (Integer SixtyFour true)

-- `gulong`
abbrev pub ulong : Kind
ulong = plain (Integer SixtyFour false)

-- `gshort`
abbrev pub short : Kind
short = plain (Integer Sixteen true)

-- `gushort`
abbrev pub ushort : Kind
ushort = plain (Integer Sixteen false)

-- `gchar`
abbrev pub char : Kind
char = plain (Integer Eight true)

-- `guchar`
abbrev pub uchar : Kind
uchar = plain (Integer Eight false)

-- `gchar *`
abbrev pub text : Kind
text = pointer_to char

-- 2. Equality

-- the number of bits
abbrev pub bits : Width → ℕ
bits Eight = 8
bits Sixteen = 16
bits ThirtyTwo = 32
bits SixtyFour = 64

-- whether two truths are one
abbrev pub same_bool : Bool → Bool → Bool
same_bool true b = b
same_bool false b = not b

-- whether two bases are one
abbrev pub same_base : KindBase → KindBase → Bool
same_base Void Void = true
same_base (Integer w s) (Integer v t) = bits w == bits v && same_bool s t
same_base (Struct n) (Struct m) = n == m
same_base (Function n) (Function m) = n == m
same_base a b = false

-- one type, apart from `const`
abbrev pub same : Kind → Kind → Bool
same a b = same_base a.base b.base && a.stars == b.stars

-- the same of kinds that may be unknown
abbrev pub same_known : Option Kind → Option Kind → Bool
same_known (Some a) (Some b) = same a b
same_known None None = true
same_known a b = false

-- the same one by one
abbrev pub same_list : List (Option Kind) → List (Option Kind) → Bool
same_list [] [] = true
same_list (a ∷ ks) (b ∷ js) = same_known a b && same_list ks js
same_list ks js = false

-- 3. Classes of kinds

-- whether a base is an integer
abbrev pub is_integer_base : KindBase → Bool
is_integer_base (Integer w s) = true
is_integer_base b = false

-- whether a base is a function
abbrev pub is_function_base : KindBase → Bool
is_function_base (Function n) = true
is_function_base b = false

-- whether a base is a struct
abbrev pub is_struct_base : KindBase → Bool
is_struct_base (Struct n) = true
is_struct_base b = false

-- an integer
abbrev pub is_integer : Kind → Bool
is_integer k = is_integer_base k.base && k.stars == 0

-- a function
abbrev pub is_function : Kind → Bool
is_function k = is_function_base k.base && k.stars == 0

-- a struct
abbrev pub is_struct : Kind → Bool
is_struct k = is_struct_base k.base && k.stars == 0

-- a pointer
abbrev pub is_pointer : Kind → Bool
is_pointer k = nat_lt 0 k.stars

-- `void` itself
abbrev pub is_void : Kind → Bool
is_void k = same k void

-- an integer or a pointer: what a condition is
abbrev pub is_scalar : Kind → Bool
is_scalar k = is_integer k || is_pointer k

-- a pointer or a function
abbrev pub is_pointer_or_function : Kind → Bool
is_pointer_or_function k = is_pointer k || is_function k

-- what `..` takes
abbrev pub is_argument : Kind → Bool
is_argument k = is_integer k || is_pointer_or_function k

-- 4. Fits

-- whether a value of a kind, which may be the word `NULL`, fits a place of a kind
abbrev pub fits : Kind → Kind → Bool → Bool
fits place value null =
    (is_integer place && is_integer value)
    || same place value
    || (is_pointer place && is_pointer value && (same place gpointer || same value gpointer))
    || (null && is_pointer_or_function place)

-- integers go to integers, pointers and functions to pointers and functions
abbrev pub casts : Kind → Kind → Bool
casts to from = (is_integer to && is_integer from) || (is_pointer_or_function to && is_pointer_or_function from)

-- 5. Operands

-- an integer of 8 or 16 bits becomes a `gint`
abbrev pub widened_base : KindBase → KindBase
widened_base (Integer Eight s) = Integer ThirtyTwo true
widened_base (Integer Sixteen s) = Integer ThirtyTwo true
widened_base b = b

-- a kind as an operand
abbrev pub widened : Kind → Kind
widened k = record { base = widened_base k.base; stars = k.stars }

-- of two widened kinds the wider one, and of equal widths the one without a sign
abbrev pub common_base : KindBase → KindBase → KindBase
common_base (Integer ThirtyTwo s) (Integer ThirtyTwo t) = Integer ThirtyTwo (s && t)
common_base (Integer SixtyFour s) (Integer SixtyFour t) = Integer SixtyFour (s && t)
common_base (Integer SixtyFour s) b = Integer SixtyFour s
common_base a b = b

-- the kind that two integers are computed in
abbrev pub common : Kind → Kind → Kind
common a b = plain (common_base (widened a).base (widened b).base)

-- a kind, where a test holds
abbrev pub given_if : Bool → Kind → Option Kind
given_if true k = Some k
given_if false k = None

-- integers give their common kind
abbrev pub arithmetic : Kind → Kind → Option Kind
arithmetic a b = given_if (is_integer a && is_integer b) (common a b)

-- each side is widened alone
abbrev pub shift : Kind → Kind → Option Kind
shift a b = given_if (is_integer a && is_integer b) (widened a)

-- integers, or two of which one fits the other; structs are never compared
abbrev pub equality : Operand → Operand → Option Kind
equality a b = given_if (not (is_struct a.kind) && not (is_void a.kind) && (fits a.kind b.kind b.null || fits b.kind a.kind a.null)) int

-- integers are compared
abbrev pub relation : Kind → Kind → Option Kind
relation a b = given_if (is_integer a && is_integer b) int

-- what `&&` and `||` take
abbrev pub both : Kind → Kind → Option Kind
both a b = given_if (is_scalar a && is_scalar b) int

-- an integer behind a pointer to what is laid out
abbrev pub moved : (Kind → Bool) → Kind → Kind → Option Kind
moved reaches a b = if reaches a && is_integer b then Some a else arithmetic a b

-- and two `gchar *` give a `glong`
abbrev pub difference : (Kind → Bool) → Kind → Kind → Option Kind
difference reaches a b = if same a text && same b text then Some long else moved reaches a b

-- what an operator gives, where it takes these; `reaches` says which pointers lead to what is laid out
abbrev pub applied : (Kind → Bool) → BinaryOperator → Operand → Operand → Option Kind
applied reaches op.Or a b = both a.kind b.kind
applied reaches op.And a b = both a.kind b.kind
applied reaches op.BitOr a b = arithmetic a.kind b.kind
applied reaches op.BitXor a b = arithmetic a.kind b.kind
applied reaches op.BitAnd a b = arithmetic a.kind b.kind
applied reaches op.Equal a b = equality a b
applied reaches op.Unequal a b = equality a b
applied reaches op.Less a b = relation a.kind b.kind
applied reaches op.Greater a b = relation a.kind b.kind
applied reaches op.AtMost a b = relation a.kind b.kind
applied reaches op.AtLeast a b = relation a.kind b.kind
applied reaches op.ShiftLeft a b = shift a.kind b.kind
applied reaches op.ShiftRight a b = shift a.kind b.kind
applied reaches op.Add a b = moved reaches a.kind b.kind
applied reaches op.Subtract a b = difference reaches a.kind b.kind
applied reaches op.Multiply a b = arithmetic a.kind b.kind
applied reaches op.Divide a b = arithmetic a.kind b.kind
applied reaches op.Remainder a b = arithmetic a.kind b.kind

-- What `?:` gives of its last two: integers their common kind, `NULL` and another the other's, a `gpointer` and another pointer `gpointer`.
abbrev pub chosen : Operand → Operand → Option Kind
chosen a b =
    if is_integer a.kind && is_integer b.kind then Some (common a.kind b.kind)
    else (if is_void a.kind then None
    else (if same a.kind b.kind then Some a.kind
    else (if a.null && is_pointer_or_function b.kind then Some b.kind
    else (if b.null && is_pointer_or_function a.kind then Some a.kind
    else (if is_pointer a.kind && is_pointer b.kind && (same a.kind gpointer || same b.kind gpointer) then Some gpointer else None)))))

-- 6. How tightly operators bind

-- the level of an operator
abbrev pub level_of : BinaryOperator → Level
level_of op.Or = level.Or
level_of op.And = level.And
level_of op.BitOr = level.BitOr
level_of op.BitXor = level.BitXor
level_of op.BitAnd = level.BitAnd
level_of op.Equal = level.Equality
level_of op.Unequal = level.Equality
level_of op.Less = level.Relation
level_of op.Greater = level.Relation
level_of op.AtMost = level.Relation
level_of op.AtLeast = level.Relation
level_of op.ShiftLeft = level.Shift
level_of op.ShiftRight = level.Shift
level_of op.Add = level.Sum
level_of op.Subtract = level.Sum
level_of op.Multiply = level.Product
level_of op.Divide = level.Product
level_of op.Remainder = level.Product
