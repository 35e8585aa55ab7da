-- Cells as numbers and pointers of a kind.
use Rattle.std.specs.Prelude.{ℕ, ◌^◌, ◌==◌, ◌&&◌, nat_le, Bool, true, false, if◌then◌else◌, ℤ, pos, negsuc, neg_ℤ, ◌+ℤ◌, length, Ok, Err}
use Rattle.vg_base.specs.declared.event.UndefKind.{UndefKind}
use Rattle.vg_base.specs.declared.event.UndefKind.TheVariants as undef
use Rattle.c_tree.specs.declared.operators.BinaryOperator.{BinaryOperator}
use Rattle.c_tree.specs.declared.operators.BinaryOperator.TheVariants as op
use Rattle.c_tree.specs.declared.kinds.KindBase.{KindBase}
use Rattle.c_tree.specs.declared.kinds.KindBase.TheVariants as base
use Rattle.c_tree.specs.declared.kinds.Kind.{Kind}
use Rattle.c_tree.specs.Kinds.{bits, is_integer, is_struct, long}
use Rattle.c_tree.specs.Constants.{Worth, Is, Ends, Figure, modulo, wrap, numbers, is_zero}
use Rattle.c_meaning.specs.declared.cell.Cell.{Cell}
use Rattle.c_meaning.specs.declared.cell.Cell.TheVariants.{Int, Uns, Ptr, Func, Null, Unset}
use Rattle.c_meaning.specs.State
use Rattle.c_meaning.specs.State.{Block, Place, Value, Scalar, Struct}
use Rattle.c_meaning.specs.Blocks.{Answer, bind, block_of, get, get_cells}

-- 1. Numbers

abbrev pub number_by : KindBase → ℤ → Cell
number_by (base.Integer w true) z = Int (wrap (record { base = base.Integer w true; stars = 0 }) z)
number_by (base.Integer w false) z = Uns (modulo z (2 ^ bits w))
number_by b z = Int z

-- a number as the cell of an integer kind, modulo its width: Int with a sign, Uns without
abbrev pub number : Kind → ℤ → Cell
number k z = number_by k.base z

-- the number in a cell: null is 0
abbrev pub number_of : Cell → Answer ℤ
number_of (Int z) = Ok z
number_of (Uns n) = Ok (pos n)
number_of Null = Ok (pos 0)
number_of Unset = Err undef.Unset
number_of c = Err undef.Kind

-- the pointer or function in a cell
abbrev pub pointer_of : Cell → Answer Cell
pointer_of (Int z) = Err undef.Kind
pointer_of (Uns n) = Err undef.Kind
pointer_of Unset = Err undef.Unset
pointer_of c = Ok c

-- a cell as a kind: numbers are converted, pointers and functions stay as they are
abbrev pub as_kind : Kind → Cell → Answer Cell
as_kind k c = if is_integer k then bind (number_of c) (λ z. Ok (number k z)) else pointer_of c

-- the same of a value; the cells of a struct are not looked at
abbrev pub converted : Kind → Value → Answer Value
converted k (Scalar c) = bind (as_kind k c) (λ d. Ok (Scalar d))
converted k (Struct cs) = Ok (Struct cs)

-- the one cell of a value
abbrev pub scalar : Value → Answer Cell
scalar (Scalar c) = Ok c
scalar (Struct cs) = Err undef.Kind

-- what is false where a condition stands
abbrev pub is_false : Cell → Bool
is_false (Int z) = is_zero z
is_false (Uns n) = n == 0
is_false Null = true
is_false c = false

abbrev pub truth : Bool → Cell
truth true = Int (pos 1)
truth false = Int (pos 0)

-- 2. Reading places

-- the value at a place of a kind that takes so many cells
abbrev pub read : State.State → Kind → ℕ → Place → Answer Value
read s k n p = if is_struct k then bind (get_cells s p n) (λ cs. Ok (Struct cs)) else bind (get s p) (λ c. converted k (Scalar c))

-- the place that a pointer leads to
abbrev pub pointed : State.State → Cell → Answer Place
pointed s (Ptr b at) = bind (block_of s b) (λ x. Ok (record { block = b; at = at }))
pointed s Null = Err undef.Null
pointed s Unset = Err undef.Unset
pointed s c = Err undef.Kind

abbrev pub place_in : ℕ → ℕ → ℤ → Answer Place
place_in block len (pos at) = if nat_le at len then Ok (record { block = block; at = at }) else Err undef.Outside
place_in block len (negsuc n) = Err undef.Outside

-- a place so many cells on, within 0 and the length of its block
abbrev pub moved : State.State → Place → ℤ → Answer Place
moved s p n = bind (block_of s p.block) (λ b. place_in p.block (length b.cells) (pos p.at +ℤ n))

abbrev pub to : Place → Cell
to p = Ptr p.block p.at

-- a pointer and so many cells
abbrev pub stepped : State.State → Cell → ℤ → Answer Cell
stepped s c n = bind (pointed s c) (λ p. bind (moved s p n) (λ q. Ok (to q)))

-- 3. Operators

abbrev pub divides : BinaryOperator → Bool
divides op.Divide = true
divides op.Remainder = true
divides o = false

-- why an operation on numbers has no result
abbrev pub cause_of : BinaryOperator → ℤ → UndefKind
cause_of o b = if divides o && is_zero b then undef.Divide else undef.Overflow

abbrev pub worth_cell : Kind → UndefKind → Worth → Answer Cell
worth_cell k u (Is (Figure z)) = Ok (number k z)
worth_cell k u Ends = Err u
worth_cell k u w = Err undef.Kind

-- an operator on two numbers of kinds j and k, whose result has the kind r
abbrev pub calculated : BinaryOperator → Kind → Kind → Kind → ℤ → ℤ → Answer Cell
calculated o r j k a b = worth_cell r (cause_of o b) (numbers o j k a b)

-- the difference of two places, which is one in the same block alone
abbrev pub difference : Place → Place → Answer Cell
difference p q = if p.block == q.block then Ok (number long (pos p.at +ℤ neg_ℤ (pos q.at))) else Err undef.Outside

-- two pointers or functions are the same
abbrev pub same : Cell → Cell → Bool
same Null Null = true
same (Ptr b i) (Ptr c j) = b == c && i == j
same (Func f) (Func g) = f == g
same a b = false
