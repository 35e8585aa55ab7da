-- What a constant comes to: a static variable whose initialiser would end the run has no value.
use Rattle.std.specs.Prelude.{ℕ, zero, ◌-◌, ◌/◌, ◌%◌, ◌^◌, ◌&&◌, not, nat_lt, Bool, true, false, if◌then◌else◌, ℤ, pos, negsuc, neg_ℤ, ◌+ℤ◌, ◌*ℤ◌, int_lt, int_le, int_div, int_rem, bit_and, bit_or, bit_xor, List}
use Rattle.std.specs.Str.{bytes_eq}
use Rattle.c_lexer.specs.declared.token.Constant.{Constant}
use Rattle.c_lexer.specs.declared.token.Constant.TheVariants as constant
use Rattle.c_tree.specs.declared.names.SignedNumber.{SignedNumber}
use Rattle.c_tree.specs.declared.operators.BinaryOperator.{BinaryOperator}
use Rattle.c_tree.specs.declared.operators.BinaryOperator.TheVariants as op
use Rattle.c_tree.specs.declared.kinds.Width.TheVariants.{ThirtyTwo}
use Rattle.c_tree.specs.declared.kinds.KindBase.{KindBase}
use Rattle.c_tree.specs.declared.kinds.KindBase.TheVariants.{Integer}
use Rattle.c_tree.specs.declared.kinds.Kind.{Kind}
use Rattle.c_tree.specs.Kinds.{bits, is_integer, widened, common}

-- a constant: a number, `NULL`, a function, or a place in a text literal of so many cells
pub data Datum : Type 0 where
  Figure : ℤ → Datum
  NoPlace : Datum
  Code : List ℕ → Datum
  InText : ℕ → ℤ → Datum

-- What a value comes to: a constant, the end of the run, or nothing that is told, where it is no constant or breaks a rule.
pub data Worth : Type 0 where
  Is : Datum → Worth
  Ends : Worth
  Untold : Worth

-- 1. Numbers of a kind

-- a whole number modulo another
abbrev pub modulo : ℤ → ℕ → ℕ
modulo (pos a) n = a % n
modulo (negsuc a) n = n - 1 - a % n

-- the number with a sign that has these bits
abbrev pub signed : ℕ → ℕ → ℤ
signed b n = if nat_lt n (2 ^ (b - 1)) then pos n else negsuc (2 ^ b - 1 - n)

-- a number modulo the width of a base
abbrev pub wrap_base : KindBase → ℤ → ℤ
wrap_base (Integer w true) z = signed (bits w) (modulo z (2 ^ bits w))
wrap_base (Integer w false) z = pos (modulo z (2 ^ bits w))
wrap_base b z = z

-- a number modulo the width of a kind
abbrev pub wrap : Kind → ℤ → ℤ
wrap k z = wrap_base k.base z

-- whether a number has so many bits, one of them the sign
abbrev pub in_range : ℕ → ℤ → Bool
in_range b z = int_le (neg_ℤ (pos (2 ^ (b - 1)))) z && int_lt z (pos (2 ^ (b - 1)))

-- the result of an operation, by the base of its kind
abbrev pub result_base : KindBase → ℤ → Worth
result_base (Integer w true) z = if in_range (bits w) z then Is (Figure z) else Ends
result_base b z = Is (Figure (wrap_base b z))

-- the result of an operation: a signed overflow ends the run, an unsigned one wraps
abbrev pub result : Kind → ℤ → Worth
result k z = result_base k.base z

-- the number of a truth
abbrev pub truth : Bool → Worth
truth true = Is (Figure (pos 1))
truth false = Is (Figure (pos 0))

-- whether a number is 0
abbrev pub is_zero : ℤ → Bool
is_zero (pos zero) = true
is_zero z = false

-- what is false where a condition stands
abbrev pub is_false : Datum → Bool
is_false (Figure z) = is_zero z
is_false NoPlace = true
is_false d = false

-- the value of a member, or of a number with a sign, as a `gint`
abbrev pub signed_value : SignedNumber → ℤ
signed_value n = if n.is_negative then neg_ℤ (pos n.number.value) else pos n.number.value

-- the value of a member as a `gint`
abbrev pub member_value : SignedNumber → ℤ
member_value n = wrap_base (Integer ThirtyTwo true) (signed_value n)

-- a character is its byte as a number with a sign
abbrev pub character_value : ℕ → ℤ
character_value b = signed 8 b

-- the numbers behind the capital names, which are those of GLib but for `G_PARAM_READWRITE`, a single bit
abbrev pub constant_value : Constant → Datum
constant_value constant.Null = NoPlace
constant_value constant.True = Figure (pos 1)
constant_value constant.False = Figure (pos 0)
constant_value constant.TypeNone = Figure (pos 4)
constant_value constant.TypeInterface = Figure (pos 8)
constant_value constant.TypeChar = Figure (pos 12)
constant_value constant.TypeUchar = Figure (pos 16)
constant_value constant.TypeBoolean = Figure (pos 20)
constant_value constant.TypeInt = Figure (pos 24)
constant_value constant.TypeUint = Figure (pos 28)
constant_value constant.TypeLong = Figure (pos 32)
constant_value constant.TypeUlong = Figure (pos 36)
constant_value constant.TypeInt64 = Figure (pos 40)
constant_value constant.TypeUint64 = Figure (pos 44)
constant_value constant.TypeString = Figure (pos 64)
constant_value constant.TypeObject = Figure (pos 80)
constant_value constant.SignalRunLast = Figure (pos 2)
constant_value constant.SignalMatchId = Figure (pos 1)
constant_value constant.SignalMatchFunc = Figure (pos 8)
constant_value constant.SignalMatchData = Figure (pos 16)
constant_value constant.ConnectAfter = Figure (pos 1)
constant_value constant.ParamReadwrite = Figure (pos 2)
constant_value constant.ParamConstruct = Figure (pos 4)

-- 2. Operators

-- the bits of a number of a kind
abbrev pub bits_in : KindBase → ℤ → ℕ
bits_in (Integer w s) z = modulo z (2 ^ bits w)
bits_in b z = 0

-- a number, unless the run ends
abbrev pub if_told : Worth → ℤ → Worth
if_told Ends z = Ends
if_told w z = Is (Figure z)

-- a zero divisor ends the run, and so does the least number by -1
abbrev pub divided : Kind → (ℤ → ℤ → ℤ) → ℤ → ℤ → Worth
divided k by a b = if is_zero b then Ends else if_told (result k (int_div a b)) (by a b)

-- an arithmetic operator on two numbers of a kind
abbrev pub calculated : BinaryOperator → Kind → ℤ → ℤ → Worth
calculated op.Add k a b = result k (a +ℤ b)
calculated op.Subtract k a b = result k (a +ℤ neg_ℤ b)
calculated op.Multiply k a b = result k (a *ℤ b)
calculated op.Divide k a b = divided k int_div a b
calculated op.Remainder k a b = divided k int_rem a b
calculated op.BitAnd k a b = Is (Figure (wrap k (pos (bit_and (bits_in k.base a) (bits_in k.base b)))))
calculated op.BitOr k a b = Is (Figure (wrap k (pos (bit_or (bits_in k.base a) (bits_in k.base b)))))
calculated op.BitXor k a b = Is (Figure (wrap k (pos (bit_xor (bits_in k.base a) (bits_in k.base b)))))
calculated op.Equal k a b = truth (int_le a b && int_le b a)
calculated op.Unequal k a b = truth (not (int_le a b && int_le b a))
calculated op.Less k a b = truth (int_lt a b)
calculated op.Greater k a b = truth (int_lt b a)
calculated op.AtMost k a b = truth (int_le a b)
calculated op.AtLeast k a b = truth (int_le b a)
calculated o k a b = Untold

-- the bits of a base
abbrev pub width_of : KindBase → ℕ
width_of (Integer w s) = bits w
width_of b = 0

-- the amount of a shift
abbrev pub amount_of : ℤ → ℕ
amount_of (pos n) = n
amount_of (negsuc n) = 0

-- a quotient by a power of two that is cut toward the lesser number
abbrev pub shifted_right : ℤ → ℕ → ℤ
shifted_right (pos a) n = pos (a / 2 ^ n)
shifted_right (negsuc a) n = negsuc (a / 2 ^ n)

-- whether a shift by a number is within the width
abbrev pub is_amount : Kind → ℤ → Bool
is_amount k b = int_le (pos 0) b && int_lt b (pos (width_of k.base))

-- a shift by an amount outside the width ends the run
abbrev pub shifted : BinaryOperator → Kind → ℤ → ℤ → Worth
shifted op.ShiftLeft k a b = if is_amount k b then result k (a *ℤ pos (2 ^ amount_of b)) else Ends
shifted op.ShiftRight k a b = if is_amount k b then Is (Figure (shifted_right a (amount_of b))) else Ends
shifted o k a b = Untold

-- whether an operator is a shift
abbrev pub is_shift : BinaryOperator → Bool
is_shift op.ShiftLeft = true
is_shift op.ShiftRight = true
is_shift o = false

-- an operator on two numbers, each in the kind that it is computed in
abbrev pub numbers : BinaryOperator → Kind → Kind → ℤ → ℤ → Worth
numbers o j k a b = if is_shift o then shifted o (widened j) a b else calculated o (common j k) (wrap (common j k) a) (wrap (common j k) b)

-- Pointers and functions. No two text literals are one block.
abbrev pub same_place : Datum → Datum → Bool
same_place NoPlace NoPlace = true
same_place (Code x) (Code y) = bytes_eq x y
same_place a b = false

-- a place so many cells on, within 0 and the length of its block
abbrev pub placed : Bool → ℕ → ℤ → Worth
placed true len at = Is (InText len at)
placed false len at = Ends

-- a place in a text so many cells on
abbrev pub stepped : Datum → ℤ → Worth
stepped (InText len at) n = placed (int_le (pos 0) (at +ℤ n) && int_le (at +ℤ n) (pos len)) len (at +ℤ n)
stepped d n = Ends

-- an operator on two constants of these kinds, where a pointer's step is so many cells; the difference of two texts is none
abbrev pub combined : BinaryOperator → ℕ → Kind → Kind → Datum → Datum → Worth
combined o step j k (Figure a) (Figure b) = numbers o j k a b
combined op.Add step j k a (Figure b) = stepped a (b *ℤ pos step)
combined op.Subtract step j k a (Figure b) = stepped a (neg_ℤ (b *ℤ pos step))
combined op.Subtract step j k a b = Ends
combined op.Equal step j k a b = truth (same_place a b)
combined op.Unequal step j k a b = truth (not (same_place a b))
combined o step j k a b = Untold

-- whether a constant is true, where it is told
abbrev pub truth_of : Worth → Worth
truth_of (Is d) = truth (not (is_false d))
truth_of w = w

-- An operator on two values. The second of `&&` and `||` counts where the first leaves it open.
abbrev pub both : BinaryOperator → ℕ → Kind → Kind → Worth → Worth → Worth
both op.And step j k (Is a) w = if is_false a then truth false else truth_of w
both op.Or step j k (Is a) w = if is_false a then truth_of w else truth true
both o step j k (Is a) (Is b) = combined o step j k a b
both o step j k (Is a) w = w
both o step j k w v = w

-- a constant in another kind
abbrev pub converted : Kind → Datum → Datum
converted k (Figure z) = Figure (if is_integer k then wrap k z else z)
converted k d = d
