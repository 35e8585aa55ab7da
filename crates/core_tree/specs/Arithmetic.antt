-- Integers: their widths, what operators give, and how numbers are written.
use Rattle.std.specs.Prelude.{ℕ, zero, suc, ◌-◌, ◌/◌, ◌%◌, ◌^◌, ◌==◌, ◌&&◌, ◌||◌, nat_lt, Bool, true, false, not, if◌then◌else◌, ℤ, pos, negsuc, neg_ℤ, ◌+ℤ◌, ◌*ℤ◌, int_lt, int_le, int_div, int_rem, bit_and, bit_or, bit_xor, List, [], ◌∷◌, Result, Ok, Err, decimal}
use Rattle.vg_base.specs.declared.event.TrapKind.{TrapKind}
use Rattle.vg_base.specs.declared.event.TrapKind.TheVariants as trap
use Rattle.vala_types.specs.declared.types.IntKind.{IntKind}
use Rattle.vala_types.specs.declared.types.IntKind.TheVariants.{Int8, Char, Uint8, Int16, Uint16, Int32, Uint32, Long, Ulong, Int64, Uint64}
use Rattle.core_tree.specs.declared.values.Arithmetic.{Arithmetic}
use Rattle.core_tree.specs.declared.values.Arithmetic.TheVariants as op
use Rattle.core_tree.specs.declared.values.Comparison.{Comparison}
use Rattle.core_tree.specs.declared.values.Comparison.TheVariants as compare

-- how many bits a type has
abbrev pub width : IntKind → ℕ
width Int8 = 8
width Char = 8
width Uint8 = 8
width Int16 = 16
width Uint16 = 16
width Int32 = 32
width Uint32 = 32
width Long = 64
width Ulong = 64
width Int64 = 64
width Uint64 = 64

-- types with a sign
abbrev pub is_signed : IntKind → Bool
is_signed Int8 = true
is_signed Char = true
is_signed Int16 = true
is_signed Int32 = true
is_signed Long = true
is_signed Int64 = true
is_signed _ = false

-- a whole number modulo a power of two, from 0 on
abbrev pub modulo : ℤ → ℕ → ℕ
modulo (pos a) n = a % n
modulo (negsuc a) n = n - 1 - a % n

-- the number of a signed type with these bits
abbrev pub signed : ℕ → ℕ → ℤ
signed bits n = if nat_lt n (2 ^ (bits - 1)) then pos n else negsuc (2 ^ bits - 1 - n)

-- the value modulo the width of the type
abbrev pub wrap : IntKind → ℤ → ℤ
wrap kind z = if is_signed kind then signed (width kind) (modulo z (2 ^ width kind)) else pos (modulo z (2 ^ width kind))

-- the bits of a number of the type
abbrev pub bits_of : IntKind → ℤ → ℕ
bits_of kind z = modulo z (2 ^ width kind)

-- the least number of a signed type
abbrev pub is_least : IntKind → ℤ → Bool
is_least kind (pos a) = false
is_least kind (negsuc a) = is_signed kind && suc a == 2 ^ (width kind - 1)

-- the number -1
abbrev pub is_minus_one : ℤ → Bool
is_minus_one (negsuc zero) = true
is_minus_one _ = false

-- the number 0
abbrev pub is_zero : ℤ → Bool
is_zero (pos zero) = true
is_zero _ = false

-- a divisor 0, and the least value by -1, are the trap `division`
abbrev pub cannot_divide : IntKind → ℤ → ℤ → Bool
cannot_divide kind a b = is_zero b || (is_least kind a && is_minus_one b)

-- what cannot be divided is the trap `division`
abbrev pub divided : Bool → ℤ → Result ℤ TrapKind
divided true z = Err trap.Division
divided false z = Ok z

-- the shift amount, modulo the width
abbrev pub amount : IntKind → ℤ → ℕ
amount kind b = modulo b (width kind)

-- a quotient by a power of two that is cut toward the lesser number
abbrev pub shifted_right : ℤ → ℕ → ℤ
shifted_right (pos a) n = pos (a / 2 ^ n)
shifted_right (negsuc a) n = negsuc (a / 2 ^ n)

-- an operator of two integers of a type
abbrev pub calculate : Arithmetic → IntKind → ℤ → ℤ → Result ℤ TrapKind
calculate op.Add kind a b = Ok (wrap kind (a +ℤ b))
calculate op.Subtract kind a b = Ok (wrap kind (a +ℤ neg_ℤ b))
calculate op.Multiply kind a b = Ok (wrap kind (a *ℤ b))
calculate op.Divide kind a b = divided (cannot_divide kind a b) (int_div a b)
calculate op.Remainder kind a b = divided (cannot_divide kind a b) (int_rem a b)
calculate op.And kind a b = Ok (wrap kind (pos (bit_and (bits_of kind a) (bits_of kind b))))
calculate op.Or kind a b = Ok (wrap kind (pos (bit_or (bits_of kind a) (bits_of kind b))))
calculate op.Xor kind a b = Ok (wrap kind (pos (bit_xor (bits_of kind a) (bits_of kind b))))
calculate op.ShiftLeft kind a b = Ok (wrap kind (a *ℤ pos (2 ^ amount kind b)))
calculate op.ShiftRight kind a b = Ok (shifted_right a (amount kind b))
calculate op.Negate kind a b = Ok (wrap kind (neg_ℤ a))
calculate op.Complement kind a b = Ok (wrap kind (neg_ℤ a +ℤ negsuc 0))
calculate op.Not kind a b = Ok (if is_zero a then pos 1 else pos 0)

-- how two things compare, told by whether the first is less and whether they are equal
abbrev pub compared : Comparison → Bool → Bool → Bool
compared compare.Equal less equal = equal
compared compare.Unequal less equal = not equal
compared compare.Less less equal = less
compared compare.LessOrEqual less equal = less || equal
compared compare.Greater less equal = not (less || equal)
compared compare.GreaterOrEqual less equal = not less

-- two whole numbers are equal
abbrev pub int_equal : ℤ → ℤ → Bool
int_equal a b = int_le a b && int_le b a

-- two whole numbers compare
abbrev pub compare_numbers : Comparison → ℤ → ℤ → Bool
compare_numbers c a b = compared c (int_lt a b) (int_equal a b)

-- lists of bytes: the first differing byte decides, and a front is less
abbrev pub bytes_less : List ℕ → List ℕ → Bool
bytes_less [] [] = false
bytes_less [] (b ∷ bs) = true
bytes_less (a ∷ as') [] = false
bytes_less (a ∷ as') (b ∷ bs) = nat_lt a b || (a == b && bytes_less as' bs)

-- two lists of bytes are the same
abbrev pub bytes_equal : List ℕ → List ℕ → Bool
bytes_equal [] [] = true
bytes_equal (a ∷ as') (b ∷ bs) = a == b && bytes_equal as' bs
bytes_equal _ _ = false

-- decimal digits, with `-` in front of a negative number
abbrev pub number_text : ℤ → List ℕ
number_text (pos a) = decimal a
number_text (negsuc a) = 45 ∷ decimal (suc a)
