-- Where values need brackets.
use Rattle.std.specs.Prelude.{ℕ, ◌&&◌, ◌||◌, not, nat_le, nat_lt, Bool, true, false}
use Rattle.c_tree.specs.declared.operators.Level.{Level}
use Rattle.c_tree.specs.declared.operators.Level.TheVariants as level
use Rattle.c_printer.specs.declared.grade.Brackets.{Brackets}
use Rattle.c_printer.specs.declared.grade.Brackets.TheVariants.{Clear, Needed}
use Rattle.c_printer.specs.declared.grade.Grade.{Grade}
use Rattle.c_printer.specs.declared.grade.Grade.TheVariants.{Choosing, Chaining, Prefixing, Suffixing, Single}
use Rattle.c_printer.specs.declared.grade.Place.{Place}
use Rattle.c_printer.specs.declared.grade.Place.TheVariants.{Anywhere, Chosen, Operand, BehindPrefix, BeforeSuffix}

-- how tightly operators bind, by a number
abbrev pub rank : Level → ℕ
rank level.Or = 1
rank level.And = 2
rank level.BitOr = 3
rank level.BitXor = 4
rank level.BitAnd = 5
rank level.Equality = 6
rank level.Relation = 7
rank level.Shift = 8
rank level.Sum = 9
rank level.Product = 10

abbrev pub grade_rank : Grade → ℕ
grade_rank Choosing = 0
grade_rank (Chaining l) = rank l
grade_rank (Prefixing n) = 11
grade_rank Suffixing = 12
grade_rank Single = 13

-- what a place takes without brackets binds so tightly
abbrev pub binds : Place → Grade → Bool
binds Anywhere g = true
binds Chosen g = nat_le 1 (grade_rank g)
binds (Operand l) g = nat_lt (rank l) (grade_rank g)
binds BehindPrefix g = nat_le 12 (grade_rank g)
binds BeforeSuffix g = nat_le 13 (grade_rank g)

-- Operands around which a C compiler asks for brackets that the grammar does not need: `a && b` in `||`, sums in shifts,
-- comparisons in comparisons, sums, comparisons and operators of bits in looser ones of bits, and `!` in comparisons and in `&`.
abbrev pub is_sum_or_comparison : Level → Bool
is_sum_or_comparison level.Equality = true
is_sum_or_comparison level.Relation = true
is_sum_or_comparison level.Sum = true
is_sum_or_comparison l = false

abbrev pub is_and : Level → Bool
is_and level.And = true
is_and l = false

abbrev pub is_bit_xor : Level → Bool
is_bit_xor level.BitXor = true
is_bit_xor l = false

abbrev pub is_bit_and : Level → Bool
is_bit_and level.BitAnd = true
is_bit_and l = false

abbrev pub is_relation : Level → Bool
is_relation level.Relation = true
is_relation l = false

abbrev pub is_sum : Level → Bool
is_sum level.Sum = true
is_sum l = false

abbrev pub is_unclear_chain : Level → Level → Bool
is_unclear_chain level.Or l = is_and l
is_unclear_chain level.BitOr l = is_sum_or_comparison l || (is_bit_xor l || is_bit_and l)
is_unclear_chain level.BitXor l = is_sum_or_comparison l || is_bit_and l
is_unclear_chain level.BitAnd l = is_sum_or_comparison l
is_unclear_chain level.Equality l = is_relation l
is_unclear_chain level.Shift l = is_sum l
is_unclear_chain k l = false

abbrev pub is_unclear_not : Level → Bool
is_unclear_not level.BitAnd = true
is_unclear_not level.Equality = true
is_unclear_not level.Relation = true
is_unclear_not l = false

abbrev pub is_unclear : Place → Grade → Bool
is_unclear (Operand k) (Chaining l) = is_unclear_chain k l
is_unclear (Operand k) (Prefixing n) = n && is_unclear_not k
is_unclear p g = false

-- a value stands at a place without brackets
abbrev pub stands : Brackets → Place → Grade → Bool
stands Clear p g = binds p g && not (is_unclear p g)
stands Needed p g = binds p g
