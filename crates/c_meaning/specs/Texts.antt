-- Texts in blocks: the bytes up to a zero cell.
use Rattle.std.specs.Prelude.{ℕ, zero, suc, ◌+◌, ◌-◌, ◌*◌, ◌^◌, ◌==◌, ◌&&◌, ◌||◌, nat_le, nat_lt, Bool, true, false, if◌then◌else◌, ℤ, pos, negsuc, neg_ℤ, List, [], ◌∷◌, length, drop, Option, Some, None, Ok, Err}
use Rattle.std.specs.Option.{option_map}
use Rattle.vg_base.specs.declared.event.ThingKind.TheVariants as thing
use Rattle.vg_base.specs.declared.event.TrapKind.TheVariants as trap
use Rattle.vg_base.specs.declared.event.CEnd.TheVariants as «end»
use Rattle.vg_base.specs.declared.event.UndefKind.TheVariants as undef
use Rattle.c_tree.specs.Constants.{modulo, signed}
use Rattle.c_meaning.specs.declared.cell.Cell.{Cell}
use Rattle.c_meaning.specs.declared.cell.Cell.TheVariants.{Int, Uns, Null, Unset}
use Rattle.c_meaning.specs.State
use Rattle.c_meaning.specs.State.{Scalar}
use Rattle.c_meaning.specs.Blocks.{Answer, bind, stop, block_of, make_thing, next_pointer}
use Rattle.c_meaning.specs.Numbers.{pointed}

-- 1. Reading

abbrev pub byte_before : ℕ → Answer (List ℕ) → Answer (List ℕ)
byte_before zero rest = Ok []
byte_before (suc b) rest = bind rest (λ bs. Ok (suc b ∷ bs))

-- the bytes of cells up to the zero: numbers modulo 256
abbrev pub bytes_in : List Cell → Answer (List ℕ)
bytes_in [] = Err undef.Outside
bytes_in (Int z ∷ cs) = byte_before (modulo z 256) (bytes_in cs)
bytes_in (Uns n ∷ cs) = byte_before (modulo (pos n) 256) (bytes_in cs)
bytes_in (Null ∷ cs) = Ok []
bytes_in (Unset ∷ cs) = Err undef.Unset
bytes_in (c ∷ cs) = Err undef.Kind

-- THE TEXT that a pointer leads to
abbrev pub text_of : State.State → Cell → Answer (List ℕ)
text_of s c = bind (pointed s c) (λ p. bind (block_of s p.block) (λ b. bytes_in (drop p.at b.cells)))

-- the first bytes of a text, at most so many; no zero is looked for behind them
abbrev pub bytes_up_to : ℕ → List Cell → Answer (List ℕ)
bytes_up_to zero cs = Ok []
bytes_up_to (suc n) [] = Err undef.Outside
bytes_up_to (suc n) (Int z ∷ cs) = byte_before (modulo z 256) (bytes_up_to n cs)
bytes_up_to (suc n) (Uns m ∷ cs) = byte_before (modulo (pos m) 256) (bytes_up_to n cs)
bytes_up_to (suc n) (Null ∷ cs) = Ok []
bytes_up_to (suc n) (Unset ∷ cs) = Err undef.Unset
bytes_up_to (suc n) (c ∷ cs) = Err undef.Kind

abbrev pub text_up_to : State.State → Cell → ℕ → Answer (List ℕ)
text_up_to s c n = bind (pointed s c) (λ p. bind (block_of s p.block) (λ b. bytes_up_to n (drop p.at b.cells)))

-- the text, or null as None
abbrev pub optional_text : State.State → Cell → Answer (Option (List ℕ))
optional_text s Null = Ok None
optional_text s c = bind (text_of s c) (λ bs. Ok (Some bs))

-- 2. Making

-- a text's cells: its bytes as numbers with a sign, and a zero
abbrev pub text_cells : List ℕ → List Cell
text_cells [] = Int (pos 0) ∷ []
text_cells (b ∷ bs) = Int (signed 8 b) ∷ text_cells bs

-- what a function of the library gives
abbrev pub give : State.State → Cell → State.State
give s c = record s { given = Some (Scalar c) }

abbrev pub give_nothing : State.State → State.State
give_nothing s = record s { given = None }

abbrev pub sized : State.State → List ℕ → Bool → State.State
sized s bytes true = stop s («end».Aborted trap.Length)
sized s bytes false = give (make_thing s thing.Text None false (text_cells bytes)) (next_pointer s)

-- a text is made and given; one of 2^63 bytes or more is the end `length`
abbrev pub give_text : State.State → List ℕ → State.State
give_text s bytes = sized s bytes (nat_le (2 ^ 63) (length bytes))

-- 3. Functions of bytes

-- the first differing byte decides, and a front is less: -1, 0 or 1
abbrev pub compared : List ℕ → List ℕ → ℤ
compared [] [] = pos 0
compared [] (b ∷ bs) = negsuc 0
compared (a ∷ xs) [] = pos 1
compared (a ∷ xs) (b ∷ bs) = if a == b then compared xs bs else (if nat_lt a b then negsuc 0 else pos 1)

-- null is less than every text
abbrev pub compared_optional : Option (List ℕ) → Option (List ℕ) → ℤ
compared_optional None None = pos 0
compared_optional None (Some b) = negsuc 0
compared_optional (Some a) None = pos 1
compared_optional (Some a) (Some b) = compared a b

-- the first list is a front of the second
abbrev pub is_front : List ℕ → List ℕ → Bool
is_front [] bytes = true
is_front (b ∷ bs) [] = false
is_front (b ∷ bs) (c ∷ cs) = b == c && is_front bs cs

abbrev pub is_back : List ℕ → List ℕ → Bool
is_back part bytes = nat_le (length part) (length bytes) && is_front part (drop (length bytes - length part) bytes)

abbrev pub here_or : Bool → Option ℕ → Option ℕ
here_or true later = Some 0
here_or false later = option_map suc later

-- the least place at which one stands in another
abbrev pub place_in : List ℕ → List ℕ → Option ℕ
place_in part [] = here_or (is_front part []) None
place_in part (b ∷ bs) = here_or (is_front part (b ∷ bs)) (place_in part bs)

-- 4. Reading a number: white space, a sign, digits up to the first other byte

abbrev pub is_space : ℕ → Bool
is_space b = b == 32 || b == 9 || b == 10 || b == 12 || b == 13

abbrev pub is_digit : ℕ → Bool
is_digit b = nat_le 48 b && nat_le b 57

abbrev pub behind_space : List ℕ → List ℕ
behind_space [] = []
behind_space (b ∷ bs) = if is_space b then behind_space bs else b ∷ bs

-- the number of the digits in front, with that before them
abbrev pub digits_from : ℕ → List ℕ → ℕ
digits_from n [] = n
digits_from n (b ∷ bs) = if is_digit b then digits_from (n * 10 + (b - 48)) bs else n

-- held within 64 bits, one of them the sign
abbrev pub held : Bool → ℕ → ℤ
held true n = if nat_le (2 ^ 63) n then neg_ℤ (pos (2 ^ 63)) else neg_ℤ (pos n)
held false n = if nat_le (2 ^ 63) n then pos (2 ^ 63 - 1) else pos n

abbrev pub signed_number : List ℕ → ℤ
signed_number [] = pos 0
signed_number (b ∷ bs) = if b == 45 then held true (digits_from 0 bs) else (if b == 43 then held false (digits_from 0 bs) else held false (digits_from 0 (b ∷ bs)))

abbrev pub number_read : List ℕ → ℤ
number_read bytes = signed_number (behind_space bytes)

-- 5. The input

-- the bytes before the first line feed, and those behind it
abbrev pub line_of : List ℕ → List ℕ
line_of [] = []
line_of (b ∷ bs) = if b == 10 then [] else b ∷ line_of bs

abbrev pub behind_line : List ℕ → List ℕ
behind_line [] = []
behind_line (b ∷ bs) = if b == 10 then bs else behind_line bs

-- the bytes before the first zero
abbrev pub before_zero : List ℕ → List ℕ
before_zero [] = []
before_zero (zero ∷ bs) = []
before_zero (suc b ∷ bs) = suc b ∷ before_zero bs
