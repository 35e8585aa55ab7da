-- The functions of texts.
use Rattle.std.specs.Prelude.{ℕ, suc, ◌+◌, ◌-◌, ◌*◌, ◌^◌, ◌==◌, ◌&&◌, ◌||◌, nat_le, Bool, true, false, if◌then◌else◌, ℤ, pos, negsuc, neg_ℤ, ◌+ℤ◌, List, [], ◌∷◌, ◌++◌, length, take, drop, Option, Some, None, codes, slice_index_or}
use Rattle.std.specs.Option.{option_map}
use Rattle.vg_base.specs.declared.event.TrapKind.{TrapKind}
use Rattle.vg_base.specs.declared.event.TrapKind.TheVariants as trap
use Rattle.core_tree.specs.declared.values.TextCall.{TextCall}
use Rattle.core_tree.specs.declared.values.TextCall.TheVariants as text
use Rattle.vala_types.specs.declared.types.IntKind.TheVariants.{Int32}
use Rattle.core_tree.specs.Arithmetic.{number_text, signed, wrap, is_zero}
use Rattle.core_tree.specs.Formats.{Argument, Integer, Written, is_digit}

-- what a text function gives
pub data TextResult : Type 0 where
  -- a fresh text
  Makes : List ℕ → TextResult
  Gives : ℤ → TextResult
  Traps : TrapKind → TextResult
  -- what the front never makes
  Nothing : TextResult

-- a text of 2^63 bytes or more is the trap `length`
abbrev pub made_text : List ℕ → TextResult
made_text bytes = if nat_le (2 ^ 63) (length bytes) then Traps trap.Length else Makes bytes

-- a `bool` as a result
abbrev pub truth : Bool → TextResult
truth true = Gives (pos 1)
truth false = Gives (pos 0)

-- the first text is a front of the second
abbrev pub is_front : List ℕ → List ℕ → Bool
is_front [] text = true
is_front (b ∷ bs) [] = false
is_front (b ∷ bs) (c ∷ cs) = b == c && is_front bs cs

-- here, or later
abbrev pub first_if : Bool → Option ℕ → Option ℕ
first_if true later = Some 0
first_if false later = option_map suc later

-- the least place at which a text stands in another
abbrev pub place_of : List ℕ → List ℕ → Option ℕ
place_of part [] = if is_front part [] then Some 0 else None
place_of part (b ∷ bs) = first_if (is_front part (b ∷ bs)) (place_of part bs)

-- there is one
abbrev pub is_found : Option ℕ → Bool
is_found None = false
is_found (Some n) = true

-- a length or a place as an `int`, modulo its width
abbrev pub as_int : ℕ → TextResult
as_int n = Gives (wrap Int32 (pos n))

-- the place, counted from the start, or -1
abbrev pub or_minus_one : ℕ → Option ℕ → TextResult
or_minus_one start None = Gives (negsuc 0)
or_minus_one start (Some n) = as_int (start + n)

-- a place in a text of a length, if it is one from 0 to the length
abbrev pub place_in : ℕ → ℤ → Option ℕ
place_in n (negsuc a) = None
place_in n (pos a) = if nat_le a n then Some a else None

-- the least place from a start on; a start outside is the trap `range`
abbrev pub index_from : List ℕ → List ℕ → Option ℕ → TextResult
index_from text part None = Traps trap.Range
index_from text part (Some start) = or_minus_one start (place_of part (drop start text))

-- a negative offset counts from the end
abbrev pub from_end : ℕ → ℤ → ℤ
from_end n (pos a) = pos a
from_end n (negsuc a) = pos n +ℤ negsuc a

-- where the part ends; a negative length is to the end
abbrev pub end_of : ℕ → ℕ → ℤ → ℤ
end_of n start (pos count) = pos (start + count)
end_of n start (negsuc count) = pos n

-- the part between two places; an end outside is the trap `range`
abbrev pub cut : List ℕ → ℕ → Option ℕ → TextResult
cut bytes start None = Traps trap.Range
cut bytes start (Some stop) = made_text (take (stop - start) (drop start bytes))

-- the part from a start on; a start outside is the trap `range`
abbrev pub substring_from : List ℕ → ℤ → Option ℕ → TextResult
substring_from bytes count None = Traps trap.Range
substring_from bytes count (Some start) = cut bytes start (place_in (length bytes) (end_of (length bytes) start count))

-- the byte at a place, 0 at the length; a place outside is the trap `index`
abbrev pub byte_at : List ℕ → Option ℕ → TextResult
byte_at bytes None = Traps trap.Index
byte_at bytes (Some i) = Gives (signed 8 (slice_index_or bytes i 0))

-- Reading a number: white space, a sign, digits up to the first other byte.

-- how far the reading of a number is
pub data Reading : Type 0 where
  Before : Reading
  Digits : (is_negative : Bool) (n : ℕ) → Reading
  After : (is_negative : Bool) (n : ℕ) → Reading

-- white space
abbrev pub is_space : ℕ → Bool
is_space b = b == 32 || b == 9 || b == 10 || b == 12 || b == 13

-- one byte is read
abbrev pub read_byte : Reading → ℕ → Reading
read_byte Before b =
    if is_space b then Before else (if b == 45 then Digits true 0 else (if b == 43 then Digits false 0 else (if is_digit b then Digits false (b - 48) else After false 0)))
read_byte (Digits is_negative n) b = if is_digit b then Digits is_negative (n * 10 + (b - 48)) else After is_negative n
read_byte (After is_negative n) b = After is_negative n

-- all bytes are read
abbrev pub read_all : Reading → List ℕ → Reading
read_all r [] = r
read_all r (b ∷ bs) = read_all (read_byte r b) bs

-- held within a signed type of so many bits
abbrev pub held_within : ℕ → Bool → ℕ → ℤ
held_within bits true n = if nat_le (2 ^ (bits - 1)) n then neg_ℤ (pos (2 ^ (bits - 1))) else neg_ℤ (pos n)
held_within bits false n = if nat_le (2 ^ (bits - 1)) n then pos (2 ^ (bits - 1) - 1) else pos n

-- the number that was read
abbrev pub number_read : ℕ → Reading → ℤ
number_read bits Before = pos 0
number_read bits (Digits is_negative n) = held_within bits is_negative n
number_read bits (After is_negative n) = held_within bits is_negative n

-- what a function gives of texts and numbers; reading a line is told elsewhere, since it takes the input
abbrev pub apply_text : TextCall → List Argument → TextResult
apply_text text.Concatenate (Written a ∷ Written b ∷ []) = made_text (a ++ b)
apply_text text.Length (Written a ∷ []) = as_int (length a)
apply_text text.Byte (Written a ∷ Integer i ∷ []) = byte_at a (place_in (length a) i)
apply_text text.Substring (Written a ∷ Integer start ∷ Integer count ∷ []) = substring_from a count (place_in (length a) (from_end (length a) start))
apply_text text.Contains (Written a ∷ Written b ∷ []) = truth (is_found (place_of b a))
apply_text text.HasPrefix (Written a ∷ Written b ∷ []) = truth (is_front b a)
apply_text text.HasSuffix (Written a ∷ Written b ∷ []) = truth (nat_le (length b) (length a) && is_front b (drop (length a - length b) a))
apply_text text.IndexOf (Written a ∷ Written b ∷ Integer start ∷ []) = index_from a b (place_in (length a) start)
apply_text text.NumberToText (Integer z ∷ []) = Makes (number_text z)
apply_text text.BoolToText (Integer z ∷ []) = Makes (if is_zero z then codes "false" else codes "true")
apply_text text.ParseInt (Written a ∷ []) = Gives (number_read 32 (read_all Before a))
apply_text text.ParseInt64 (Written a ∷ []) = Gives (number_read 64 (read_all Before a))
apply_text _ _ = Nothing

-- The input: the next line without its line feed, cut at a zero byte, and what is left behind it; None at the end.

-- the bytes before the first line feed
abbrev pub line_of : List ℕ → List ℕ
line_of [] = []
line_of (b ∷ bs) = if b == 10 then [] else b ∷ line_of bs

-- the bytes behind the first line feed
abbrev pub behind_line : List ℕ → List ℕ
behind_line [] = []
behind_line (b ∷ bs) = if b == 10 then bs else behind_line bs

-- the bytes before the first zero byte
abbrev pub before_zero : List ℕ → List ℕ
before_zero [] = []
before_zero (b ∷ bs) = if b == 0 then [] else b ∷ before_zero bs
