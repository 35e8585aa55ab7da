-- What a literal format writes.
use Rattle.std.specs.Prelude.{ℕ, zero, suc, ◌+◌, ◌-◌, ◌*◌, ◌^◌, ◌==◌, ◌&&◌, nat_le, Bool, true, false, if◌then◌else◌, ℤ, pos, negsuc, List, [], ◌∷◌, ◌++◌, length, replicate, decimal}
use Rattle.std.specs.Fmt.{digits}
use Rattle.core_tree.specs.Arithmetic.{number_text, modulo}

-- an argument of a format: a number, or the bytes of a text, which are `(null)` for null
pub data Argument : Type 0 where
  Integer : ℤ → Argument
  Written : List ℕ → Argument

-- where the reader of a format stands
pub data Mode : Type 0 where
  -- between directives
  Copying : Mode
  -- behind `%`: whether `-` and `0` were read, and the width
  Directive : (is_left is_zeroed : Bool) (width : ℕ) → Mode
  -- behind a `%c` of 0: nothing more is written
  Stopped : Mode

-- one byte of a format: the mode behind it, the arguments that are left, and what is written
pub record Stepped : Type 0 where
  pub mode : Mode
  pub arguments : List Argument
  pub written : List ℕ

-- so many spaces
abbrev pub spaces : ℕ → List ℕ
spaces n = replicate n 32

-- filled up to the width: behind it for `-`, else in front of it
abbrev pub filled : Bool → ℕ → List ℕ → List ℕ
filled is_left width text = if is_left then text ++ spaces (width - length text) else spaces (width - length text) ++ text

-- the same of a number, which `0` fills up with zeros behind the sign
abbrev pub filled_number : Bool → Bool → ℕ → ℤ → List ℕ → List ℕ
filled_number true is_zeroed width z text = filled true width text
filled_number false false width z text = filled false width text
filled_number false true width (pos a) text = replicate (width - length text) 48 ++ text
filled_number false true width (negsuc a) text = 45 ∷ replicate (width - length text) 48 ++ decimal (suc a)

-- a directive ends here
abbrev pub done : List Argument → List ℕ → Stepped
done arguments written = record { mode = Copying; arguments = arguments; written = written }

-- a character; a zero ends the text, and what fills it up in front still stands
abbrev pub character : Bool → ℕ → ℕ → List Argument → Stepped
character is_left width zero arguments = record { mode = Stopped; arguments = arguments; written = if is_left then [] else spaces (width - 1) }
character is_left width (suc n) arguments = done arguments (filled is_left width (suc n ∷ []))

-- the digits of a number by its conversion: `x`, `X`, and decimal ones for `d`, `i` and `u`
abbrev pub number_digits : ℕ → ℤ → List ℕ
number_digits b z = if b == 120 then digits 16 false (modulo z (2 ^ 64)) else (if b == 88 then digits 16 true (modulo z (2 ^ 64)) else number_text z)

-- what a conversion writes: `c` a character, `s` a text, the others a number
abbrev pub convert : Bool → Bool → ℕ → ℕ → List Argument → Stepped
convert is_left is_zeroed width b (Integer z ∷ rest) =
    if b == 99 then character is_left width (modulo z 256) rest else done rest (filled_number is_left is_zeroed width z (number_digits b z))
convert is_left is_zeroed width b (Written bytes ∷ rest) = done rest (filled is_left width bytes)
convert is_left is_zeroed width b [] = done [] []

-- `0` to `9`
abbrev pub is_digit : ℕ → Bool
is_digit b = nat_le 48 b && nat_le b 57

-- one byte behind `%`
abbrev pub directive : Bool → Bool → ℕ → ℕ → List Argument → Stepped
directive is_left is_zeroed width b arguments =
    if b == 37 then done arguments (37 ∷ [])
    else (if b == 45 then record { mode = Directive true is_zeroed width; arguments = arguments; written = [] }
    else (if b == 48 && width == 0 then record { mode = Directive is_left true width; arguments = arguments; written = [] }
    else (if is_digit b then record { mode = Directive is_left is_zeroed (width * 10 + (b - 48)); arguments = arguments; written = [] }
    else (if b == 108 then record { mode = Directive is_left is_zeroed width; arguments = arguments; written = [] }
    else convert is_left is_zeroed width b arguments))))

-- one byte of the format, by where the reader stands
abbrev pub step : Mode → ℕ → List Argument → Stepped
step Copying b arguments = if b == 37 then record { mode = Directive false false 0; arguments = arguments; written = [] } else done arguments (b ∷ [])
step (Directive is_left is_zeroed width) b arguments = directive is_left is_zeroed width b arguments
step Stopped b arguments = record { mode = Stopped; arguments = arguments; written = [] }

-- what the rest of a format writes
abbrev pub write : Mode → List Argument → List ℕ → List ℕ
write mode arguments [] = []
write mode arguments (b ∷ bs) =
    let r : Stepped = step mode b arguments in
    r.written ++ write r.mode r.arguments bs

-- what a format writes with its arguments
abbrev pub formatted : List ℕ → List Argument → List ℕ
formatted format arguments = write Copying arguments format
