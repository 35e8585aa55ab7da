-- Formats: what they are made of, which arguments they take, and what they write.
use Rattle.std.specs.Prelude.{ℕ, zero, suc, ◌+◌, ◌-◌, ◌*◌, ◌^◌, ◌==◌, ◌&&◌, ◌||◌, nat_lt, Bool, true, false, if◌then◌else◌, ℤ, pos, negsuc, neg_ℤ, int_le, int_lt, List, [], ◌∷◌, ◌++◌, length, replicate, decimal, Option, Some, None, Ok, Err, codes}
use Rattle.std.specs.Fmt.{digits}
use Rattle.std.specs.Option.{option_map}
use Rattle.vg_base.specs.declared.event.UndefKind.TheVariants as undef
use Rattle.c_tree.specs.Constants.{modulo}
use Rattle.c_meaning.specs.declared.cell.Cell.{Cell}
use Rattle.c_meaning.specs.declared.cell.Cell.TheVariants.{Int, Uns, Ptr, Null}
use Rattle.c_meaning.specs.State
use Rattle.c_meaning.specs.Blocks.{Answer, bind}
use Rattle.c_meaning.specs.Texts.{text_of, is_digit}

-- 1. Pieces

-- what a directive takes: a number with a sign or without, of 32 bits or 64, a character, or a text
pub data Conversion : Type 0 where
  Signed : (is_long : Bool) → Conversion
  Unsigned : (is_long : Bool) → Conversion
  Hexadecimal : (is_long is_upper : Bool) → Conversion
  Character : Conversion
  Text : Conversion

pub record Directive : Type 0 where
  pub is_left : Bool
  pub is_zeroed : Bool
  pub width : ℕ
  pub conversion : Conversion

pub data Piece : Type 0 where
  Byte : ℕ → Piece
  Written : Directive → Piece

-- where the reader of a format stands
pub data Mode : Type 0 where
  Copying : Mode
  -- behind `%`
  Opened : Mode
  -- among the flags
  Flags : (is_left is_zeroed : Bool) → Mode
  -- in the width, of so many digits so far
  Width : (is_left is_zeroed : Bool) (width digits : ℕ) → Mode
  -- behind `l` or `ll`
  Long : (is_left is_zeroed : Bool) (width : ℕ) (is_twice : Bool) → Mode
  -- it is no format
  Bad : Mode

-- the conversion of a letter
abbrev pub conversion : Bool → ℕ → Option Conversion
conversion is_long b =
    if b == 100 || b == 105 then Some (Signed is_long)
    else (if b == 117 then Some (Unsigned is_long)
    else (if b == 120 then Some (Hexadecimal is_long false)
    else (if b == 88 then Some (Hexadecimal is_long true)
    else (if b == 99 && short is_long then Some Character
    else (if b == 115 && short is_long then Some Text else None)))))
  where
    short : Bool → Bool
    short true = false
    short false = true

-- a text takes no `0`
abbrev pub is_allowed : Bool → Conversion → Bool
is_allowed true Text = false
is_allowed z c = true

-- one byte of a format: the mode behind it, and the piece that it ends
pub record Step : Type 0 where
  pub mode : Mode
  pub piece : List Piece

abbrev pub goes : Mode → Step
goes m = record { mode = m; piece = [] }

abbrev pub ends : Piece → Step
ends p = record { mode = Copying; piece = p ∷ [] }

-- a directive ends with its letter
abbrev pub directive : Bool → Bool → ℕ → Option Conversion → Step
directive l z w None = goes Bad
directive l z w (Some c) = if is_allowed z c then ends (Written (record { is_left = l; is_zeroed = z; width = w; conversion = c })) else goes Bad

-- flags, then a width, then `l` or `ll`, then a letter
abbrev pub flags : Bool → Bool → ℕ → Step
flags l z b =
    if b == 45 then goes (Flags true z)
    else (if b == 48 then goes (Flags l true)
    else (if is_digit b then goes (Width l z (b - 48) 1)
    else (if b == 108 then goes (Long l z 0 false) else directive l z 0 (conversion false b))))

abbrev pub step : Mode → ℕ → Step
step Copying b = if b == 37 then goes Opened else ends (Byte b)
step Opened b = if b == 37 then ends (Byte 37) else flags false false b
step (Flags l z) b = flags l z b
step (Width l z w n) b =
    if is_digit b then (if nat_lt n 3 then goes (Width l z (w * 10 + (b - 48)) (suc n)) else goes Bad)
    else (if b == 108 then goes (Long l z w false) else directive l z w (conversion false b))
step (Long l z w false) b = if b == 108 then goes (Long l z w true) else directive l z w (conversion true b)
step (Long l z w true) b = directive l z w (conversion true b)
step Bad b = goes Bad

-- the pieces of a format, if it is one
abbrev pub pieces : Mode → List ℕ → Option (List Piece)
pieces Copying [] = Some []
pieces m [] = None
pieces m (b ∷ bs) = option_map (λ ps. (step m b).piece ++ ps) (pieces (step m b).mode bs)

-- 2. Which arguments fit

abbrev pub fits_signed : Bool → ℤ → Bool
fits_signed true z = true
fits_signed false z = int_le (neg_ℤ (pos (2 ^ 31))) z && int_lt z (pos (2 ^ 31))

abbrev pub fits_unsigned : Bool → ℕ → Bool
fits_unsigned true n = true
fits_unsigned false n = nat_lt n (2 ^ 32)

abbrev pub takes : Conversion → Cell → Bool
takes (Signed is_long) (Int z) = fits_signed is_long z
takes (Unsigned is_long) (Uns n) = fits_unsigned is_long n
takes (Hexadecimal is_long is_upper) (Uns n) = fits_unsigned is_long n
takes Character (Int z) = true
takes Text (Ptr b at) = true
takes Text Null = true
takes k c = false

-- one argument for each directive, in order
abbrev pub match_all : List Piece → List Cell → Bool
match_all [] [] = true
match_all [] (c ∷ cs) = false
match_all (Byte b ∷ ps) cs = match_all ps cs
match_all (Written d ∷ ps) [] = false
match_all (Written d ∷ ps) (c ∷ cs) = takes d.conversion c && match_all ps cs

-- 3. What is written

-- filled up to the width: behind it for `-`, else in front of it
abbrev pub filled : Directive → List ℕ → List ℕ
filled d bytes = if d.is_left then bytes ++ replicate (d.width - length bytes) 32 else replicate (d.width - length bytes) 32 ++ bytes

-- the same of a number, which `0` without `-` fills up with zeros behind its sign
abbrev pub filled_number : Directive → List ℕ → List ℕ → List ℕ
filled_number d sign figures =
    if d.is_zeroed && right d.is_left then sign ++ replicate (d.width - length (sign ++ figures)) 48 ++ figures else filled d (sign ++ figures)
  where
    right : Bool → Bool
    right true = false
    right false = true

abbrev pub written_signed : Directive → ℤ → List ℕ
written_signed d (pos n) = filled_number d [] (decimal n)
written_signed d (negsuc n) = filled_number d (45 ∷ []) (decimal (suc n))

-- what a directive writes, and whether the text goes on behind it
pub record Done : Type 0 where
  pub bytes : List ℕ
  pub goes_on : Bool

abbrev pub writes : List ℕ → Answer Done
writes bytes = Ok (record { bytes = bytes; goes_on = true })

-- a character of 0 ends the text; what fills it up in front still stands
abbrev pub character : Directive → ℕ → Answer Done
character d zero = Ok (record { bytes = if d.is_left then [] else replicate (d.width - 1) 32; goes_on = false })
character d (suc n) = writes (filled d (suc n ∷ []))

abbrev pub written_text : State.State → Directive → Cell → Answer Done
written_text s d Null = writes (filled d (codes "(null)"))
written_text s d c = bind (text_of s c) (λ bs. writes (filled d bs))

abbrev pub written : State.State → Directive → Conversion → Cell → Answer Done
written s d (Signed l) (Int z) = writes (written_signed d z)
written s d (Unsigned l) (Uns n) = writes (filled_number d [] (decimal n))
written s d (Hexadecimal l is_upper) (Uns n) = writes (filled_number d [] (digits 16 is_upper n))
written s d Character (Int z) = character d (modulo z 256)
written s d Text c = written_text s d c
written s d k c = Err undef.Kind

-- what stands behind is left out once a text ended, though its arguments are read
abbrev pub joined : Done → List ℕ → List ℕ
joined d rest = d.bytes ++ (if d.goes_on then rest else [])

abbrev pub write_all : State.State → List Piece → List Cell → Answer (List ℕ)
write_all s [] cs = Ok []
write_all s (Byte b ∷ ps) cs = bind (write_all s ps cs) (λ bs. Ok (b ∷ bs))
write_all s (Written d ∷ ps) [] = Err undef.Kind
write_all s (Written d ∷ ps) (c ∷ cs) = bind (written s d d.conversion c) (λ x. bind (write_all s ps cs) (λ bs. Ok (joined x bs)))

abbrev pub formatted_by : State.State → Option (List Piece) → List Cell → Answer (List ℕ)
formatted_by s None cs = Err undef.Kind
formatted_by s (Some ps) cs = if match_all ps cs then write_all s ps cs else Err undef.Kind

-- WHAT A FORMAT WRITES: it is read, then matched with all its arguments, and then their texts are read from the left
abbrev pub formatted : State.State → Cell → List Cell → Answer (List ℕ)
formatted s f cs = bind (text_of s f) (λ bytes. formatted_by s (pieces Copying bytes) cs)
