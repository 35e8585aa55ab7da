-- The pieces of a format and the reader's place in it, as the meaning tells them.
use Rattle.std.specs.Prelude.{ℕ, ◌+◌, ◌*◌, Bool, true, false, List, [], ◌∷◌, ◌++◌, Option, Some, None, Ok, Err, Result, ◌≡◌, if◌then◌else◌}
use Rattle.c_formats.specs.declared.pieces.Conversion.{Conversion}
use Rattle.c_formats.specs.declared.pieces.Conversion.TheVariants as conversion
use Rattle.c_formats.specs.declared.pieces.Directive.{Directive}
use Rattle.c_formats.specs.declared.pieces.Piece.{Piece}
use Rattle.c_formats.specs.declared.pieces.Piece.TheVariants as piece
use Rattle.c_formats.specs.declared.modes.Digits.{Digits}
use Rattle.c_formats.specs.declared.modes.Digits.TheVariants.{One, Two, Three}
use Rattle.c_formats.specs.declared.modes.Mode.{Mode}
use Rattle.c_formats.specs.declared.modes.Mode.TheVariants as mode
use Rattle.c_formats.specs.declared.modes.Step.{Step}
use Rattle.c_formats.specs.declared.done.Done.{Done}
use Rattle.c_formats.specs.declared.done.Draft.{Draft}
use Rattle.vg_base.specs.declared.event.UndefKind.{UndefKind}
use Rattle.vg_base.specs.declared.event.Memory.{Memory}
use Rattle.vg_base.specs.declared.event.Fault.{Fault}
use Rattle.vg_base.specs.declared.event.Fault.TheVariants as fault
use Rattle.c_meaning.specs.Blocks.{Answer}
use Rattle.c_meaning.specs.Formats as meant

-- 1. Pieces

abbrev pub seen_conversion : Conversion → meant.Conversion
seen_conversion (conversion.Signed long) = meant.Signed long
seen_conversion (conversion.Unsigned long) = meant.Unsigned long
seen_conversion (conversion.Hexadecimal long upper) = meant.Hexadecimal long upper
seen_conversion conversion.Character = meant.Character
seen_conversion conversion.Text = meant.Text

abbrev pub seen_directive : Directive → meant.Directive
seen_directive d = record { is_left = d.is_left; is_zeroed = d.is_zeroed; width = d.width; conversion = seen_conversion d.conversion }

abbrev pub seen_piece : Piece → meant.Piece
seen_piece (piece.Byte b) = meant.Byte b
seen_piece (piece.Written d) = meant.Written (seen_directive d)

-- 2. Places in a format

-- the width that one to three digits tell, and how many they are
abbrev pub width_of : Digits → ℕ
width_of (One a) = a
width_of (Two a b) = a * 10 + b
width_of (Three a b c) = (a * 10 + b) * 10 + c

abbrev pub count_of : Digits → ℕ
count_of (One a) = 1
count_of (Two a b) = 2
count_of (Three a b c) = 3

abbrev pub seen_mode : Mode → meant.Mode
seen_mode mode.Copying = meant.Copying
seen_mode mode.Opened = meant.Opened
seen_mode (mode.Flags left zeroed) = meant.Flags left zeroed
seen_mode (mode.Width left zeroed digits) = meant.Width left zeroed (width_of digits) (count_of digits)
seen_mode (mode.Long left zeroed width twice) = meant.Long left zeroed width twice
seen_mode mode.Bad = meant.Bad

-- the pieces that a step ends, none or one
abbrev pub ended : Option Piece → List meant.Piece
ended None = []
ended (Some p) = seen_piece p ∷ []

abbrev pub seen_step : Step → meant.Step
seen_step s = record { mode = seen_mode s.mode; piece = ended s.piece }

-- whether a format may end there
abbrev pub is_copying : meant.Mode → Bool
is_copying meant.Copying = true
is_copying m = false

-- 3. What is written

abbrev pub seen_done : Done → meant.Done
seen_done d = record { bytes = d.bytes.items; goes_on = d.goes_on }

-- what is still written behind a draft is left out once its text ended
abbrev pub behind : Draft → Answer (List ℕ) → Answer (List ℕ)
behind draft (Ok rest) = Ok (draft.text.items ++ (if draft.is_open then rest else []))
behind draft (Err u) = Err u

-- a piece goes from a draft to the next: what is written from it on is what is written behind it
abbrev pub Goes : Draft → Draft → Answer (List ℕ) → Answer (List ℕ) → Type 0
Goes old new before after = behind old before ≡ behind new after

-- a refusal is the one that is meant
abbrev pub RefusedBy : Result (Unit {0}) (Fault UndefKind) → Answer (List ℕ) → Type 0
RefusedBy (Err (fault.Refused u)) answer = answer ≡ Err u
RefusedBy r answer = Unit {0}

-- want of memory as a fault
abbrev pub as_fault : Result (Unit {0}) Memory → Result (Unit {0}) (Fault UndefKind)
as_fault (Ok u) = Ok u
as_fault (Err e) = Err fault.Memory
