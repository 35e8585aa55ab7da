-- Texts in the blocks of a heap.
use Rattle.std.specs.Prelude.{◌≡◌, ℕ, List, drop, Option, Some, None, Result, Ok, Err, pos}
use Rattle.vg_base.specs.declared.event.UndefKind.{UndefKind}
use Rattle.vg_base.specs.declared.event.UndefKind.TheVariants as undef
use Rattle.vg_base.specs.declared.event.Fault.{Fault}
use Rattle.vg_base.specs.declared.event.Fault.TheVariants.{Refused, Memory}
use Rattle.c_tree.specs.Constants.{modulo}
use Rattle.c_meaning.specs.declared.cell.Cell.{Cell}
use Rattle.c_meaning.specs.declared.cell.Cell.TheVariants.{Int, Uns, Ptr, Null, Unset}
use Rattle.c_meaning.specs.State
use Rattle.c_meaning.specs.Texts.{bytes_in, text_of}
use Rattle.cell_heap.specs.Heap.{cells_of}
use Rattle.cell_heap.specs.States.{heap_of}

-- the byte that a cell stands for in a text, or why it stands for none
abbrev pub byte_of : Cell → Result ℕ UndefKind
byte_of (Int z) = Ok (modulo z 256)
byte_of (Uns n) = Ok (modulo (pos n) 256)
byte_of Null = Ok 0
byte_of Unset = Err undef.Unset
byte_of c = Err undef.Kind

-- the text at a place of the cells that a live block has
abbrev pub text_in : Option (List Cell) → ℕ → Result (List ℕ) UndefKind
text_in None at = Err undef.Freed
text_in (Some cells) at = bytes_in (drop at cells)

-- the text at a place of a block
abbrev pub text_at : List (Option (List Cell)) → ℕ → ℕ → Result (List ℕ) UndefKind
text_at bs block at = text_in (cells_of bs block) at

-- a refusal is what is answered; want of memory says nothing
abbrev pub Refuses : Fault UndefKind → Result (List ℕ) UndefKind → Type 0
Refuses (Refused u) answer = answer ≡ Err u
Refuses Memory answer = Unit {0}

-- The text that a pointer of a run leads to is the one in its heap.
abbrev pub TextsAreRead : Type 0
TextsAreRead = (s : State.State) (block at : ℕ) → text_at (heap_of s) block at ≡ text_of s (Ptr block at)
