-- What a function of the library answers, and what that tells of the run.
use Rattle.std.specs.Prelude.{◌≡◌, ℕ, ◌==◌, Bool, true, false, List, [], ◌∷◌, map, Option, Some, None, if◌then◌else◌}
use Rattle.vg_base.specs.declared.event.Event.TheVariants as event
use Rattle.vg_base.specs.declared.event.CEnd.TheVariants as «end»
use Rattle.vg_base.specs.declared.event.ThingKind.TheVariants as thing
use Rattle.vg_base.specs.declared.event.TrapKind.TheVariants as trap
use Rattle.vg_base.specs.declared.event.UndefKind.{UndefKind}
use Rattle.vg_base.specs.declared.event.Fault.{Fault}
use Rattle.vg_base.specs.declared.event.Fault.TheVariants as fault
use Rattle.c_meaning.specs.declared.cell.Cell.{Cell}
use Rattle.c_meaning.specs.declared.cell.Cell.TheVariants.{Unset}
use Rattle.c_meaning.specs.State
use Rattle.c_meaning.specs.State.{Block, Item, Ask}
use Rattle.c_meaning.specs.Blocks.{stop, undefined, happens, make_thing, free, next_block, next_pointer}
use Rattle.c_meaning.specs.Texts.{give, give_nothing}
use Rattle.c_meaning.specs.TypeRows.{push}
use Rattle.c_meaning.specs.BlockRows.{Does, TypeArgument, g_slice_new0}
use Rattle.cell_heap.specs.Heap.{cells_of}
use Rattle.cell_heap.specs.States.{heap_of}
use Rattle.glib_model.specs.declared.kinds.Mark.{Mark}
use Rattle.glib_model.specs.declared.ends.Note.{Note}
use Rattle.glib_model.specs.declared.ends.Note.TheVariants.{Made, Freed, Dispatch}
use Rattle.glib_model.specs.declared.ends.LibCall.{LibCall}
use Rattle.glib_model.specs.declared.ends.LibWhat.{LibWhat}
use Rattle.glib_model.specs.declared.ends.LibWhat.TheVariants as what
use Rattle.glib_model.specs.declared.ends.LibEnd.{LibEnd}
use Rattle.glib_model.specs.Kinds.{Sees}

-- 1. What is stored

-- a block with the cells that a heap has for it; one that the heap has no more is as it was
abbrev pub with_cells : Block → Option (List Cell) → Block
with_cells b None = b
with_cells b (Some cells) = record b { cells = cells }

abbrev pub refreshed : List Block → List (Option (List Cell)) → List Block
refreshed [] heap = []
refreshed (b ∷ bs) [] = b ∷ bs
refreshed (b ∷ bs) (cells ∷ heap) = with_cells b cells ∷ refreshed bs heap

-- the run with what a heap has in the blocks
abbrev pub stored : State.State → List (Option (List Cell)) → State.State
stored s heap = record s { blocks = refreshed s.blocks heap }

-- 2. What is noted

abbrev pub cells_in : Option (List Cell) → List Cell
cells_in None = []
cells_in (Some cells) = cells

-- a thing was made under the next number, or a block was freed, or the main loop dispatches a source
abbrev pub noted : State.State → List (Option (List Cell)) → Note → State.State
noted s heap (Made n kind) = if n == next_block s then make_thing s kind None false (cells_in (cells_of heap n)) else s
noted s heap (Freed n) = free s n
noted s heap (Dispatch id) = happens s (event.Dispatch id)

abbrev pub noted_all : State.State → List (Option (List Cell)) → List Note → State.State
noted_all s heap [] = s
noted_all s heap (n ∷ ns) = noted_all (noted s heap n) heap ns

-- 3. What comes of it

-- calls that are asked for, as items of the work
abbrev pub asked : List LibCall → List Item
asked calls = map (λ (c : LibCall). Ask c.func c.args) calls

-- the value Unset is that of a function that gives nothing; calls are the next items of the work, the first one in front
abbrev pub finished : State.State → LibWhat → State.State
finished s (what.Value Unset) = give_nothing s
finished s (what.Value c) = give s c
finished s (what.Calls list) = push (asked list.calls) s
finished s (what.Print to bytes) = give_nothing (happens s (event.Print to bytes))
finished s (what.Aborted kind) = stop s («end».Aborted kind)
finished s (what.Undefined kind) = undefined s kind
finished s what.Waiting = stop s («end».Waiting)

-- WHAT AN ANSWER TELLS of a run: the stores that the heap shows, then what was noted, then what comes of it
abbrev pub told : State.State → List (Option (List Cell)) → LibEnd → State.State
told s heap answer = finished (noted_all (stored s heap) heap answer.notes) answer.what

pub record Tells (s after : State.State) (heap : List (Option (List Cell))) (answer : LibEnd) : Type 0 where
  pub run : after ≡ told s heap answer
  pub blocks : heap_of after ≡ heap

-- a refusal ends the run; want of memory is no answer
abbrev pub RefusedBy : Fault UndefKind → LibEnd → Type 0
RefusedBy (fault.Refused u) answer = answer ≡ record { what = what.Undefined u; notes = [] }
RefusedBy fault.Memory answer = ⊥

-- 4. Rows

-- THE ANSWER IS THAT OF A ROW, in each run that has the old heap and the marks, whatever type stands before the arguments
abbrev pub IsRow : Does → List Cell → List (Option (List Cell)) → List (Option Mark) → List (Option (List Cell)) → LibEnd → Type 0
IsRow row args old marks new answer = (s : State.State) (t : TypeArgument) → Sees s old marks → Tells s (row s t args) new answer

-- the same of a row that takes a type of so many cells
abbrev pub IsTypedRow : Does → ℕ → List Cell → List (Option (List Cell)) → List (Option Mark) → List (Option (List Cell)) → LibEnd → Type 0
IsTypedRow row cells args old marks new answer = (s : State.State) (t : TypeArgument) → t.cells ≡ cells → Sees s old marks → Tells s (row s t args) new answer

-- the answer tells what becomes of each run with the old heap
abbrev pub InRun : (State.State → State.State) → List (Option (List Cell)) → List (Option (List Cell)) → LibEnd → Type 0
InRun becomes old new answer = (s : State.State) → heap_of s ≡ old → Tells s (becomes s) new answer

-- an array with these cells is made and given, if it is not too long
abbrev pub array_of : Bool → State.State → List Cell → State.State
array_of true s cells = stop s («end».Aborted trap.Length)
array_of false s cells = give (make_thing s thing.Array None false cells) (next_pointer s)

-- the answer gives what `g_slice_new0` makes; which thing that is, the name of the type's first field tells, and no note
abbrev pub IsSliceRow : ℕ → List (Option (List Cell)) → List (Option (List Cell)) → LibEnd → Type 0
IsSliceRow cells old new answer =
    (s : State.State) (t : TypeArgument) (args : List Cell) → t.cells ≡ cells → heap_of s ≡ old
    → (heap_of (g_slice_new0 s t args) ≡ new) × (answer ≡ record { what = what.Value (next_pointer s); notes = [] })
