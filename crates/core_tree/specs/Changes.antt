-- What happens to a value that goes into a place: nothing, a move, a copy, or one more owner.
use Rattle.std.specs.Prelude.{ℕ, suc, ◌^◌, nat_le, false, if◌then◌else◌, List, [], ◌∷◌, length, zip, replicate, Option, Some, None, slice_get}
use Rattle.vg_base.specs.declared.event.VEnd.TheVariants.{Trapped, Dead}
use Rattle.vg_base.specs.declared.event.TrapKind.TheVariants as trap
use Rattle.vala_types.specs.declared.types.Item.{Item as ElementType}
use Rattle.vala_types.specs.declared.types.ItemShape.TheVariants as item
use Rattle.vala_types.specs.declared.types.Shape.{Shape}
use Rattle.vala_types.specs.declared.types.Shape.TheVariants as shape
use Rattle.vala_types.specs.declared.types.VType.{VType}
use Rattle.vala_types.specs.declared.owners.Change.{Change}
use Rattle.vala_types.specs.declared.owners.Change.TheVariants.{Keep, Move, CopyText, CopyArray, CopyStruct, CopyError, AddOwner, NotCopied}
use Rattle.core_tree.specs.declared.program.Core.{Core}
use Rattle.core_tree.specs.State
use Rattle.core_tree.specs.State.{Value, Null, Number, Literal, Arguments, Thing, Message, Cells, Place, Operand, Given, Owned, OwnedCells, Item, CopyCells, ThingState, Content, TextOf, ArrayOf, ErrorOf}
use Rattle.core_tree.specs.Owners.{thing_at}
use Rattle.core_tree.specs.Places.{Out, quiet, stop, stuck, next, cells_of, is_owning, empty_places, range, held, put, fill, ownable, is_owning_place, add_places, with_thing, next_serial, made, reads, cannot_be_owned, is_null, content_of, unless, value_of, give, give_owned, give_made, within_gone}
use Rattle.core_tree.specs.Calls.{type_of_item, give_cells}

-- the bytes of a text, or of an error's message
abbrev pub bytes_in : Option Content → List ℕ
bytes_in (Some (TextOf bytes)) = bytes
bytes_in (Some (ErrorOf domain code message)) = message
bytes_in _ = []

-- the bytes of a text value
abbrev pub bytes_of : State.State → Value → List ℕ
bytes_of s (Literal bytes) = bytes
bytes_of s v = bytes_in (content_of s v)

-- a fresh text, in an owned temporary; one of 2^63 bytes or more is the trap `length`
abbrev pub give_text : State.State → List ℕ → Out
give_text s bytes = if nat_le (2 ^ 63) (length bytes) then stop s (Trapped trap.Length) else give_made s (TextOf bytes) []

-- null is copied as null
abbrev pub unless_null : State.State → Value → Out → Out
unless_null s v o = if is_null v then quiet (give s (Given Null)) else o

-- a text is copied; reading it is a use
abbrev pub copy_text : State.State → Value → Out
copy_text s v = unless_null s v (unless (reads s (v ∷ [])) s (give_text s (bytes_of s v)))

-- a fresh error of the same domain, code and message
abbrev pub copy_error_in : State.State → Option Content → Out
copy_error_in s (Some (ErrorOf domain code message)) = give_made s (ErrorOf domain code message) []
copy_error_in s _ = stuck s

-- an error is copied
abbrev pub copy_error : State.State → Value → Out
copy_error s v = unless_null s v (unless (reads s (v ∷ [])) s (copy_error_in s (content_of s v)))

-- the cells of an array, and how many elements it has: those of a thing, or of the arguments of `main`
abbrev pub cells_in : State.State → Value → List ℕ
cells_in s (Thing t) = range_in (thing_at s t)
  where
    range_in : Option ThingState → List ℕ
    range_in None = []
    range_in (Some x) = range x.first x.count
cells_in s (Arguments first count) = range first count
cells_in s v = []

-- an empty array of so many elements
abbrev pub empty_array : Core → State.State → ElementType → ℕ → List Place
empty_array core s of count = empty_places core (Some (next_serial s)) (replicate count (type_of_item of))

-- A copy of an array is made empty, and then gets its cells one by one.
abbrev pub copy_array_of : Core → State.State → Value → ElementType → ℕ → Out
copy_array_of core s v of count =
    let o : Out = give_made s (ArrayOf of count) (empty_array core s of count) in
    (next (CopyCells (zip (cells_in s v) (range (length s.places) (length (cells_in s v)))) ∷ []) o.0, o.1)

-- the same of an array that is a thing
abbrev pub copy_array_in : Core → State.State → Value → Option Content → Out
copy_array_in core s v (Some (ArrayOf of count)) = copy_array_of core s v of count
copy_array_in core s v _ = stuck s

-- an array is copied, with its elements; the copy of the arguments of `main` is an array of texts
abbrev pub copy_array : Core → State.State → ElementType → Value → Out
copy_array core s of (Arguments first count) = copy_array_of core s (Arguments first count) of count
copy_array core s of v = unless_null s v (unless (reads s (v ∷ [])) s (copy_array_in core s v (content_of s v)))

-- the cells that do not own are copied at once, and those that own stand empty
abbrev pub copied_cells : State.State → List VType → ℕ → List Place
copied_cells s [] n = []
copied_cells s (kind ∷ kinds) n =
    record { owning = is_owning kind; holds = if is_owning kind then Null else held s n; within = None } ∷ copied_cells s kinds (suc n)

-- those of some cells that own, each with where it is copied to
abbrev pub owning_pairs : List VType → (from to : ℕ) → List (ℕ × ℕ)
owning_pairs [] from to = []
owning_pairs (kind ∷ kinds) from to =
    if is_owning kind then (from, to) ∷ owning_pairs kinds (suc from) (suc to) else owning_pairs kinds (suc from) (suc to)

-- the second of each pair
abbrev pub second_of : List (ℕ × ℕ) → List ℕ
second_of [] = []
second_of (p ∷ ps) = p.1 ∷ second_of ps

-- A copy of a struct: in one step the cells that do not own, and then the others one by one.
abbrev pub copy_struct_at : Core → State.State → VType → ℕ → Out
copy_struct_at core s kind first =
    let kinds : List VType = cells_of core kind in
    let pairs : List (ℕ × ℕ) = owning_pairs kinds first (length s.places) in
    quiet (next (CopyCells pairs ∷ []) (give_cells (add_places s (copied_cells s kinds first)) (OwnedCells (length s.places) (length kinds)) (second_of pairs)))

-- a struct that stands in a thing that is gone is a dead use
abbrev pub copy_struct : Core → State.State → VType → Value → Out
copy_struct core s kind (Cells first) = if within_gone s (slice_get s.places first) then stop s Dead else copy_struct_at core s kind first
copy_struct core s kind v = stuck s

-- one more owner of an object, in an owned temporary
abbrev pub add_owner : State.State → Value → Out
add_owner s v = unless_null s v (if cannot_be_owned s v then stop s Dead else quiet (give_owned s v))

-- the type of the elements of an array type
abbrev pub element_in : Shape → ElementType
element_in (shape.Array of) = of
element_in _ = record { shape = item.Text; nullable = false }

-- the change of what was given, which goes into a place of the type
abbrev pub change : Core → State.State → Change → VType → Operand → Out
change core s Keep kind o = quiet (give s o)
change core s Move kind o = quiet (give s o)
change core s CopyText kind o = copy_text s (value_of s o)
change core s CopyArray kind o = copy_array core s (element_in kind.shape) (value_of s o)
change core s CopyStruct kind o = copy_struct core s kind (value_of s o)
change core s CopyError kind o = copy_error s (value_of s o)
change core s AddOwner kind o = add_owner s (value_of s o)
change core s NotCopied kind o = stuck s

-- Copying a cell that owns, by what it holds

-- a copy of a text goes into a cell
abbrev pub cell_text : State.State → ℕ → List ℕ → Out
cell_text s to bytes = (fill (with_thing s (TextOf bytes) []) to (Thing (next_serial s)), made (TextOf bytes))

-- a copy of an array goes into a cell
abbrev pub cell_array : Core → State.State → ℕ → Value → ElementType → ℕ → Out
cell_array core s to v of count =
    (next (CopyCells (zip (cells_in s v) (range (length s.places) (length (cells_in s v)))) ∷ []) (fill (with_thing s (ArrayOf of count) (empty_array core s of count)) to (Thing (next_serial s))), made (ArrayOf of count))

-- a cell gets a copy of a text, error or array, or becomes one more owner of an object
abbrev pub cell_thing : Core → State.State → ℕ → Value → Option Content → Out
cell_thing core s to v (Some (TextOf bytes)) = cell_text s to bytes
cell_thing core s to v (Some (ErrorOf domain code message)) =
    (fill (with_thing s (ErrorOf domain code message) []) to (Thing (next_serial s)), made (ErrorOf domain code message))
cell_thing core s to v (Some (ArrayOf of count)) = cell_array core s to v of count
cell_thing core s to v _ = if cannot_be_owned s v then stop s Dead else quiet (fill s to v)

-- a cell that owns gets a copy of this value
abbrev pub copy_value : Core → State.State → ℕ → Value → Out
copy_value core s to (Literal bytes) = cell_text s to bytes
copy_value core s to (Message t) = unless (reads s (Message t ∷ [])) s (cell_text s to (bytes_of s (Message t)))
copy_value core s to (Thing t) = cell_thing core s to (Thing t) (content_of s (Thing t))
copy_value core s to v = quiet (fill s to (ownable s v))

-- One cell is copied: one that does not own as it is, one that owns by the change of its type.
abbrev pub copy_cell : Core → State.State → (from to : ℕ) → Out
copy_cell core s from to = if is_owning_place s to then copy_value core s to (held s from) else quiet (put s to (held s from))
