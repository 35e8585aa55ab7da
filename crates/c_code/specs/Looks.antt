-- What is found in the blocks of a heap, or why it is not there.
use Rattle.std.specs.Prelude.{◌≡◌, ℕ, ◌+◌, nat_le, if◌then◌else◌, ℤ, pos, ◌+ℤ◌, List, length, take, drop, Option, Some, None, Ok, Err, slice_get}
use Rattle.vg_base.specs.declared.event.UndefKind.TheVariants as undef
use Rattle.c_tree.specs.declared.kinds.Kind.{Kind}
use Rattle.c_tree.specs.Kinds.{is_struct}
use Rattle.c_meaning.specs.declared.cell.Cell.{Cell}
use Rattle.c_meaning.specs.declared.cell.Cell.TheVariants.{Ptr, Null, Unset}
use Rattle.c_meaning.specs.State
use Rattle.c_meaning.specs.State.{Place, Value, Scalar, Struct}
use Rattle.c_meaning.specs.Blocks.{Answer, bind, cell_of, get, get_cells}
use Rattle.c_meaning.specs.Numbers.{converted, place_in, pointed, moved, stepped, read, to}
use Rattle.cell_heap.specs.Heap.{cells_of}
use Rattle.cell_heap.specs.States.{heap_of}

-- blocks by their numbers, each with its cells where it is live
abbrev pub Heap : Type 0
Heap = List (Option (List Cell))

abbrev pub live : Option (List Cell) → Answer (List Cell)
live None = Err undef.Freed
live (Some cells) = Ok cells

-- the cells of a live block
abbrev pub block_in : Heap → ℕ → Answer (List Cell)
block_in heap n = live (cells_of heap n)

-- the cell at a place
abbrev pub get_in : Heap → Place → Answer Cell
get_in heap p = bind (block_in heap p.block) (λ cells. cell_of (slice_get cells p.at))

-- so many cells from a place on
abbrev pub get_cells_in : Heap → Place → ℕ → Answer (List Cell)
get_cells_in heap p n = bind (block_in heap p.block) (λ cells. if nat_le (p.at + n) (length cells) then Ok (take n (drop p.at cells)) else Err undef.Outside)

-- the value at a place of a kind that takes so many cells
abbrev pub read_in : Heap → Kind → ℕ → Place → Answer Value
read_in heap k n p = if is_struct k then bind (get_cells_in heap p n) (λ cs. Ok (Struct cs)) else bind (get_in heap p) (λ c. converted k (Scalar c))

-- the place that a pointer leads to
abbrev pub pointed_in : Heap → Cell → Answer Place
pointed_in heap (Ptr b at) = bind (block_in heap b) (λ cells. Ok (record { block = b; at = at }))
pointed_in heap Null = Err undef.Null
pointed_in heap Unset = Err undef.Unset
pointed_in heap c = Err undef.Kind

-- a place so many cells on, within 0 and the length of its block
abbrev pub moved_in : Heap → Place → ℤ → Answer Place
moved_in heap p n = bind (block_in heap p.block) (λ cells. place_in p.block (length cells) (pos p.at +ℤ n))

-- a pointer and so many cells
abbrev pub stepped_in : Heap → Cell → ℤ → Answer Cell
stepped_in heap c n = bind (pointed_in heap c) (λ p. bind (moved_in heap p n) (λ q. Ok (to q)))

-- What is found in the heap of a run is what is found in the run.
pub record SeesAlike (s : State.State) : Type 0 where
  pub cells : (p : Place) → get_in (heap_of s) p ≡ get s p
  pub runs : (p : Place) (n : ℕ) → get_cells_in (heap_of s) p n ≡ get_cells s p n
  pub reads : (k : Kind) (n : ℕ) (p : Place) → read_in (heap_of s) k n p ≡ read s k n p
  pub pointers : (c : Cell) → pointed_in (heap_of s) c ≡ pointed s c
  pub moves : (p : Place) (z : ℤ) → moved_in (heap_of s) p z ≡ moved s p z
  pub steps : (c : Cell) (z : ℤ) → stepped_in (heap_of s) c z ≡ stepped s c z

abbrev pub HeapsAreSeen : Type 0
HeapsAreSeen = (s : State.State) → SeesAlike s
