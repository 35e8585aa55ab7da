-- The blocks of a run of C as a heap, and what finding, storing, making and freeing do to it.
use Rattle.std.specs.Prelude.{◌≡◌, ℕ, ◌+◌, ◌≤◌, List, [], ◌∷◌, ◌++◌, map, length, Option, Some, None, true, if◌then◌else◌}
use Rattle.std.specs.Option.{option_map}
use Rattle.std.specs.Result.{result_ok}
use Rattle.c_meaning.specs.declared.cell.Cell.{Cell}
use Rattle.c_meaning.specs.State
use Rattle.c_meaning.specs.State.{Block, Place}
use Rattle.c_meaning.specs.Blocks.{block_of, get, set, next_block, add_block, make, free, unset}
use Rattle.cell_heap.specs.Heap.{cells_of, cell_at, stored, freed, made}

-- a block of a run in a heap
abbrev pub seen : Block → Option (List Cell)
seen b = if b.is_live then Some b.cells else None

-- the blocks of a run as a heap
abbrev pub heap_of : State.State → List (Option (List Cell))
heap_of s = map seen s.blocks

-- The live block with a number has the same cells in both.
abbrev pub BlocksAreFound : Type 0
BlocksAreFound = (s : State.State) (n : ℕ) → cells_of (heap_of s) n ≡ option_map (λ b. b.cells) (result_ok (block_of s n))

-- At each place is the same cell in both.
abbrev pub CellsAreFound : Type 0
CellsAreFound = (s : State.State) (p : Place) → cell_at (heap_of s) p.block p.at ≡ result_ok (get s p)

-- A store of a cell does the same to both.
abbrev pub CellsAreStored : Type 0
CellsAreStored = (s : State.State) (p : Place) (c : Cell) → heap_of (set s p c) ≡ stored (heap_of s) p.block p.at c

-- The block that is made next has the same number in both.
abbrev pub BlocksAreNumbered : Type 0
BlocksAreNumbered = (s : State.State) → next_block s ≡ length (heap_of s) + 1

-- A block of unset cells is made in both.
abbrev pub BlocksAreMade : Type 0
BlocksAreMade = (s : State.State) (n : ℕ) → heap_of (make s (unset n)) ≡ made (heap_of s) n

-- A live block with any cells that is added to the run stands last in the heap.
abbrev pub BlocksAreAdded : Type 0
BlocksAreAdded = (s : State.State) (b : Block) → b.is_live ≡ true → heap_of (add_block s b) ≡ heap_of s ++ Some b.cells ∷ []

-- A freeing does the same to both.
abbrev pub BlocksAreFreed : Type 0
BlocksAreFreed = (s : State.State) (n : ℕ) → heap_of (free s n) ≡ freed (heap_of s) n

-- A number whose block was freed is that of no live block after any making, store or freeing.
abbrev pub FreedBlocksStay : Type 0
FreedBlocksStay = (bs : List (Option (List Cell))) (n : ℕ) → n ≤ length bs → cells_of bs n ≡ None
    → ((m : ℕ) → cells_of (made bs m) n ≡ None) × ((m at : ℕ) (c : Cell) → cells_of (stored bs m at c) n ≡ None) × ((m : ℕ) → cells_of (freed bs m) n ≡ None)
