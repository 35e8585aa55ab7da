-- Several cells of a block at once.
use Rattle.std.specs.Prelude.{◌≡◌, ℕ, ◌+◌, nat_le, List, length, take, drop, Option, Some, None, if◌then◌else◌}
use Rattle.std.specs.Option.{option_and_then}
use Rattle.std.specs.Result.{result_ok}
use Rattle.c_meaning.specs.declared.cell.Cell.{Cell}
use Rattle.c_meaning.specs.State
use Rattle.c_meaning.specs.State.{Place}
use Rattle.c_meaning.specs.Blocks.{over, get_cells, set_cells}
use Rattle.cell_heap.specs.Heap.{cells_of, with_block}
use Rattle.cell_heap.specs.States.{heap_of}

-- so many cells from a place on, where there are so many
abbrev pub part : ℕ → ℕ → List Cell → Option (List Cell)
part at n cells = if nat_le (at + n) (length cells) then Some (take n (drop at cells)) else None

-- so many cells of a live block from a place on
abbrev pub cells_at : List (Option (List Cell)) → ℕ → ℕ → ℕ → Option (List Cell)
cells_at bs block at n = option_and_then (part at n) (cells_of bs block)

-- cells over those from a place on, where there are so many
abbrev pub written : ℕ → List Cell → List Cell → List Cell
written at new cells = if nat_le (at + length new) (length cells) then over cells at new else cells

-- cells over those that a live block has
abbrev pub with_run : List (Option (List Cell)) → ℕ → ℕ → List Cell → Option (List Cell) → List (Option (List Cell))
with_run bs block at new None = bs
with_run bs block at new (Some cells) = with_block bs block (Some (written at new cells))

-- cells are stored from a place of a live block on; where it has not so many nothing changes
abbrev pub run_stored : List (Option (List Cell)) → ℕ → ℕ → List Cell → List (Option (List Cell))
run_stored bs block at new = with_run bs block at new (cells_of bs block)

-- A store of cells does the same to both.
abbrev pub RunsAreStored : Type 0
RunsAreStored = (s : State.State) (p : Place) (new : List Cell) → heap_of (set_cells s p new) ≡ run_stored (heap_of s) p.block p.at new

-- At each place are the same cells in a run and in its heap.
abbrev pub RunsAreFound : Type 0
RunsAreFound = (s : State.State) (p : Place) (n : ℕ) → cells_at (heap_of s) p.block p.at n ≡ result_ok (get_cells s p n)
