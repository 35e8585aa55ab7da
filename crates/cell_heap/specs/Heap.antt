-- A heap as the list of the blocks in the order of their making, each with its cells where it is not freed.
use Rattle.std.specs.Prelude.{ℕ, zero, suc, List, [], ◌∷◌, ◌++◌, Option, Some, None, replicate, slice_get, slice_set}
use Rattle.std.specs.Option.{option_and_then}
use Rattle.c_meaning.specs.declared.cell.Cell.{Cell}
use Rattle.c_meaning.specs.declared.cell.Cell.TheVariants.{Unset}

-- the block that was made with a number, which counts from 1, if there is one and it is not freed
abbrev pub joined : Option (Option (List Cell)) → Option (List Cell)
joined None = None
joined (Some block) = block

-- the cells of the live block with a number, which counts from 1
abbrev pub cells_of : List (Option (List Cell)) → ℕ → Option (List Cell)
cells_of bs zero = None
cells_of bs (suc n) = joined (slice_get bs n)

-- the cell at a place of a live block
abbrev pub cell_at : List (Option (List Cell)) → ℕ → ℕ → Option Cell
cell_at bs n at = option_and_then (λ cells. slice_get cells at) (cells_of bs n)

-- the block with a number is another one
abbrev pub with_block : List (Option (List Cell)) → ℕ → Option (List Cell) → List (Option (List Cell))
with_block bs zero block = bs
with_block bs (suc n) block = slice_set bs n block

-- a cell is stored at a place of the cells that a live block has
abbrev pub with_cell : List (Option (List Cell)) → ℕ → ℕ → Cell → Option (List Cell) → List (Option (List Cell))
with_cell bs n at c None = bs
with_cell bs n at c (Some cells) = with_block bs n (Some (slice_set cells at c))

-- a cell is stored at a place of a live block; where there is no such place nothing changes
abbrev pub stored : List (Option (List Cell)) → ℕ → ℕ → Cell → List (Option (List Cell))
stored bs n at c = with_cell bs n at c (cells_of bs n)

-- the block with a number is freed for good; where it is not live nothing changes
abbrev pub freed : List (Option (List Cell)) → ℕ → List (Option (List Cell))
freed bs n = with_block bs n None

-- a block of so many unset cells is made
abbrev pub made : List (Option (List Cell)) → ℕ → List (Option (List Cell))
made bs n = bs ++ Some (replicate n Unset) ∷ []
