-- How much of a heap is held.
use Rattle.std.specs.Prelude.{ℕ, ◌+◌, List, [], ◌∷◌, length, Option, Some, None}
use Rattle.c_meaning.specs.declared.cell.Cell.{Cell}
use Rattle.c_meaning.specs.Blocks.{class_size}

-- the cells of the class of a block of n cells: the least power of two that is at least n
unfoldable pub class_cells : ℕ → ℕ
class_cells n = class_size n

-- the cells of the classes of all live blocks
abbrev pub held : List (Option (List Cell)) → ℕ
held [] = 0
held (None ∷ bs) = held bs
held (Some cells ∷ bs) = class_cells (length cells) + held bs
