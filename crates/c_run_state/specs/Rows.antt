-- What lives, told by what a run holds of each block.
use Rattle.std.specs.Prelude.{ℕ, suc, List, [], ◌∷◌, ◌++◌, Option, Some, None, slice_get}
use Rattle.std.specs.Option.{option_and_then}
use Rattle.vg_base.specs.declared.event.ThingKind.{ThingKind}
use Rattle.vg_base.specs.declared.event.ThingKind.TheVariants as thing
use Rattle.vg_base.specs.declared.event.LiveRow.{LiveRow}
use Rattle.c_meaning.specs.declared.cell.Cell.{Cell}
use Rattle.c_meaning.specs.Blocks.{number_in}
use Rattle.cell_heap.specs.Heap.{cells_of}
use Rattle.glib_model.specs.declared.kinds.Mark.{Mark}
use Rattle.glib_model.specs.Kinds.{mark_at}
use Rattle.c_run_state.specs.declared.state.Standing.{Standing}
use Rattle.c_run_state.specs.declared.state.Standing.TheVariants as standing

-- the number in a count cell, and 0 where there is none
abbrev pub counted_in : Option (List Cell) → Option ℕ → ℕ
counted_in cells None = 0
counted_in cells (Some at) = number_in (option_and_then (λ cs. slice_get cs at) cells)

-- the count of a thing of a kind, which is 1 where it is no object and no scope
abbrev pub owners_in : Option (List Cell) → Option ℕ → ThingKind → ℕ
owners_in cells count thing.Object = counted_in cells count
owners_in cells count thing.Scope = counted_in cells count
owners_in cells count k = 1

abbrev pub row_of_kind : Option ThingKind → Option ℕ → Option (List Cell) → ℕ → List LiveRow
row_of_kind None count cells serial = []
row_of_kind (Some k) count cells serial = record { kind = k; serial = serial; owners = owners_in cells count k } ∷ []

abbrev pub row_by : Option Mark → Option (List Cell) → ℕ → List LiveRow
row_by None cells serial = []
row_by (Some m) cells serial = row_of_kind m.kind m.count cells serial

-- the row of a block that is a thing
abbrev pub row_in : Option Mark → Option (List Cell) → Standing → List LiveRow
row_in mark cells (standing.Thing serial) = row_by mark cells serial
row_in mark cells x = []

-- the rows of the blocks from a number on
abbrev pub rows_from : List (Option (List Cell)) → List (Option Mark) → ℕ → List Standing → List LiveRow
rows_from heap marks n [] = []
rows_from heap marks n (x ∷ xs) = row_in (mark_at marks n) (cells_of heap n) x ++ rows_from heap marks (suc n) xs
