-- Stores, and what is made and freed, in a run and in its heap.
use Rattle.std.proofs.Common.{◌≡◌, ◌∙◌, refl, sym, ap, subst, ℕ, ◌+◌, Bool, true, false, List, length, map, Option, Some, None, Ok, Err, cond}
use Rattle.std.specs.Prelude.{nat_le, is_some, take, drop, if◌then◌else◌}
use Rattle.std.specs.Option.{option_map}
use Rattle.std.specs.Result.{result_ok}
use Rattle.vg_base.specs.declared.event.UndefKind.TheVariants as undef
use Rattle.c_tree.specs.Env.{Env}
use Rattle.c_meaning.specs.declared.cell.Cell.{Cell}
use Rattle.c_meaning.specs.State
use Rattle.c_meaning.specs.State.{Block, Place}
use Rattle.c_meaning.specs.Blocks.{Answer, on, bind, undefined, block_of, block_at, live_block, with_block, over, set_cells}
use Rattle.glib_model.specs.Kinds.{mark_at}
use Rattle.cell_heap.specs.Heap.{cells_of}
use Rattle.cell_heap.specs.Runs.{cells_at, run_stored}
use Rattle.cell_heap.specs.States.{heap_of}
use Rattle.cell_heap.proofs.StateLaws.{blocks_found}
use Rattle.cell_heap.proofs.RunStores.{runs_stored}
use Rattle.cell_heap.proofs.RunLaws.{runs_found}
use Rattle.glib_model.specs.declared.ends.LibEnd.{LibEnd}
use Rattle.glib_model.specs.Ends.{Tells, stored, refreshed, told}
use Rattle.c_run_state.specs.declared.state.Run.{Run}
use Rattle.c_run_state.specs.Shows.{Books, Shows, standing_of}
use Rattle.c_code.specs.declared.program.Sliced.{Sliced}
use Rattle.c_run_state.specs.Answers.{sliced_by}
use Rattle.c_run_state.specs.Stores.{no_store}
use Rattle.c_run_state.proofs.Listed.{marked, marks_listed, with_alike, refreshed_alike, standing_of_cells, mark_of_cells}
use Rattle.c_run_state.proofs.Parts.{with_blocks, other_heap}

-- the store with an answer for the block, and whether the cells fit
abbrev put : State.State → ℕ → List Cell → ℕ → Block → State.State
put s n cells at x = record s { blocks = with_block s.blocks n (record x { cells = over x.cells at cells }) }

abbrev stored_by : State.State → Place → List Cell → Answer Block → State.State
stored_by s p cells r = on s r (λ x. if nat_le (p.at + length cells) (length x.cells) then put s p.block cells p.at x else undefined s undef.Outside)

-- other cells of a live block are not noted
books_put : (env : Env) (run : Run) (s : State.State) (n : ℕ) (cells : List Cell) (at : ℕ) (x : Block) → block_of s n ≡ Ok x → Books env run s → Books env run (put s n cells at x)
books_put env run s n cells at x is b =
    let y : Block = record x { cells = over x.cells at cells } in
    let noted : map standing_of (with_block s.blocks n y) ≡ map standing_of s.blocks = with_alike standing_of s.blocks n x y is (standing_of_cells x (over x.cells at cells)) in
    let marks : map marked (with_block s.blocks n y) ≡ map marked s.blocks = with_alike marked s.blocks n x y is (mark_of_cells x (over x.cells at cells)) in
    with_blocks env run s (with_block s.blocks n y) s.peaks run.made s.made run.kinds run.standings b.made (b.standings ∙ sym noted) (λ k. b.marks k ∙ marks_listed s.blocks k ∙ ap (λ ms. mark_at ms k) (sym marks)) b

-- whether a block has so many cells from a place on
abbrev has_by : Place → List Cell → Answer Block → Option (List Cell)
has_by p cells r = result_ok (bind r (λ x. if nat_le (p.at + length cells) (length x.cells) then Ok (take (length cells) (drop p.at x.cells)) else Err undef.Outside))

-- cells that fit are stored
books_stored : (env : Env) (run : Run) (s : State.State) (p : Place) (cells : List Cell) → Books env run s → (r : Answer Block) → block_of s p.block ≡ r → true ≡ is_some (has_by p cells r) → Books env run (stored_by s p cells r)
books_stored env run s p cells b (Err u) is there = cc
books_stored env run s p cells b (Ok x) is there = by (nat_le (p.at + length cells) (length x.cells)) there
  where
    by : (fits : Bool) → true ≡ is_some (result_ok (cond fits (let r : Answer (List Cell) = Ok (take (length cells) (drop p.at x.cells)) in r) (Err undef.Outside))) → Books env run (cond fits (put s p.block cells p.at x) (undefined s undef.Outside))
    by true k = books_put env run s p.block cells p.at x is b
    by false k = cc

pub cells_stored : (env : Env) (run : Run) (s : State.State) (p : Place) (cells : List Cell) (heap : List (Option (List Cell))) → Shows env run s → true ≡ is_some (cells_at run.heap p.block p.at (length cells)) → heap ≡ run_stored run.heap p.block p.at cells
    → Shows env (record run { heap = heap }) (set_cells s p cells)
cells_stored env run s p cells heap sh there is =
    let found : cells_at run.heap p.block p.at (length cells) ≡ has_by p cells (block_of s p.block) = ap (λ h. cells_at h p.block p.at (length cells)) (sym sh.heap) ∙ runs_found s p (length cells) in
    record {
      heap = runs_stored s p cells ∙ ap (λ h. run_stored h p.block p.at cells) sh.heap ∙ sym is;
      books = other_heap env run (set_cells s p cells) heap (books_stored env run s p cells sh.books (block_of s p.block) refl (there ∙ ap is_some found));
    }

not_by : (s : State.State) (p : Place) (cells : List Cell) (r : Answer Block) → block_of s p.block ≡ r → false ≡ is_some (has_by p cells r) → stored_by s p cells r ≡ undefined s (no_store (option_map (λ x. x.cells) (result_ok r)))
not_by s p cells (Err u) is none = ap (undefined s) (only (block_at s.blocks p.block) is)
  where
    only : (o : Option Block) → live_block o ≡ Err u → u ≡ undef.Freed
    only None k = cc
    only (Some x) k = by x.is_live k
      where
        by : (live : Bool) → cond live (let r : Answer Block = Ok x in r) (Err undef.Freed) ≡ Err u → u ≡ undef.Freed
        by true k = cc
        by false k = cc
not_by s p cells (Ok x) is none = by (nat_le (p.at + length cells) (length x.cells)) none
  where
    by : (fits : Bool) → false ≡ is_some (result_ok (cond fits (let r : Answer (List Cell) = Ok (take (length cells) (drop p.at x.cells)) in r) (Err undef.Outside))) → cond fits (put s p.block cells p.at x) (undefined s undef.Outside) ≡ undefined s undef.Outside
    by true k = cc
    by false k = refl

pub not_stored : (env : Env) (run : Run) (s : State.State) (p : Place) (cells : List Cell) → Shows env run s → false ≡ is_some (cells_at run.heap p.block p.at (length cells)) → set_cells s p cells ≡ undefined s (no_store (cells_of run.heap p.block))
not_stored env run s p cells sh none =
    let found : cells_at run.heap p.block p.at (length cells) ≡ has_by p cells (block_of s p.block) = ap (λ h. cells_at h p.block p.at (length cells)) (sym sh.heap) ∙ runs_found s p (length cells) in
    not_by s p cells (block_of s p.block) refl (none ∙ ap is_some found) ∙ ap (λ o. undefined s (no_store o)) (sym (blocks_found s p.block) ∙ ap (λ h. cells_of h p.block) sh.heap)

-- 2. What the library stored

pub books_refreshed : (env : Env) (run : Run) (s : State.State) (heap : List (Option (List Cell))) → Books env run s → Books env run (stored s heap)
books_refreshed env run s heap b =
    let noted : map standing_of (refreshed s.blocks heap) ≡ map standing_of s.blocks = refreshed_alike standing_of standing_of_cells s.blocks heap in
    let marks : map marked (refreshed s.blocks heap) ≡ map marked s.blocks = refreshed_alike marked mark_of_cells s.blocks heap in
    with_blocks env run s (refreshed s.blocks heap) s.peaks run.made s.made run.kinds run.standings b.made (b.standings ∙ sym noted) (λ k. b.marks k ∙ marks_listed s.blocks k ∙ ap (λ ms. mark_at ms k) (sym marks)) b

-- an answer is done where its notes and what comes of it are done
pub applied : (env : Env) (old new : Run) (s after : State.State) (answer : LibEnd) → new.heap ≡ old.heap → Books env new (told s old.heap answer) → Tells s after old.heap answer → Shows env new after
applied env old new s after answer kept b tells = record { heap = tells.blocks ∙ sym kept; books = subst (Books env new) (sym tells.run) b }

-- what `g_slice_new0` made is shown where it is noted
pub slice_shown : (env : Env) (old new : Run) (s : State.State) (n : ℕ) (k j : Sliced) → k ≡ j → heap_of (sliced_by k n s) ≡ old.heap → new.heap ≡ old.heap → Books env new (sliced_by j n s) → Shows env new (sliced_by k n s)
slice_shown env old new s n k j same has kept b = record { heap = has ∙ sym kept; books = subst (λ i. Books env new (sliced_by i n s)) (sym same) b }
