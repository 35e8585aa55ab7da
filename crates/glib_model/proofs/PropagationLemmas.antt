-- An error moves to a place.
use Rattle.std.proofs.Common.{◌≡◌, ◌∙◌, refl, sym, ap, subst, ℕ, zero, suc, ◌+◌, Bool, true, false, List, [], ◌∷◌, length, map, take, drop, Option, Some, Result, Ok, Err, IfOk, cond, nat_le, append-nil}
use Rattle.std.specs.Prelude.{slice_get}
use Rattle.vg_base.specs.declared.event.UndefKind.{UndefKind}
use Rattle.vg_base.specs.declared.event.UndefKind.TheVariants as undef
use Rattle.vg_base.specs.declared.event.ThingKind.TheVariants as thing
use Rattle.c_meaning.specs.declared.cell.Cell.{Cell}
use Rattle.c_meaning.specs.declared.cell.Cell.TheVariants.{Int, Uns, Ptr, Func, Null, Unset}
use Rattle.c_meaning.specs.State
use Rattle.c_meaning.specs.State.{Block, Place}
use Rattle.c_meaning.specs.Blocks as meaning
use Rattle.c_meaning.specs.Blocks.{Answer, bind, on, block_at, block_of, live_block, cell_of, get, get_cells, set, over, put_at, undefined, free}
use Rattle.c_meaning.specs.Numbers.{pointed}
use Rattle.c_meaning.specs.Texts.{give_nothing}
use Rattle.c_meaning.specs.BlockRows.{TypeArgument, thing_of, g_propagate_error, g_error_free}
use Rattle.cell_heap.specs.Heap as heaps
use Rattle.cell_heap.specs.States.{seen, heap_of}
use Rattle.cell_heap.proofs.StateLaws.{cells_stored, live_is, seen_cells}
use Rattle.glib_model.specs.declared.kinds.Mark.{Mark}
use Rattle.glib_model.specs.declared.ends.LibEnd.{LibEnd}
use Rattle.glib_model.specs.declared.ends.LibWhat.TheVariants as what
use Rattle.glib_model.specs.Kinds.{Sees, numbered}
use Rattle.glib_model.specs.Errors.{destination}
use Rattle.glib_model.specs.Ends.{Tells, IsRow, with_cells, refreshed, stored}
use Rattle.glib_model.proofs.Telling.{same_cells, refreshed_same, with_blocks}
use Rattle.glib_model.proofs.BlockLemmas.{on_number, on_none}
use Rattle.glib_model.proofs.Rows.{tells_along, quiet_along}

-- 1. A store of a cell is seen in the heap

live_same : (x b : Block) → live_block (Some x) ≡ Ok b → x ≡ b
live_same x b is = by x.is_live is
  where
    by : (live : Bool) → cond live (let r : Answer Block = Ok x in r) (Err undef.Freed) ≡ Ok b → x ≡ b
    by true k = cc
    by false k = cc

refreshed_all : (bs : List Block) → refreshed bs (map seen bs) ≡ bs
refreshed_all bs = ap (refreshed bs) (sym (append-nil (map seen bs))) ∙ refreshed_same bs []

abbrev changed : Block → List Cell → Block
changed b cells = record b { cells = cells }

put_first : (x b : Block) (bs : List Block) (cells : List Cell) → live_block (Some x) ≡ Ok b → with_cells x (seen (changed b cells)) ∷ refreshed bs (map seen bs) ≡ changed b cells ∷ bs
put_first x b bs cells is =
    ap (λ o. with_cells x o ∷ refreshed bs (map seen bs)) (seen_cells b cells (live_is (Some x) b is))
    ∙ ap (λ y. changed y cells ∷ refreshed bs (map seen bs)) (live_same x b is)
    ∙ ap (λ ys. changed b cells ∷ ys) (refreshed_all bs)

refreshed_put : (bs : List Block) (n : ℕ) (b : Block) (cells : List Cell) → live_block (slice_get bs n) ≡ Ok b → refreshed bs (map seen (put_at bs n (changed b cells))) ≡ put_at bs n (changed b cells)
refreshed_put [] n b cells is = refl
refreshed_put (x ∷ bs) zero b cells is = put_first x b bs cells is
refreshed_put (x ∷ bs) (suc n) b cells is =
    ap (λ y. y ∷ refreshed bs (map seen (put_at bs n (changed b cells)))) (same_cells x) ∙ ap (λ ys. x ∷ ys) (refreshed_put bs n b cells is)

refreshed_with : (bs : List Block) (n : ℕ) (b : Block) (cells : List Cell) → live_block (block_at bs n) ≡ Ok b
    → refreshed bs (map seen (meaning.with_block bs n (changed b cells))) ≡ meaning.with_block bs n (changed b cells)
refreshed_with bs zero b cells is = refreshed_all bs
refreshed_with bs (suc n) b cells is = refreshed_put bs n b cells is

-- 2. A store where there is a cell

abbrev puts : State.State → Place → Cell → Answer Block → State.State
puts s p c r =
    on s r (λ b. cond (nat_le (p.at + 1) (length b.cells)) (record s { blocks = meaning.with_block s.blocks p.block (record b { cells = over b.cells p.at (c ∷ []) }) }) (undefined s undef.Outside))

abbrev reads : Place → Answer Block → Answer (List Cell)
reads p r = bind r (λ b. cond (nat_le (p.at + 1) (length b.cells)) (Ok (take 1 (drop p.at b.cells))) (Err undef.Outside))

put_is : (s : State.State) (p : Place) (c : Cell) (b : Block) (old : List Cell) (fits : Bool) → block_of s p.block ≡ Ok b
    → cond fits (let r : Answer (List Cell) = Ok (take 1 (drop p.at b.cells)) in r) (Err undef.Outside) ≡ Ok old
    → cond fits (with_blocks s (meaning.with_block s.blocks p.block (changed b (over b.cells p.at (c ∷ []))))) (undefined s undef.Outside)
    ≡ stored s (heap_of (cond fits (with_blocks s (meaning.with_block s.blocks p.block (changed b (over b.cells p.at (c ∷ []))))) (undefined s undef.Outside)))
put_is s p c b old true there is = ap (with_blocks s) (sym (refreshed_with s.blocks p.block b (over b.cells p.at (c ∷ [])) there))
put_is s p c b old false there is = cc

puts_is : (s : State.State) (p : Place) (c : Cell) (old : List Cell) (r : Answer Block) → block_of s p.block ≡ r → reads p r ≡ Ok old → puts s p c r ≡ stored s (heap_of (puts s p c r))
puts_is s p c old (Err u) there is = cc
puts_is s p c old (Ok b) there is = put_is s p c b old (nat_le (p.at + 1) (length b.cells)) there is

set_is : (s : State.State) (p : Place) (c : Cell) (old : List Cell) → get_cells s p 1 ≡ Ok old → set s p c ≡ stored s (heap_of (set s p c))
set_is s p c old is = puts_is s p c old (block_of s p.block) refl is

set_tells : (s : State.State) (heap : List (Option (List Cell))) (p : Place) (c : Cell) (old : List Cell) → heap_of s ≡ heap → get_cells s p 1 ≡ Ok old
    → Tells s (give_nothing (set s p c)) (heaps.stored heap p.block p.at c) (record { what = what.Value Unset; notes = [] })
set_tells s heap p c old sees is =
    let after : heap_of (set s p c) ≡ heaps.stored heap p.block p.at c = cells_stored s p c ∙ ap (λ h. heaps.stored h p.block p.at c) sees in
    record { run = ap give_nothing (set_is s p c old is ∙ ap (stored s) after); blocks = after }

-- 3. The row

abbrev pub moves : Cell → State.State → Place → State.State
moves e s p = on s (thing_of s thing.Error e) (λ f. give_nothing (set s p e))

pub move_shape : (s : State.State) (t : TypeArgument) (d e : Cell) → (d ≡ Null → ⊥) → g_propagate_error s t (d ∷ e ∷ []) ≡ on s (destination s d) (moves e s)
move_shape s t (Int z) e apart = refl
move_shape s t (Uns n) e apart = refl
move_shape s t (Ptr n m) e apart = refl
move_shape s t (Func f) e apart = refl
move_shape s t Null e apart = absurd (apart refl)
move_shape s t Unset e apart = refl

-- a place that is found has a cell
record IsThere (s : State.State) (p : Place) : Type 0 where
  old : List Cell
  is : get_cells s p 1 ≡ Ok old

there_at : (s : State.State) (d : Cell) (p : Place) → destination s d ≡ Ok p → IsThere s p
there_at s d p is = by (pointed s d) is
  where
    inner : (q : Place) (r : Answer (List Cell)) → get_cells s q 1 ≡ r → bind r (λ old. let a : Answer Place = Ok q in a) ≡ Ok p → IsThere s p
    inner q (Err u) there k = cc
    inner q (Ok old) there k = let same : q ≡ p = cc in let P : Place → Type 0 = λ x. get_cells s x 1 ≡ Ok old in record { old = old; is = subst P same there }

    by : (r : Answer Place) → bind r (λ q. bind (get_cells s q 1) (λ old. Ok q)) ≡ Ok p → IsThere s p
    by (Err u) k = cc
    by (Ok q) k = inner q (get_cells s q 1) refl k

-- the place is found, and the error
pub move_row : (args : List Cell) (d e : Cell) (p : Place) (n : ℕ) (heap : List (Option (List Cell))) (marks : List (Option Mark)) (new : List (Option (List Cell))) (answer : LibEnd)
    → args ≡ d ∷ e ∷ [] → (d ≡ Null → ⊥) → ((s : State.State) → heap_of s ≡ heap → destination s d ≡ Ok p) → ((s : State.State) → Sees s heap marks → Ok n ≡ numbered (thing_of s thing.Error e))
    → new ≡ heaps.stored heap p.block p.at e → answer ≡ record { what = what.Value Unset; notes = [] } → IsRow g_propagate_error args heap marks new answer
move_row args d e p n heap marks new answer given apart goes number now is = λ s t sees.
    let there = there_at s d p (goes s sees.blocks) in
    let row : g_propagate_error s t args ≡ give_nothing (set s p e) =
    ap (g_propagate_error s t) given ∙ move_shape s t d e apart ∙ ap (λ r. on s r (moves e s)) (goes s sees.blocks)
    ∙ on_number s n (λ m. give_nothing (set s p e)) (thing_of s thing.Error e) (number s sees) in
    let nothing : LibEnd = record { what = what.Value Unset; notes = [] } in
    let P : List (Option (List Cell)) → Type 0 = λ h. Tells s (g_propagate_error s t args) h answer in
    let Q : LibEnd → Type 0 = λ x. Tells s (g_propagate_error s t args) (heaps.stored heap p.block p.at e) x in
    subst P (sym now) (subst Q (sym is) (tells_along s (g_propagate_error s t args) (give_nothing (set s p e)) (heaps.stored heap p.block p.at e) nothing row (set_tells s heap p e there.old sees.blocks there.is)))

-- there is no such place
pub lost_row : (args : List Cell) (d e : Cell) (u : UndefKind) (heap : List (Option (List Cell))) (marks : List (Option Mark)) (answer : LibEnd)
    → args ≡ d ∷ e ∷ [] → (d ≡ Null → ⊥) → ((s : State.State) → heap_of s ≡ heap → destination s d ≡ Err u) → answer ≡ record { what = what.Undefined u; notes = [] } → IsRow g_propagate_error args heap marks heap answer
lost_row args d e u heap marks answer given apart none is = λ s t sees.
    quiet_along s (g_propagate_error s t args) heap (what.Undefined u) answer sees.blocks
    (ap (g_propagate_error s t) given ∙ move_shape s t d e apart ∙ ap (λ r. on s r (moves e s)) (none s sees.blocks)) is

-- there is no such error
pub unmoved_row : (args : List Cell) (d e : Cell) (p : Place) (u : UndefKind) (heap : List (Option (List Cell))) (marks : List (Option Mark)) (answer : LibEnd)
    → args ≡ d ∷ e ∷ [] → (d ≡ Null → ⊥) → ((s : State.State) → heap_of s ≡ heap → destination s d ≡ Ok p) → ((s : State.State) → Sees s heap marks → Err u ≡ numbered (thing_of s thing.Error e))
    → answer ≡ record { what = what.Undefined u; notes = [] } → IsRow g_propagate_error args heap marks heap answer
unmoved_row args d e p u heap marks answer given apart goes none is = λ s t sees.
    quiet_along s (g_propagate_error s t args) heap (what.Undefined u) answer sees.blocks
    (ap (g_propagate_error s t) given ∙ move_shape s t d e apart ∙ ap (λ r. on s r (moves e s)) (goes s sees.blocks)
    ∙ on_none s u (λ f. give_nothing (set s p e)) (thing_of s thing.Error e) (none s sees)) is

-- where the place is null the error is freed
pub freed_row : {E : Type 0} (args : List Cell) (e : Cell) (heap : List (Option (List Cell))) (marks : List (Option Mark)) (new : List (Option (List Cell))) (r : Result LibEnd E) → args ≡ Null ∷ e ∷ []
    → IfOk r (IsRow g_error_free (e ∷ []) heap marks new) → IfOk r (IsRow g_propagate_error args heap marks new)
freed_row args e heap marks new (Err x) given does = tt
freed_row args e heap marks new (Ok answer) given does = λ s t sees. tells_along s (g_propagate_error s t args) (g_error_free s t (e ∷ [])) new answer (ap (g_propagate_error s t) given) (does s t sees)
