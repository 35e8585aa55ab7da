-- What finding, storing, making and freeing do to the blocks of a run is what they do to its heap.
use Rattle.std.proofs.Common.{inl, inr, ◌≡◌, ◌∙◌, refl, sym, ap, subst, ℕ, zero, suc, ◌+◌, ◌<◌, ◌≤◌, Bool, true, false, List, [], ◌∷◌, ◌++◌, length, map, Option, Some, None, Ok, Err, arith, set, add-one}
use Rattle.std.specs.Prelude.{slice_get, cond, nat_le}
use Rattle.std.specs.Option.{option_map, option_and_then}
use Rattle.std.specs.Result.{result_ok}
use Rattle.std.proofs.lemmas.List.{map-append, length-map}
use Rattle.std.proofs.lemmas.Option.{slice_get-map}
use Rattle.std.proofs.lemmas.Bool.Decides.{leb_tells}
use Rattle.vg_base.specs.declared.event.UndefKind.TheVariants as undef
use Rattle.c_meaning.specs.declared.cell.Cell.{Cell}
use Rattle.c_meaning.specs.State
use Rattle.c_meaning.specs.State.{Block, Place, Thing}
use Rattle.c_meaning.specs.Blocks as meaning
use Rattle.c_meaning.specs.Blocks.{Answer, block_of, block_at, live_block, cell_of, put_at, over, on, undefined, say_gone, unset, plain}
use Rattle.cell_heap.specs.Heap.{joined, cells_of, with_block, with_cell, freed, made}
use Rattle.cell_heap.specs.States.{seen, heap_of, BlocksAreFound, CellsAreFound, CellsAreStored, BlocksAreNumbered, BlocksAreMade, BlocksAreAdded, BlocksAreFreed, FreedBlocksStay}

-- 1. Finding

seen_live : (b : Block) → seen b ≡ option_map (λ c. c.cells) (result_ok (live_block (Some b)))
seen_live b =
    elim b.is_live as (λ live. cond live (Some b.cells) None ≡ option_map (λ c. c.cells) (result_ok (cond live (let r : Answer Block = Ok b in r) (Err undef.Freed)))) [ true ↦ refl | false ↦ refl ]

seen_block : (o : Option Block) → joined (option_map seen o) ≡ option_map (λ b. b.cells) (result_ok (live_block o))
seen_block None = refl
seen_block (Some b) = seen_live b

found_in : (bs : List Block) (n : ℕ) → cells_of (map seen bs) n ≡ option_map (λ b. b.cells) (result_ok (live_block (block_at bs n)))
found_in bs zero = refl
found_in bs (suc n) = ap joined (slice_get-map seen bs n) ∙ seen_block (slice_get bs n)

pub blocks_found : BlocksAreFound
blocks_found s n = found_in s.blocks n

cell_found : (o : Option Cell) → o ≡ result_ok (cell_of o)
cell_found None = refl
cell_found (Some c) = refl

cell_by : (r : Answer Block) (at : ℕ) → option_and_then (λ cells. slice_get cells at) (option_map (λ b. b.cells) (result_ok r)) ≡ result_ok (meaning.bind r (λ b. cell_of (slice_get b.cells at)))
cell_by (Err u) at = refl
cell_by (Ok b) at = cell_found (slice_get b.cells at)

pub cells_found : CellsAreFound
cells_found s p = ap (option_and_then (λ cells. slice_get cells p.at)) (blocks_found s p.block) ∙ cell_by (block_of s p.block) p.at

-- 2. Storing

map-put_at : (bs : List Block) (n : ℕ) (b : Block) → map seen (put_at bs n b) ≡ set (map seen bs) n (seen b)
map-put_at [] n b = refl
map-put_at (x ∷ bs) zero b = refl
map-put_at (x ∷ bs) (suc n) b = ap (λ ys. seen x ∷ ys) (map-put_at bs n b)

pub map-with_block : (bs : List Block) (n : ℕ) (b : Block) → map seen (meaning.with_block bs n b) ≡ with_block (map seen bs) n (seen b)
map-with_block bs zero b = refl
map-with_block bs (suc n) b = map-put_at bs n b

over_is_set : (cells : List Cell) (at : ℕ) (c : Cell) → at < length cells → over cells at (c ∷ []) ≡ set cells at c
over_is_set [] at c within = absurd (omega arith)
over_is_set (x ∷ cells) zero c within = refl
over_is_set (x ∷ cells) (suc at) c within = let more = over_is_set cells at c (omega arith) in rw add-one (ap (λ ys. x ∷ ys) (rw add-one at more))

pub set_past : {A : Type 0} (xs : List A) (n : ℕ) (a : A) → length xs ≤ n → set xs n a ≡ xs
set_past [] n a past = refl
set_past (x ∷ xs) zero a past = absurd (omega arith)
set_past (x ∷ xs) (suc n) a past = ap (λ ys. x ∷ ys) (set_past xs n a (omega arith))

set_found : (bs : List (Option (List Cell))) (n : ℕ) (cells : List Cell) → joined (slice_get bs n) ≡ Some cells → set bs n (Some cells) ≡ bs
set_found [] n cells is = refl
set_found (b ∷ bs) zero cells is = ap (λ x. x ∷ bs) (sym is)
set_found (b ∷ bs) (suc n) cells is = ap (λ ys. b ∷ ys) (set_found bs n cells is)

pub with_found : (bs : List (Option (List Cell))) (n : ℕ) (cells : List Cell) → cells_of bs n ≡ Some cells → with_block bs n (Some cells) ≡ bs
with_found bs zero cells is = refl
with_found bs (suc n) cells is = set_found bs n cells is

-- where the cells are as many as before, a live block stays live
pub live_is : (o : Option Block) (b : Block) → live_block o ≡ Ok b → b.is_live ≡ true
live_is None b is = cc
live_is (Some x) b is = by_live x.is_live refl is
  where
    by_live : (live : Bool) → x.is_live ≡ live → cond live (let r : Answer Block = Ok x in r) (Err undef.Freed) ≡ Ok b → b.is_live ≡ true
    by_live true e k = cc
    by_live false e k = cc

pub seen_cells : (b : Block) (cells : List Cell) → b.is_live ≡ true → seen (record b { cells = cells }) ≡ Some cells
seen_cells b cells live = ap (λ l. let o : Option (List Cell) = cond l (Some cells) None in o) live

-- a cell is put into a live block
put_in : (s : State.State) (n at : ℕ) (c : Cell) (b : Block) (fits : Bool) → nat_le (at + 1) (length b.cells) ≡ fits → block_of s n ≡ Ok b
    → heap_of (cond fits (record s { blocks = meaning.with_block s.blocks n (record b { cells = over b.cells at (c ∷ []) }) }) (undefined s undef.Outside)) ≡ with_block (heap_of s) n (Some (set b.cells at c))
put_in s n at c b true fits is =
    let within : at < length b.cells = (elim (leb_tells (at + 1) (length b.cells)) [ inl short ↦ (let le : at + 1 ≤ length b.cells = short.1 in omega arith) | inr long ↦ absurd (let f : nat_le (at + 1) (length b.cells) ≡ false = long.0 in cc) ]) in
    map-with_block s.blocks n (record b { cells = over b.cells at (c ∷ []) })
    ∙ ap (with_block (heap_of s) n) (seen_cells b (over b.cells at (c ∷ [])) (live_is (block_at s.blocks n) b is) ∙ ap (λ cells. Some cells) (over_is_set b.cells at c within))
put_in s n at c b false fits is =
    let past : length b.cells ≤ at = (elim (leb_tells (at + 1) (length b.cells)) [ inl short ↦ absurd (let t : nat_le (at + 1) (length b.cells) ≡ true = short.0 in cc) | inr long ↦ (let lt : length b.cells < at + 1 = long.1 in omega arith) ]) in
    let has : cells_of (heap_of s) n ≡ Some b.cells = blocks_found s n ∙ ap (λ r. option_map (λ x. x.cells) (result_ok r)) is in
    sym (with_found (heap_of s) n b.cells has) ∙ ap (λ cells. with_block (heap_of s) n (Some cells)) (sym (set_past b.cells at c past))

store_by : (s : State.State) (n at : ℕ) (c : Cell) (r : Answer Block) → block_of s n ≡ r
    → heap_of (on s r (λ b. cond (nat_le (at + 1) (length b.cells)) (record s { blocks = meaning.with_block s.blocks n (record b { cells = over b.cells at (c ∷ []) }) }) (undefined s undef.Outside)))
    ≡ with_cell (heap_of s) n at c (option_map (λ b. b.cells) (result_ok r))
store_by s n at c (Err u) is = refl
store_by s n at c (Ok b) is = put_in s n at c b (nat_le (at + 1) (length b.cells)) refl is

pub cells_stored : CellsAreStored
cells_stored s p c = store_by s p.block p.at c (block_of s p.block) refl ∙ ap (with_cell (heap_of s) p.block p.at c) (sym (blocks_found s p.block))

-- 3. Making and freeing

pub blocks_numbered : BlocksAreNumbered
blocks_numbered s = let n : length (heap_of s) ≡ length s.blocks = length-map s.blocks seen in omega arith

pub blocks_added : BlocksAreAdded
blocks_added s b live = map-append seen s.blocks (b ∷ []) ∙ ap (λ l. heap_of s ++ (let o : Option (List Cell) = cond l (Some b.cells) None in o) ∷ []) live

pub blocks_made : BlocksAreMade
blocks_made s n = blocks_added s (plain (unset n)) refl

gone_keeps : (s : State.State) (t : Option Thing) → heap_of (say_gone s t) ≡ heap_of s
gone_keeps s None = refl
gone_keeps s (Some t) = refl

dead_stays : (bs : List (Option (List Cell))) (n : ℕ) → joined (slice_get bs n) ≡ None → set bs n None ≡ bs
dead_stays [] n is = refl
dead_stays (b ∷ bs) zero is = ap (λ x. x ∷ bs) (sym is)
dead_stays (b ∷ bs) (suc n) is = ap (λ ys. b ∷ ys) (dead_stays bs n is)

pub freed_dead : (bs : List (Option (List Cell))) (n : ℕ) → cells_of bs n ≡ None → freed bs n ≡ bs
freed_dead bs zero is = refl
freed_dead bs (suc n) is = dead_stays bs n is

free_by : (s : State.State) (n : ℕ) (r : Answer Block) → block_of s n ≡ r
    → heap_of (on s r (λ b. say_gone (record s { blocks = meaning.with_block s.blocks n (record b { is_live = false }) }) b.thing)) ≡ freed (heap_of s) n
free_by s n (Err u) is = sym (freed_dead (heap_of s) n (blocks_found s n ∙ ap (λ r. option_map (λ x. x.cells) (result_ok r)) is))
free_by s n (Ok b) is = gone_keeps (record s { blocks = meaning.with_block s.blocks n (record b { is_live = false }) }) b.thing ∙ map-with_block s.blocks n (record b { is_live = false })

pub blocks_freed : BlocksAreFreed
blocks_freed s n = free_by s n (block_of s n) refl

-- 4. Freed numbers

none_kept : (bs : List (Option (List Cell))) (k j : ℕ) (x : Option (List Cell)) → joined (slice_get bs j) ≡ None → (k ≡ j → x ≡ None) → joined (slice_get (set bs k x) j) ≡ None
none_kept [] k j x is same = is
none_kept (b ∷ bs) zero zero x is same = same refl
none_kept (b ∷ bs) zero (suc j) x is same = is
none_kept (b ∷ bs) (suc k) zero x is same = is
none_kept (b ∷ bs) (suc k) (suc j) x is same = none_kept bs k j x is (λ e. same (ap suc e))

dead_kept : (bs : List (Option (List Cell))) (m n : ℕ) (x : Option (List Cell)) → cells_of bs n ≡ None → (m ≡ n → x ≡ None) → cells_of (with_block bs m x) n ≡ None
dead_kept bs zero n x is same = is
dead_kept bs (suc m) zero x is same = refl
dead_kept bs (suc m) (suc n) x is same = none_kept bs m n x is (λ e. same (ap suc e))

stored_kept : (bs : List (Option (List Cell))) (m at : ℕ) (c : Cell) (n : ℕ) (o : Option (List Cell)) → cells_of bs m ≡ o → cells_of bs n ≡ None → cells_of (with_cell bs m at c o) n ≡ None
stored_kept bs m at c n None has is = is
stored_kept bs m at c n (Some cells) has is = dead_kept bs m n (Some (set cells at c)) is (λ e. absurd (let P : ℕ → Type 0 = λ k. cells_of bs k ≡ Some cells in let clash = subst P e has in cc))

more_kept : (bs : List (Option (List Cell))) (j : ℕ) (x : Option (List Cell)) → j < length bs → joined (slice_get bs j) ≡ None → joined (slice_get (bs ++ x ∷ []) j) ≡ None
more_kept [] j x lt is = absurd (omega arith)
more_kept (b ∷ bs) zero x lt is = is
more_kept (b ∷ bs) (suc j) x lt is = more_kept bs j x (omega arith) is

made_kept : (bs : List (Option (List Cell))) (m n : ℕ) → n ≤ length bs → cells_of bs n ≡ None → cells_of (made bs m) n ≡ None
made_kept bs m zero le is = refl
made_kept bs m (suc n) le is = more_kept bs n _ (omega arith) is

pub freed_stay : FreedBlocksStay
freed_stay bs n le is = ((λ m. made_kept bs m n le is), (λ m at c. stored_kept bs m at c n (cells_of bs m) refl is), (λ m. dead_kept bs m n None is (λ e. refl)))
