-- What is found in the heap of a run is what is found in the run, as functions.
use Rattle.std.proofs.Common.{◌≡◌, ◌∙◌, refl, ap, ℕ, zero, suc, ◌+◌, true, false, pos, ◌+ℤ◌, List, length, take, drop, Option, Some, None, Ok, Err}
use Rattle.std.specs.Prelude.{slice_get, cond, nat_le, if◌then◌else◌}
use Rattle.std.specs.Option.{option_map}
use Rattle.std.proofs.lemmas.Option.{slice_get-map}
use Rattle.vg_base.specs.declared.event.UndefKind.TheVariants as undef
use Rattle.c_tree.specs.declared.kinds.Kind.{Kind}
use Rattle.c_tree.specs.Kinds.{is_struct}
use Rattle.c_meaning.specs.declared.cell.Cell.{Cell}
use Rattle.c_meaning.specs.declared.cell.Cell.TheVariants.{Ptr, Null, Unset}
use Rattle.c_meaning.specs.State
use Rattle.c_meaning.specs.State.{Block, Place, Value, Scalar, Struct}
use Rattle.c_meaning.specs.Blocks.{Answer, bind, block_of, live_block, cell_of, get, get_cells}
use Rattle.c_meaning.specs.Numbers.{converted, place_in, pointed, moved, stepped, read, to}
use Rattle.cell_heap.specs.Heap.{joined}
use Rattle.cell_heap.specs.States.{seen, heap_of}
use Rattle.c_code.specs.Looks.{live, block_in, get_in, get_cells_in, read_in, pointed_in, moved_in, stepped_in}

live_seen : (b : Block) → live (seen b) ≡ bind (live_block (Some b)) (λ c. Ok c.cells)
live_seen b =
    elim b.is_live as (λ l. live (cond l (Some b.cells) None)
    ≡ bind (cond l (let r : Answer Block = Ok b in r) (Err undef.Freed)) (λ c. Ok c.cells)) [ true ↦ refl | false ↦ refl ]

found_seen : (o : Option Block) → live (joined (option_map seen o)) ≡ bind (live_block o) (λ b. Ok b.cells)
found_seen None = refl
found_seen (Some b) = live_seen b

block_seen : (s : State.State) (n : ℕ) → block_in (heap_of s) n ≡ bind (block_of s n) (λ b. Ok b.cells)
block_seen s zero = refl
block_seen s (suc n) = ap (λ (o : Option (Option (List Cell))). live (joined o)) (slice_get-map seen s.blocks n) ∙ found_seen (slice_get s.blocks n)

cells_bound : {A : Type 0} (r : Answer Block) (go : List Cell → Answer A) → bind (bind r (λ b. Ok b.cells)) go ≡ bind r (λ b. go b.cells)
cells_bound (Ok b) go = refl
cells_bound (Err u) go = refl

-- what is done with the cells of a block
in_block : {A : Type 0} (s : State.State) (n : ℕ) (go : List Cell → Answer A) → bind (block_in (heap_of s) n) go ≡ bind (block_of s n) (λ b. go b.cells)
in_block s n go = ap (λ (r : Answer (List Cell)). bind r go) (block_seen s n) ∙ cells_bound (block_of s n) go

get_seen : (s : State.State) (p : Place) → get_in (heap_of s) p ≡ get s p
get_seen s p = in_block s p.block (λ cells. cell_of (slice_get cells p.at))

cells_seen : (s : State.State) (p : Place) (n : ℕ) → get_cells_in (heap_of s) p n ≡ get_cells s p n
cells_seen s p n = in_block s p.block (λ cells. if nat_le (p.at + n) (length cells) then Ok (take n (drop p.at cells)) else Err undef.Outside)

pub read_seen : (s : State.State) (k : Kind) (n : ℕ) → read_in (heap_of s) k n ≡ read s k n
read_seen s k n i p =
    if is_struct k then bind (cells_seen s p n i) (λ cs. Ok (Struct cs)) else bind (get_seen s p i) (λ c. converted k (Scalar c))

pub pointed_seen : (s : State.State) → pointed_in (heap_of s) ≡ pointed s
pointed_seen s i c = by_cell c i
  where
    by_cell : (c : Cell) → pointed_in (heap_of s) c ≡ pointed s c
    by_cell (Ptr b at) = in_block s b (λ cells. Ok (record { block = b; at = at }))
    by_cell Null = refl
    by_cell Unset = refl
    by_cell c = refl

pub moved_seen : (s : State.State) → moved_in (heap_of s) ≡ moved s
moved_seen s i p n = in_block s p.block (λ cells. place_in p.block (length cells) (pos p.at +ℤ n)) i

pub stepped_seen : (s : State.State) → stepped_in (heap_of s) ≡ stepped s
stepped_seen s i c n = bind (pointed_seen s i c) (λ p. bind (moved_seen s i p n) (λ q. Ok (to q)))
