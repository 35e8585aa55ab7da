-- Blocks: they are made, read, stored to and freed. A number that is freed never is a block again.
use Rattle.std.specs.Prelude.{ℕ, zero, suc, ◌+◌, ◌*◌, ◌==◌, ◌&&◌, nat_le, max, Bool, true, false, if◌then◌else◌, List, [], ◌∷◌, ◌++◌, length, take, drop, replicate, Option, Some, None, Result, Ok, Err, slice_get}
use Rattle.vg_base.specs.declared.event.ThingKind.{ThingKind}
use Rattle.vg_base.specs.declared.event.ThingKind.TheVariants as thing
use Rattle.vg_base.specs.declared.event.Event.{Event}
use Rattle.vg_base.specs.declared.event.Event.TheVariants as event
use Rattle.vg_base.specs.declared.event.CEnd.{CEnd}
use Rattle.vg_base.specs.declared.event.CEnd.TheVariants as «end»
use Rattle.vg_base.specs.declared.event.UndefKind.{UndefKind}
use Rattle.vg_base.specs.declared.event.UndefKind.TheVariants as undef
use Rattle.vg_base.specs.declared.event.LiveRow.{LiveRow}
use Rattle.vg_base.specs.Headline.{Said, Happens}
use Rattle.c_meaning.specs.declared.cell.Cell.{Cell}
use Rattle.c_meaning.specs.declared.cell.Cell.TheVariants.{Uns, Ptr, Null, Unset}
use Rattle.c_meaning.specs.State
use Rattle.c_meaning.specs.State.{Thing, Block, Place}

-- 1. Answers: what is asked for, or why the run ends

-- a value, or a use without a meaning
abbrev pub Answer : Type 0 → Type 0
Answer A = Result A UndefKind

abbrev pub bind : {A B : Type 0} → Answer A → (A → Answer B) → Answer B
bind (Ok a) go = go a
bind (Err u) go = Err u

-- the run ends
abbrev pub stop : State.State → CEnd → State.State
stop s e = record s { ended = Some e }

abbrev pub undefined : State.State → UndefKind → State.State
undefined s u = stop s («end».Undefined u)

-- what is done with an answer
abbrev pub on : {A : Type 0} → State.State → Answer A → (A → State.State) → State.State
on s (Ok a) go = go a
on s (Err u) go = undefined s u

-- something is said
abbrev pub say : State.State → Said → State.State
say s x = record s { said = s.said ++ x ∷ [] }

abbrev pub happens : State.State → Event → State.State
happens s e = say s (Happens e)

-- 2. Looking at blocks

-- the block with a number, which is counted from 1
abbrev pub block_at : List Block → ℕ → Option Block
block_at bs zero = None
block_at bs (suc n) = slice_get bs n

abbrev pub live_block : Option Block → Answer Block
live_block None = Err undef.Freed
live_block (Some b) = if b.is_live then Ok b else Err undef.Freed

-- the live block with a number
abbrev pub block_of : State.State → ℕ → Answer Block
block_of s n = live_block (block_at s.blocks n)

abbrev pub cell_of : Option Cell → Answer Cell
cell_of None = Err undef.Outside
cell_of (Some c) = Ok c

-- the cell of a live block at a place
abbrev pub get : State.State → Place → Answer Cell
get s p = bind (block_of s p.block) (λ b. cell_of (slice_get b.cells p.at))

-- so many cells of a live block from a place on
abbrev pub get_cells : State.State → Place → ℕ → Answer (List Cell)
get_cells s p n = bind (block_of s p.block) (λ b. if nat_le (p.at + n) (length b.cells) then Ok (take n (drop p.at b.cells)) else Err undef.Outside)

-- 3. Storing

abbrev pub put_at : {A : Type 0} → List A → ℕ → A → List A
put_at [] n a = []
put_at (x ∷ xs) zero a = a ∷ xs
put_at (x ∷ xs) (suc n) a = x ∷ put_at xs n a

abbrev pub with_block : List Block → ℕ → Block → List Block
with_block bs zero b = bs
with_block bs (suc n) b = put_at bs n b

-- cells are put over those of a list from a place on
abbrev pub over : List Cell → ℕ → List Cell → List Cell
over cells at new = take at cells ++ new ++ drop (at + length new) cells

-- cells are stored at a place of a live block
abbrev pub set_cells : State.State → Place → List Cell → State.State
set_cells s p cells =
    on s (block_of s p.block) (λ b.
    if nat_le (p.at + length cells) (length b.cells) then record s { blocks = with_block s.blocks p.block (record b { cells = over b.cells p.at cells }) } else undefined s undef.Outside)

abbrev pub set : State.State → Place → Cell → State.State
set s p c = set_cells s p (c ∷ [])

-- 4. Class sizes and peaks

-- the least power of two that is at least n, from a power on
abbrev pub power_from : ℕ → ℕ → ℕ → ℕ
power_from zero p n = p
power_from (suc k) p n = if nat_le n p then p else power_from k (p * 2) n

-- the class size of a block of n cells
abbrev pub class_size : ℕ → ℕ
class_size n = power_from 64 1 n

-- how many live blocks have a class size
abbrev pub live_of_size : ℕ → List Block → ℕ
live_of_size c [] = 0
live_of_size c (b ∷ bs) = if b.is_live && class_size (length b.cells) == c then suc (live_of_size c bs) else live_of_size c bs

abbrev pub raised : List (ℕ × ℕ) → ℕ → ℕ → List (ℕ × ℕ)
raised [] c n = (c, n) ∷ []
raised (p ∷ ps) c n = if p.0 == c then (c, max p.1 n) ∷ ps else p ∷ raised ps c n

-- the peak of a class size is at least what is live of it now
abbrev pub with_peak : State.State → ℕ → State.State
with_peak s c = record s { peaks = raised s.peaks c (live_of_size c s.blocks) }

-- 5. Making and freeing

-- the number of the block that is made next
abbrev pub next_block : State.State → ℕ
next_block s = suc (length s.blocks)

abbrev pub add_block : State.State → Block → State.State
add_block s b = with_peak (record s { blocks = s.blocks ++ b ∷ [] }) (class_size (length b.cells))

-- a block that is no thing
abbrev pub plain : List Cell → Block
plain cells = record { cells = cells; is_live = true; thing = None; is_sliced = false }

abbrev pub make : State.State → List Cell → State.State
make s cells = add_block s (plain cells)

-- a block that is a thing, with the next serial
abbrev pub make_thing : State.State → ThingKind → Option ℕ → Bool → List Cell → State.State
make_thing s k count sliced cells =
    happens (add_block (record s { made = suc s.made }) (record { cells = cells; is_live = true; thing = Some (record { kind = k; serial = suc s.made; count = count }); is_sliced = sliced })) (event.Made k)

-- the thing that a block was goes
abbrev pub say_gone : State.State → Option Thing → State.State
say_gone s None = s
say_gone s (Some t) = happens s (event.Gone t.serial)

-- a live block is freed for good
abbrev pub free : State.State → ℕ → State.State
free s n = on s (block_of s n) (λ b. say_gone (record s { blocks = with_block s.blocks n (record b { is_live = false }) }) b.thing)

-- what the block that is made next is pointed to by
abbrev pub next_pointer : State.State → Cell
next_pointer s = Ptr (next_block s) 0

abbrev pub zeroed : ℕ → List Cell
zeroed n = replicate n Null

abbrev pub unset : ℕ → List Cell
unset n = replicate n Unset

-- 6. Things that live

-- the unsigned number in a count cell, and 0 where there is no such cell or it holds none
abbrev pub number_in : Option Cell → ℕ
number_in (Some (Uns n)) = n
number_in c = 0

abbrev pub counted : Block → Option ℕ → ℕ
counted b None = 0
counted b (Some at) = number_in (slice_get b.cells at)

-- the count of a thing, which is 1 where it is no object and no scope
abbrev pub owners : Block → Thing → ThingKind → ℕ
owners b t thing.Object = counted b t.count
owners b t thing.Scope = counted b t.count
owners b t k = 1

abbrev pub row_of : Block → Option Thing → List LiveRow
row_of b None = []
row_of b (Some t) = if b.is_live then record { kind = t.kind; serial = t.serial; owners = owners b t t.kind } ∷ [] else []

abbrev pub rows_of : List Block → List LiveRow
rows_of [] = []
rows_of (b ∷ bs) = row_of b b.thing ++ rows_of bs

-- WHAT LIVES: each thing that is not freed. Things have their serials in the order of their blocks.
abbrev pub live : State.State → List LiveRow
live s = rows_of s.blocks

abbrev pub most_owned : List LiveRow → ℕ
most_owned [] = 0
most_owned (r ∷ rs) = max r.owners (most_owned rs)
