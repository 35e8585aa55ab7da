-- The laws on blocks and runs.
use Rattle.std.proofs.Common.{◌≡◌, ◌∙◌, refl, sym, ap, ℕ, zero, suc, ◌≤◌, Bool, true, false, List, [], ◌∷◌, ◌++◌, length, Option, Some, None, Ok, Err, arith, rules}
use Rattle.std.specs.Prelude.{slice_get, cond, nat_le, ◌+◌}
use Rattle.vg_base.proofs.MachineLaws.{run_is}
use Rattle.vg_base.specs.declared.event.UndefKind.{UndefKind}
use Rattle.vg_base.specs.declared.event.UndefKind.TheVariants as undef
use Rattle.c_meaning.specs.declared.cell.Cell.{Cell}
use Rattle.c_meaning.specs.State
use Rattle.c_meaning.specs.State.{Block, Place, Thing}
use Rattle.c_meaning.specs.Blocks.{Answer, block_of, block_at, live_block, put_at, with_block, over, say_gone, make, plain, on, undefined}
use Rattle.c_meaning.specs.Runs.{meaning}
use Rattle.c_meaning.specs.Laws.{RunsGoOn, FreedBlocksAreDead, DeadBlocksStay, BlocksAreNumbered}

pub runs_go_on : RunsGoOn
runs_go_on p s = run_is (meaning p).machine s

clash : (b : Block) (u : UndefKind) → Ok b ≡ Err u → ⊥
clash b u e = search rules

-- a block that is put over a live one makes no other live
put_dead : (bs : List Block) (n m : ℕ) (b old : Block) → live_block (slice_get bs n) ≡ Ok old → live_block (slice_get bs m) ≡ Err undef.Freed → live_block (slice_get (put_at bs n b) m) ≡ Err undef.Freed
put_dead [] n m b old h d = d
put_dead (x ∷ bs) zero zero b old h d = absurd (clash old undef.Freed (sym h ∙ d))
put_dead (x ∷ bs) zero (suc m) b old h d = d
put_dead (x ∷ bs) (suc n) zero b old h d = d
put_dead (x ∷ bs) (suc n) (suc m) b old h d = put_dead bs n m b old h d

with_dead : (bs : List Block) (n m : ℕ) (b old : Block) → live_block (block_at bs n) ≡ Ok old → live_block (block_at bs m) ≡ Err undef.Freed → live_block (block_at (with_block bs n b) m) ≡ Err undef.Freed
with_dead bs zero m b old h d = d
with_dead bs (suc n) zero b old h d = d
with_dead bs (suc n) (suc m) b old h d = put_dead bs n m b old h d

-- a dead block that is put is dead
put_over : (bs : List Block) (n : ℕ) (b old : Block) → live_block (slice_get bs n) ≡ Ok old → b.is_live ≡ false → live_block (slice_get (put_at bs n b) n) ≡ Err undef.Freed
put_over [] n b old h d = refl
put_over (x ∷ bs) zero b old h d = rw d refl
put_over (x ∷ bs) (suc n) b old h d = put_over bs n b old h d

with_over : (bs : List Block) (n : ℕ) (b old : Block) → live_block (block_at bs n) ≡ Ok old → b.is_live ≡ false → live_block (block_at (with_block bs n b) n) ≡ Err undef.Freed
with_over bs zero b old h d = refl
with_over bs (suc n) b old h d = put_over bs n b old h d

gone_keeps : (s : State.State) (t : Option Thing) → (say_gone s t).blocks ≡ s.blocks
gone_keeps s None = refl
gone_keeps s (Some t) = refl

freed_by : (s : State.State) (n m : ℕ) (r : Answer Block) → block_of s n ≡ r → block_of s m ≡ Err undef.Freed → block_of (on s r (λ b. say_gone (record s { blocks = with_block s.blocks n (record b { is_live = false }) }) b.thing)) m ≡ Err undef.Freed
freed_by s n m (Err u) h d = d
freed_by s n m (Ok b) h d = rw (gone_keeps (record s { blocks = with_block s.blocks n (record b { is_live = false }) }) b.thing) (with_dead s.blocks n m (record b { is_live = false }) b h d)

pub freed_dead : FreedBlocksAreDead
freed_dead s n b h = by_answer (block_of s n) refl h
  where
    by_answer : (r : Answer Block) → block_of s n ≡ r → r ≡ Ok b → block_of (on s r (λ c. say_gone (record s { blocks = with_block s.blocks n (record c { is_live = false }) }) c.thing)) n ≡ Err undef.Freed
    by_answer (Err u) e k = absurd (clash b u (sym k))
    by_answer (Ok c) e k = rw (gone_keeps (record s { blocks = with_block s.blocks n (record c { is_live = false }) }) c.thing) (with_over s.blocks n (record c { is_live = false }) c e refl)

stored_if : (s : State.State) (p : Place) (cells : List Cell) (b : Block) (m : ℕ) (x : Bool) → block_of s p.block ≡ Ok b → block_of s m ≡ Err undef.Freed
    → block_of (cond x (record s { blocks = with_block s.blocks p.block (record b { cells = over b.cells p.at cells }) }) (undefined s undef.Outside)) m ≡ Err undef.Freed
stored_if s p cells b m true h d = with_dead s.blocks p.block m (record b { cells = over b.cells p.at cells }) b h d
stored_if s p cells b m false h d = d

stored_by : (s : State.State) (p : Place) (cells : List Cell) (m : ℕ) (r : Answer Block) → block_of s p.block ≡ r → block_of s m ≡ Err undef.Freed
    → block_of (on s r (λ b. cond (nat_le (p.at + length cells) (length b.cells)) (record s { blocks = with_block s.blocks p.block (record b { cells = over b.cells p.at cells }) }) (undefined s undef.Outside))) m ≡ Err undef.Freed
stored_by s p cells m (Err u) h d = d
stored_by s p cells m (Ok b) h d = stored_if s p cells b m (nat_le (p.at + length cells) (length b.cells)) h d

pub dead_stay : DeadBlocksStay
dead_stay s n d = record { stored = λ p cells. stored_by s p cells n (block_of s p.block) refl d; freed = λ m. freed_by s m n (block_of s m) refl d }

last_is : (bs : List Block) (b : Block) → slice_get (bs ++ b ∷ []) (length bs) ≡ Some b
last_is [] b = refl
last_is (x ∷ bs) b = last_is bs b

before_last : (bs : List Block) (b : Block) (n : ℕ) → suc n ≤ length bs → slice_get (bs ++ b ∷ []) n ≡ slice_get bs n
before_last [] b n h = absurd (omega arith)
before_last (x ∷ bs) b zero h = refl
before_last (x ∷ bs) b (suc n) h = before_last bs b n (omega arith)

others_are : (s : State.State) (cells : List Cell) (n : ℕ) → n ≤ length s.blocks → block_at (make s cells).blocks n ≡ block_at s.blocks n
others_are s cells zero h = refl
others_are s cells (suc n) h = before_last s.blocks (plain cells) n h

pub numbered : BlocksAreNumbered
numbered s cells = record { next = ap live_block (last_is s.blocks (plain cells)); others = others_are s cells }
