-- What the laws on the meaning speak of.
use Rattle.std.specs.Prelude.{◌≡◌, ℕ, ◌≤◌, List, length, Ok, Err}
use Rattle.vg_base.specs.declared.event.UndefKind.TheVariants as undef
use Rattle.vg_base.specs.Run.{IsRun}
use Rattle.vg_base.specs.Machine.{run_from}
use Rattle.c_meaning.specs.declared.cell.Cell.{Cell}
use Rattle.c_meaning.specs.State
use Rattle.c_meaning.specs.State.{Block, Place}
use Rattle.c_meaning.specs.Blocks.{block_of, block_at, next_block, plain, make, set_cells, free}
use Rattle.c_meaning.specs.Values.{Program}
use Rattle.c_meaning.specs.Runs.{meaning}

-- what was said stays, and so does an end, from any state on
abbrev pub RunsGoOn : Type 0
RunsGoOn = (p : Program) (s : State.State) → IsRun (run_from (meaning p).machine s)

-- a block that is freed is live no more
abbrev pub FreedBlocksAreDead : Type 0
FreedBlocksAreDead = (s : State.State) (n : ℕ) (b : Block) → block_of s n ≡ Ok b → block_of (free s n) n ≡ Err undef.Freed

-- what is not live is not made live by a store, and not by freeing another
pub record StaysDead (s : State.State) (n : ℕ) : Type 0 where
  pub stored : (p : Place) (cells : List Cell) → block_of (set_cells s p cells) n ≡ Err undef.Freed
  pub freed : (m : ℕ) → block_of (free s m) n ≡ Err undef.Freed

abbrev pub DeadBlocksStay : Type 0
DeadBlocksStay = (s : State.State) (n : ℕ) → block_of s n ≡ Err undef.Freed → StaysDead s n

-- a block that is made has the next number, and those before it are as they were
pub record TakesNext (s : State.State) (cells : List Cell) : Type 0 where
  pub next : block_of (make s cells) (next_block s) ≡ Ok (plain cells)
  pub others : (n : ℕ) → n ≤ length s.blocks → block_at (make s cells).blocks n ≡ block_at s.blocks n

abbrev pub BlocksAreNumbered : Type 0
BlocksAreNumbered = (s : State.State) (cells : List Cell) → TakesNext s cells
