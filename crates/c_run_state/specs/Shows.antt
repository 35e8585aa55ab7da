-- A run as code holds it shows a run of the meaning.
use Rattle.std.specs.Prelude.{◌≡◌, ℕ, ◌≤◌, [], ◌∷◌, length, map, reverse, drop, Option, Some, None, if◌then◌else◌}
use Rattle.std.specs.List.{All}
use Rattle.std.specs.Option.{option_map}
use Rattle.vg_base.specs.Headline.{Happens}
use Rattle.c_tree.specs.Env.{Env, cells_of}
use Rattle.c_meaning.specs.State
use Rattle.c_meaning.specs.State.{Block, Thing, Item, Run as Runs, Enter, Ask, Keep, Finish}
use Rattle.c_meaning.specs.Blocks.{block_of}
use Rattle.c_meaning.specs.TypeRows.{push}
use Rattle.cell_heap.specs.States.{heap_of}
use Rattle.glib_model.specs.Kinds.{mark_at, mark_of}
use Rattle.c_code.specs.Values.{place_seen, value_seen}
use Rattle.c_run_state.specs.declared.state.Frame.{Frame}
use Rattle.c_run_state.specs.declared.state.Work.{Work}
use Rattle.c_run_state.specs.declared.state.Work.TheVariants as work
use Rattle.c_run_state.specs.declared.state.Standing.{Standing}
use Rattle.c_run_state.specs.declared.state.Standing.TheVariants as standing
use Rattle.c_run_state.specs.declared.state.Run.{Run}

-- 1. Work

abbrev pub frame_seen : Frame → State.Frame
frame_seen f = record { routine = f.routine; at = f.at; block = f.block }

-- an item of the work
abbrev pub item_seen : Work → Item
item_seen (work.Run f) = Runs (frame_seen f)
item_seen (work.Enter n vs) = Enter n (map value_seen vs.items)
item_seen (work.Ask f cells) = Ask f cells.items
item_seen (work.Keep p t) = Keep (place_seen p) t.kind
item_seen work.Finish = Finish

-- the cells that a place takes are those of its kind
abbrev pub IsSized : Env → Work → Type 0
IsSized env (work.Keep p t) = t.cells ≡ cells_of env t.kind
IsSized env w = Unit {0}

-- 2. Blocks

abbrev pub standing_by : Option Thing → Standing
standing_by None = standing.Plain
standing_by (Some t) = standing.Thing t.serial

-- what became of a block: it was freed, or it is no thing, or it is the thing with a serial
abbrev pub standing_of : Block → Standing
standing_of b = if b.is_live then standing_by b.thing else standing.Freed

-- 3. Runs

-- WHAT A RUN HOLDS BESIDE THE CELLS OF ITS BLOCKS is that of a run of the meaning. The next item of the work stands last.
pub record Books (env : Env) (run : Run) (s : State.State) : Type 0 where
  pub standings : run.standings.items ≡ map standing_of s.blocks
  pub marks : (n : ℕ) → mark_at run.kinds n ≡ mark_of (block_of s n)
  pub made : run.made ≡ s.made
  pub quarks : run.quarks ≡ s.quarks
  pub within : run.at ≤ length run.input.items
  pub input : drop run.at run.input.items ≡ s.input
  pub work : map item_seen (reverse run.work.items) ≡ s.work
  pub sized : All (IsSized env) run.work.items
  pub given : option_map value_seen run.given ≡ s.given
  pub said : map Happens run.said.items ≡ s.said
  pub ended : run.ended ≡ s.ended
  pub handlers : s.handlers ≡ []
  pub sources : s.sources ≡ []

-- A RUN SHOWS A RUN OF THE MEANING: its blocks are those of the heap, and all else is the same.
pub record Shows (env : Env) (run : Run) (s : State.State) : Type 0 where
  pub heap : heap_of s ≡ run.heap
  pub books : Books env run s

-- something holds of each run that is shown
abbrev pub InShown : Run → (State.State → Type 0) → Type 0
InShown run holds = (env : Env) (s : State.State) → Shows env run s → holds s

-- A CHANGE of a run: what was shown becomes what is shown then
abbrev pub Becomes : (State.State → State.State) → Run → Run → Type 0
Becomes change old new = (env : Env) (s : State.State) → Shows env old s → Shows env new (change s)

-- the same of what a run holds beside the cells
abbrev pub BooksBecome : (State.State → State.State) → Run → Run → Type 0
BooksBecome change old new = (env : Env) (s : State.State) → Books env old s → Books env new (change s)

-- 4. Items of the work

-- an item is put in front of the work; the cells that it tells are those of its kind
abbrev pub Pushes : Work → Run → Run → Type 0
Pushes w old new = (env : Env) (s : State.State) → IsSized env w → Shows env old s → Shows env new (push (item_seen w ∷ []) s)

-- an item was the first of the work, and the others are left
pub record Takes (env : Env) (w : Work) (new : Run) (s : State.State) : Type 0 where
  pub first : s.work ≡ item_seen w ∷ drop 1 s.work
  pub sized : IsSized env w
  pub shows : Shows env new (record s { work = drop 1 s.work })

-- the first item of the work is taken off; where there is none the work is empty and stays so
abbrev pub Popped : Option Work → Run → Run → Type 0
Popped None old new = (env : Env) (s : State.State) → Shows env old s → (s.work ≡ []) × Shows env new s
Popped (Some w) old new = (env : Env) (s : State.State) → Shows env old s → Takes env w new s
