-- What a machine is seen as, and one step of it.
use Rattle.std.specs.Prelude.{◌≡◌, ℕ, zero, suc, ◌+◌, ◌≤◌, Bool, true, false, List, [], ◌∷◌, Option, Some, None, Result, Ok, Err}
use Rattle.vg_base.specs.declared.event.CEnd.{CEnd}
use Rattle.vg_base.specs.declared.event.Event.{Event}
use Rattle.vg_base.specs.declared.event.Event.TheVariants.{Print}
use Rattle.vg_base.specs.declared.event.Memory.{Memory}
use Rattle.vg_base.specs.declared.event.Stream.{Stream}
use Rattle.vg_base.specs.Machine.{Machine, move, said}
use Rattle.vg_base.specs.World.{World}
use Rattle.vg_base.specs.Headline.{Said, Happens, events}
use Rattle.c_tree.specs.declared.unit.Unit.{Unit as CUnit}
use Rattle.c_meaning.specs.State
use Rattle.c_meaning.specs.Code.{reading, program_by}
use Rattle.c_meaning.specs.Runs.{meaning, opening_by, state_after}
use Rattle.c_interpreter.specs.declared.machine.Stepped.{Stepped}
use Rattle.c_interpreter.specs.declared.machine.Stepped.TheVariants.{Ran, Printed, Ended}

-- A machine: its unit, the world that it was loaded in, how many steps it made, whether it keeps its events, and whether
-- memory ran out in an earlier call.
pub record Kept : Type 0 where
  pub unit : CUnit
  pub world : World
  pub done : ℕ
  pub keeps : Bool
  pub exhausted : Bool

-- a world without a script
abbrev pub world_of : List ℕ → List ℕ → World
world_of name input = record { name = name; input = input; entries = [] }

-- the steps of a unit
abbrev pub machine_of : CUnit → Machine State.State Said CEnd
machine_of unit = (meaning (program_by reading unit)).machine

-- the state that a machine stands at
abbrev pub state_of : Kept → State.State
state_of k = state_after k.unit k.world k.done

-- the trace of n steps
abbrev pub trace_after : CUnit → World → ℕ → List Event
trace_after unit w n = events (said (machine_of unit) n (opening_by reading unit w))

-- what a machine tells of its trace: all of it where it keeps its events
abbrev pub trace_told : Bool → List Event → Option (List Event)
trace_told true es = Some es
trace_told false es = None

abbrev pub trace_of : Kept → Option (List Event)
trace_of k = trace_told k.keeps (trace_after k.unit k.world k.done)

-- how many of n steps are made: those before an end
abbrev pub made_unless : {F : Type 0} → Option F → ℕ → ℕ
made_unless None n = n + 1
made_unless (Some e) n = 0

abbrev pub steps_made : {S E F : Type 0} → Machine S E F → ℕ → S → ℕ
steps_made M zero s = 0
steps_made M (suc n) s = made_unless (M.ended s) (steps_made M n (move M s).0)

-- a print, and where it goes
pub record Piece : Type 0 where
  pub stream : Stream
  pub bytes : List ℕ

-- the prints of what was said
abbrev pub pieces : List Said → List Piece
pieces [] = []
pieces (Happens (Print stream bytes) ∷ xs) = record { stream = stream; bytes = bytes } ∷ pieces xs
pieces (x ∷ xs) = pieces xs

-- what a step answers: what it printed, or, where it printed nothing, whether there is an end behind it
abbrev pub Tells : Stepped → List Said → Option CEnd → Type 0
Tells Ran said ended = (pieces said ≡ []) × (ended ≡ None)
Tells (Printed stream bytes) said ended = pieces said ≡ record { stream = stream; bytes = bytes } ∷ []
Tells (Ended e) said ended = (pieces said ≡ []) × (ended ≡ Some e)

-- One step was made, or, where there is an end, the end was answered again.
pub record IsStep (old : Kept) (answer : Stepped) (new : Kept) : Type 0 where
  pub done : new.done ≡ old.done + steps_made (machine_of old.unit) 1 (state_of old)
  pub state : state_of new ≡ (move (machine_of old.unit) (state_of old)).0
  pub tells : Tells answer (move (machine_of old.unit) (state_of old)).1 (state_of new).ended

-- without memory no step counts
abbrev pub StepsAt : Kept → Result Stepped Memory → Kept → Type 0
StepsAt old (Ok answer) new = IsStep old answer new
StepsAt old (Err _) new = new.done ≡ old.done

-- a machine is exhausted by want of memory alone
abbrev pub exhausted_after : Result Stepped Memory → Bool → Bool
exhausted_after (Ok answer) b = b
exhausted_after (Err _) b = true

-- one call of `step`
pub record Steps (old : Kept) (answer : Result Stepped Memory) (new : Kept) : Type 0 where
  pub by_answer : StepsAt old answer new
  pub bound : new.done ≤ old.done + 1
  pub unit : new.unit ≡ old.unit
  pub world : new.world ≡ old.world
  pub keeps : new.keeps ≡ old.keeps
  pub exhausted : new.exhausted ≡ exhausted_after answer old.exhausted
