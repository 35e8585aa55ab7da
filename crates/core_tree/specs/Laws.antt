-- What the laws on the meaning speak of.
use Rattle.std.specs.Prelude.{◌≡◌, ◌≢◌, ℕ, Bool, false, List, [], length, Option, Some}
use Rattle.std.specs.Prelude.{IsTrue, ◌==◌, ◌&&◌, nat_le}
use Rattle.std.specs.List.{list_any}
use Rattle.vg_base.specs.declared.event.Entry.{Entry}
use Rattle.vg_base.specs.Turn.{Due, Dispatched, turn}
use Rattle.vg_base.specs.World.{World}
use Rattle.vg_base.specs.Run.{IsRun}
use Rattle.vg_base.specs.Machine.{run_from}
use Rattle.core_tree.specs.declared.program.Core.{Core}
use Rattle.core_tree.specs.State
use Rattle.core_tree.specs.State.{Value, Null, Literal, Arguments, Delegate, Resume, Place, Content, ThingState, Live}
use Rattle.core_tree.specs.Owners.{owns, thing_at, live}
use Rattle.core_tree.specs.Places.{held, give_up, with_thing, next_serial}
use Rattle.core_tree.specs.Step.{meaning, opening}

-- what was said stays, and so does an end
abbrev pub RunsGoOn : Type 0
RunsGoOn = (core : Core) (w : World) → IsRun (run_from (meaning core).machine (opening core w))

-- before the first step nothing lives
abbrev pub NothingLivesAtFirst : Type 0
NothingLivesAtFirst = (core : Core) (w : World) → live (opening core w) ≡ []

-- no place owns a thing by a text literal, or by the arguments of `main`
abbrev pub LiteralsAreNoThings : Type 0
LiteralsAreNoThings = (owning : Bool) (within : Option ℕ) (bytes : List ℕ) (t : ℕ) → owns t (record { owning = owning; holds = Literal bytes; within = within }) ≡ false

-- what resumes an activation owns nothing, wherever it is stored
abbrev pub CallbacksOwnNothing : Type 0
CallbacksOwnNothing = (owning : Bool) (within : Option ℕ) (target : Value) (t : ℕ) → owns t (record { owning = owning; holds = Delegate Resume target; within = within }) ≡ false

-- Giving up a place empties it, and changes what no other place holds.
pub record EmptiesOnePlace (s : State.State) (n : ℕ) : Type 0 where
  pub empty : held (give_up s n) n ≡ Null
  pub others : (m : ℕ) → m ≢ n → held (give_up s n) m ≡ held s m

-- the thing that is made next has the next serial, and is live
abbrev pub ThingsAreNumbered : Type 0
ThingsAreNumbered =
    (s : State.State) (content : Content) (ps : List Place)
    → thing_at (with_thing s content ps) (next_serial s) ≡ Some (record { content = content; status = Live; first = length s.places; count = length ps })

-- what a turn dispatches is a source that is there and ready
abbrev pub DispatchesReadySource : Type 0
DispatchesReadySource =
    (entries : List Entry) (clock : ℕ) (sources : List Due) (id : ℕ)
    → (turn entries clock sources).choice ≡ Dispatched id → IsTrue (list_any (λ (d : Due). d.id == id && nat_le d.due (turn entries clock sources).clock) sources)
