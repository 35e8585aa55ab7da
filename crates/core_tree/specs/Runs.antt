-- What the laws on all runs speak of: what was made, what is ending and what is gone, and the ids that were given.
use Rattle.std.specs.Prelude.{◌≡◌, ◌≢◌, ℕ, suc, ◌+◌, ◌≤◌, ◌<◌, ◌==◌, Bool, true, false, not, List, [], ◌∷◌, ◌++◌, length, map, count_by, All, Contains, Option, Some, None}
use Rattle.vg_base.specs.declared.event.Event.{Event}
use Rattle.vg_base.specs.declared.event.Event.TheVariants.{Made, Gone as Went, Dispatch}
use Rattle.vg_base.specs.declared.event.ThingKind.{ThingKind}
use Rattle.vg_base.specs.Headline.{events}
use Rattle.vg_base.specs.Machine.{move, moves}
use Rattle.vg_base.specs.World.{World}
use Rattle.core_tree.specs.declared.program.Core.{Core}
use Rattle.core_tree.specs.State
use Rattle.core_tree.specs.State.{Null, Status, Live, Ending, Gone, ThingState, Handler, Source, Parked, Item}
use Rattle.core_tree.specs.Owners.{kind_of, thing_at}
use Rattle.core_tree.specs.Places.{is_live_now, put}
use Rattle.core_tree.specs.Step.{meaning, opening, VRun}
use Rattle.core_tree.specs.Tidy.{owning_places, endings, is_tidy}

-- the state after so many steps
abbrev pub state_after : Core → World → ℕ → State.State
state_after core w n = moves (meaning core).machine n (opening core w)

-- the trace so far
abbrev pub trace_after : Core → World → ℕ → List Event
trace_after core w n = (VRun core w).trace n

-- what the next step says
abbrev pub next_events : Core → World → ℕ → List Event
next_events core w n = events (move (meaning core).machine (state_after core w n)).1

-- Things

-- the kinds of the things that were made, in order
abbrev pub makings : List Event → List ThingKind
makings [] = []
makings (Made kind ∷ es) = kind ∷ makings es
makings (e ∷ es) = makings es

-- the kinds of things
abbrev pub kinds : List ThingState → List ThingKind
kinds xs = map (λ (x : ThingState). kind_of x.content) xs

-- the n-th thing that was made is the thing with the serial n
abbrev pub MakingsAreNumbered : Type 0
MakingsAreNumbered = (core : Core) (w : World) (n : ℕ) → makings (trace_after core w n) ≡ kinds (state_after core w n).things

-- live comes before ending, and ending before gone
abbrev pub progress : Status → ℕ
progress Live = 0
progress Ending = 1
progress Gone = 2

-- the number of a thing by how far it is, if it is there
abbrev pub by_status : (Status → ℕ) → Option ThingState → ℕ
by_status number None = 0
by_status number (Some x) = number x.status

-- the thing is what it was, with the same places, and no less far
pub record GoesOn (x y : ThingState) : Type 0 where
  pub content : y.content ≡ x.content
  pub first : y.first ≡ x.first
  pub count : y.count ≡ x.count
  pub status : progress x.status ≤ progress y.status

-- a thing that is there stays there
abbrev pub ThingsGoOn : Type 0
ThingsGoOn =
    (core : Core) (w : World) (n m t : ℕ) (x : ThingState)
    → n ≤ m → thing_at (state_after core w n) t ≡ Some x → (y : ThingState) × (thing_at (state_after core w m) t ≡ Some y) × GoesOn x y

-- in a step a thing goes one stage on at most
abbrev pub OneStageAStep : Type 0
OneStageAStep =
    (core : Core) (w : World) (n t : ℕ)
    → by_status progress (thing_at (state_after core w (suc n)) t) ≤ by_status progress (thing_at (state_after core w n) t) + 1

-- Endings

-- the event says that the thing went
abbrev pub is_going : ℕ → Event → Bool
is_going t (Went u) = t == u
is_going t e = false

-- it is gone, and it is ending, as numbers
abbrev pub gone_now : Status → ℕ
gone_now Gone = 1
gone_now _ = 0

abbrev pub ending_now : Status → ℕ
ending_now Ending = 1
ending_now _ = 0

-- the trace says once that a thing went, if it is gone, and else never
abbrev pub GoneOnce : Type 0
GoneOnce =
    (core : Core) (w : World) (n t : ℕ) → count_by (is_going t) (trace_after core w n) ≡ by_status gone_now (thing_at (state_after core w n) t)

-- before the trace says that a thing went, it says that it was made
abbrev pub MadeBeforeGone : Type 0
MadeBeforeGone =
    (core : Core) (w : World) (n t : ℕ) (es fs : List Event)
    → trace_after core w n ≡ es ++ Went t ∷ fs → (0 < t) × (t ≤ length (makings es))

-- the ending of a thing stands in the work once, if it is ending, and else never
abbrev pub EndingsStandOnce : Type 0
EndingsStandOnce =
    (core : Core) (w : World) (n t : ℕ)
    → endings (state_after core w n) t ≡ by_status ending_now (thing_at (state_after core w n) t)

-- how many things are ending or gone
abbrev pub past : List ThingState → ℕ
past xs = count_by (λ (x : ThingState). not (is_live_now x.status)) xs

-- between any two steps a live thing has an owner, and one that is ending or gone has none
abbrev pub IsAlwaysTidy : Type 0
IsAlwaysTidy = (core : Core) (w : World) (n : ℕ) → is_tidy (state_after core w n) ≡ true

-- what a place owns is a thing that is there and live
abbrev pub OwnedIsLive : Type 0
OwnedIsLive =
    (core : Core) (w : World) (n t : ℕ)
    → 0 < owning_places (state_after core w n) t → (x : ThingState) × (thing_at (state_after core w n) t ≡ Some x) × (x.status ≡ Live)

-- at most one thing begins to end in a step
abbrev pub OneEndingBegins : Type 0
OneEndingBegins = (core : Core) (w : World) (n : ℕ) → past (state_after core w (suc n)).things ≤ past (state_after core w n).things + 1

-- From one state to another this thing has fewer owners by one at most, and no other thing has fewer.
pub record LosesOneOwner (thing : ℕ) (s u : State.State) : Type 0 where
  pub one : owning_places s thing ≤ owning_places u thing + 1
  pub others : (t : ℕ) → t ≢ thing → owning_places s t ≤ owning_places u t

-- in a step at most one thing has fewer owners than before, and it has one fewer
abbrev pub OneOwnerIsLost : Type 0
OneOwnerIsLost = (core : Core) (w : World) (n : ℕ) → (t : ℕ) × LosesOneOwner t (state_after core w n) (state_after core w (suc n))

-- At most one place is given up in a step: there is a place without which each thing had no more owners before than it has after.
abbrev pub OnePlaceIsGivenUp : Type 0
OnePlaceIsGivenUp =
    (core : Core) (w : World) (n : ℕ) → (p : ℕ) × ((t : ℕ) → owning_places (put (state_after core w n) p Null) t ≤ owning_places (state_after core w (suc n)) t)

-- Ids

-- the ids rise, from above the first number up to the second
abbrev pub Rises : ℕ → List ℕ → ℕ → Type 0
Rises low [] high = low ≤ high
Rises low (i ∷ is) high = (low < i) × Rises i is high

-- Between two states the greatest id given does not fall, and an id that was given before is there only where it was there before.
pub record GivesOnce (ids : State.State → List ℕ) (greatest : State.State → ℕ) (s u : State.State) : Type 0 where
  pub rises : greatest s ≤ greatest u
  pub kept : (i : ℕ) → i ≤ greatest s → Contains (ids u) i → Contains (ids s) i

-- the ids of the handlers that are there
abbrev pub handler_ids : State.State → List ℕ
handler_ids s = map (λ (h : Handler). h.id) s.handlers

-- the ids of the sources that are there
abbrev pub source_ids : State.State → List ℕ
source_ids s = map (λ (x : Source). x.id) s.sources

-- the ids that are there are different and were given, and none is given twice
abbrev pub IdsAreGivenOnce : Type 0
IdsAreGivenOnce =
    (core : Core) (w : World) (n m : ℕ) → n ≤ m
    → Rises 0 (handler_ids (state_after core w n)) (state_after core w n).last_handler
    × Rises 0 (source_ids (state_after core w n)) (state_after core w n).last_source
    × GivesOnce handler_ids (λ (s : State.State). s.last_handler) (state_after core w n) (state_after core w m)
    × GivesOnce source_ids (λ (s : State.State). s.last_source) (state_after core w n) (state_after core w m)

-- the ids of the sources that are dispatched, in order
abbrev pub dispatches : List Event → List ℕ
dispatches [] = []
dispatches (Dispatch id ∷ es) = id ∷ dispatches es
dispatches (e ∷ es) = dispatches es

-- what a step dispatches is a source that is there
abbrev pub DispatchesSourceThere : Type 0
DispatchesSourceThere =
    (core : Core) (w : World) (n : ℕ) → All (λ (id : ℕ). Contains (source_ids (state_after core w n)) id) (dispatches (next_events core w n))
