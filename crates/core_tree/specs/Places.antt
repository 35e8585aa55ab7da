-- Places: what they hold, how they are made, and when an end comes before they are used.
use Rattle.std.specs.Prelude.{ℕ, zero, suc, ◌+◌, ◌*◌, ◌==◌, ◌&&◌, nat_lt, Bool, true, false, not, if◌then◌else◌, ℤ, pos, negsuc, List, [], ◌∷◌, ◌++◌, length, map, flat_map, Option, Some, None, Result, Ok, Err, slice_get}
use Rattle.std.specs.List.{list_any}
use Rattle.vg_base.specs.declared.event.VEnd.{VEnd}
use Rattle.vg_base.specs.declared.event.VEnd.TheVariants.{Trapped, Dead}
use Rattle.vg_base.specs.declared.event.TrapKind.TheVariants as trap
use Rattle.vg_base.specs.declared.event.Event.TheVariants.{Made}
use Rattle.vg_base.specs.Headline.{Said, Happens}
use Rattle.vala_types.specs.declared.types.Shape.{Shape}
use Rattle.vala_types.specs.declared.types.Shape.TheVariants as shape
use Rattle.vala_types.specs.declared.types.VType.{VType}
use Rattle.vala_types.specs.Changes.{is_plain}
use Rattle.core_tree.specs.declared.program.Core.{Core}
use Rattle.core_tree.specs.declared.types.CoreType.{CoreType}
use Rattle.core_tree.specs.declared.types.CoreType.TheVariants as declared
use Rattle.core_tree.specs.State
use Rattle.core_tree.specs.State.{Value, Null, Number, Literal, Arguments, Thing, Message, Cells, Delegate, Place, Operand, Given, Owned, OwnedCells, At, CellOf, ElementOf, PropertyOf, VariableOf, Frame, Stage, Destructor, Places, Handlers, Last, Item, End, Status, Live, Ending, Gone, Content, ObjectOf, LoopOf, TextOf, ArrayOf, ScopeOf, ErrorOf, ActivationOf, ThingState}
use Rattle.core_tree.specs.Owners.{owned_by, is_unowned, thing_at, kind_of}

-- what a step gives: the next state, and what it says
abbrev pub Out : Type 0
Out = State.State × List Said

-- the step says nothing
abbrev pub quiet : State.State → Out
quiet s = (s, [])

-- the run ends
abbrev pub stop : State.State → VEnd → Out
stop s e = (record s { ended = Some e }, [])

-- Code that the front never makes has no step: the state stays.
abbrev pub stuck : State.State → Out
stuck s = (s, [])

-- the work in front of what is left
abbrev pub next : List Item → State.State → State.State
next items s = record s { work = items ++ s.work }

-- Types and their cells

-- a struct has the cells of its fields, and every other type has one
abbrev pub struct_cells : Option CoreType → List VType
struct_cells (Some (declared.Struct info)) = info.cells
struct_cells _ = []

-- the same, by the shape
abbrev pub cells_by : Core → VType → Shape → List VType
cells_by core kind (shape.Struct number) = struct_cells (slice_get core.types number)
cells_by core kind _ = kind ∷ []

-- the types of the cells that a value of a type takes
abbrev pub cells_of : Core → VType → List VType
cells_of core kind = cells_by core kind kind.shape

-- a cell of this type owns what it holds
abbrev pub is_owning : VType → Bool
is_owning kind = kind.owned && not (is_plain kind.shape)

-- what an empty cell holds: zero or null
abbrev pub zero_of : Shape → Value
zero_of shape.Bool = Number (pos 0)
zero_of (shape.Int k) = Number (pos 0)
zero_of (shape.Enum n) = Number (pos 0)
zero_of _ = Null

-- an empty place for a type
abbrev pub empty_place : Option ℕ → VType → Place
empty_place within kind = record { owning = is_owning kind; holds = zero_of kind.shape; within = within }

-- empty places for types, within a thing or none
abbrev pub empty_places : Core → Option ℕ → List VType → List Place
empty_places core within kinds = map (empty_place within) (flat_map (cells_of core) kinds)

-- the place at which each type's cells begin, from a first one on
abbrev pub firsts : Core → ℕ → List VType → List ℕ
firsts core n [] = []
firsts core n (kind ∷ kinds) = n ∷ firsts core (n + length (cells_of core kind)) kinds

-- numbers one after another
abbrev pub range : ℕ → ℕ → List ℕ
range n zero = []
range n (suc count) = n ∷ range (suc n) count

-- What places hold

-- what a place holds, if it is there
abbrev pub held_in : Option Place → Value
held_in None = Null
held_in (Some p) = p.holds

-- what the place with a number holds
abbrev pub held : State.State → ℕ → Value
held s n = held_in (slice_get s.places n)

-- whether a place owns, if it is there
abbrev pub owning_in : Option Place → Bool
owning_in None = false
owning_in (Some p) = p.owning

-- whether the place with a number owns
abbrev pub is_owning_place : State.State → ℕ → Bool
is_owning_place s n = owning_in (slice_get s.places n)

-- the list of places, one of which holds this now
abbrev pub put_in : List Place → ℕ → Value → List Place
put_in [] n v = []
put_in (p ∷ ps) zero v = record p { holds = v } ∷ ps
put_in (p ∷ ps) (suc n) v = p ∷ put_in ps n v

-- the place holds this from now on
abbrev pub put : State.State → ℕ → Value → State.State
put s n v = record s { places = put_in s.places n v }

-- those of so many places from a first one on that own
abbrev pub owning_from : State.State → List ℕ → List ℕ
owning_from s [] = []
owning_from s (n ∷ ns) = if is_owning_place s n then n ∷ owning_from s ns else owning_from s ns

-- new places behind the others
abbrev pub add_places : State.State → List Place → State.State
add_places s ps = record s { places = s.places ++ ps }

-- the number that the next place gets
abbrev pub next_place : State.State → ℕ
next_place s = length s.places

-- Things

-- how far a thing is
abbrev pub status_in : Option ThingState → Status
status_in None = Gone
status_in (Some x) = x.status

-- it is gone
abbrev pub is_gone_now : Status → Bool
is_gone_now Gone = true
is_gone_now _ = false

-- it is live
abbrev pub is_live_now : Status → Bool
is_live_now Live = true
is_live_now _ = false

-- whether the thing that a value leads to is gone
abbrev pub is_gone : State.State → Value → Bool
is_gone s (Thing t) = is_gone_now (status_in (thing_at s t))
is_gone s (Message t) = is_gone_now (status_in (thing_at s t))
is_gone s _ = false

-- the thing is ending or gone
abbrev pub is_past : State.State → Option ℕ → Bool
is_past s None = false
is_past s (Some t) = not (is_live_now (status_in (thing_at s t)))

-- whether a new owner of it is a dead use: what it owns is ending or gone
abbrev pub cannot_be_owned : State.State → Value → Bool
cannot_be_owned s v = is_past s (owned_by v)

-- What an owning place takes. The front never hands it what is ending or gone, and null stands for that.
abbrev pub ownable : State.State → Value → Value
ownable s v = if cannot_be_owned s v then Null else v

-- null
abbrev pub is_null : Value → Bool
is_null Null = true
is_null _ = false

-- what a thing is, if it is there
abbrev pub content_in : Option ThingState → Option Content
content_in None = None
content_in (Some x) = Some x.content

-- what the thing is that a value leads to
abbrev pub content_of : State.State → Value → Option Content
content_of s (Thing t) = content_in (thing_at s t)
content_of s (Message t) = content_in (thing_at s t)
content_of s _ = None

-- a new thing, live, with places of its own
abbrev pub with_thing : State.State → Content → List Place → State.State
with_thing s content ps =
    record s {
      things = s.things ++ record { content = content; status = Live; first = length s.places; count = length ps } ∷ [];
      places = s.places ++ ps;
    }

-- the serial of the next thing
abbrev pub next_serial : State.State → ℕ
next_serial s = suc (length s.things)

-- the trace says that a thing was made
abbrev pub made : Content → List Said
made content = Happens (Made (kind_of content)) ∷ []

-- the things, one of which is this far now
abbrev pub with_status : List ThingState → ℕ → Status → List ThingState
with_status [] t status = []
with_status (x ∷ xs) zero status = x ∷ xs
with_status (x ∷ xs) (suc zero) status = record x { status = status } ∷ xs
with_status (x ∷ xs) (suc (suc t)) status = x ∷ with_status xs (suc t) status

-- The tests of a step: the null tests of all its parts, then the dead uses.

-- what ends a step that uses all of these values
abbrev pub uses : State.State → List Value → Option VEnd
uses s vs = if list_any is_null vs then Some (Trapped trap.Null) else (if list_any (is_gone s) vs then Some Dead else None)

-- dead uses alone: null is none
abbrev pub reads : State.State → List Value → Option VEnd
reads s vs = if list_any (is_gone s) vs then Some Dead else None

-- the step goes on where no test ends the run
abbrev pub unless : Option VEnd → State.State → Out → Out
unless None s o = o
unless (Some e) s o = stop s e

-- Ownership ends

-- the first stage of a thing's ending
abbrev pub first_stage : State.State → ThingState → Content → Stage
first_stage s x (ObjectOf class) = Destructor class
first_stage s x LoopOf = Last
first_stage s x (TextOf bytes) = Last
first_stage s x (ErrorOf domain code message) = Last
first_stage s x _ = Places (owning_from s (range x.first x.count)) None

-- a delegate with this target
abbrev pub has_target : ℕ → Value → Bool
has_target t (Delegate code (Thing u)) = t == u
has_target t v = false

-- the handlers but for those that do not own their target, which is this thing
abbrev pub without_target : State.State → ℕ → List State.Handler → List State.Handler
without_target s t [] = []
without_target s t (h ∷ hs) =
    if not (is_owning_place s h.place) && has_target t (held s h.place) then without_target s t hs else h ∷ without_target s t hs

-- the same of a thing that was looked up
abbrev pub begin_ending_of : State.State → ℕ → Option ThingState → State.State
begin_ending_of s t None = s
begin_ending_of s t (Some x) =
    if is_live_now x.status then next (End t (first_stage s x x.content) ∷ []) (record s { things = with_status s.things t Ending; handlers = without_target s t s.handlers })
    else s

-- a live thing is ending, before all other work
abbrev pub begin_ending : State.State → ℕ → State.State
begin_ending s t = begin_ending_of s t (thing_at s t)

-- the thing is ending where it has no owner left
abbrev pub release_thing : State.State → Option ℕ → State.State
release_thing s None = s
release_thing s (Some t) = if is_unowned s t then begin_ending s t else s

-- What an owning place held is in it no longer: where it has no owner left, it is ending.
abbrev pub release : State.State → Value → State.State
release s v = release_thing s (owned_by v)

-- an owning place gets a value, and what it held is given up
abbrev pub fill : State.State → ℕ → Value → State.State
fill s n v = release (put s n v) (held s n)

-- empties an owning place
abbrev pub give_up : State.State → ℕ → State.State
give_up s n = release (put s n Null) (held s n)

-- what an owning place holds moves into a new one
abbrev pub carried : State.State → ℕ → State.State
carried s n = add_places (put s n Null) (record { owning = true; holds = ownable s (held s n); within = None } ∷ [])

-- Operands

-- the value that an operand stands for
abbrev pub value_of : State.State → Operand → Value
value_of s (Given v) = v
value_of s (Owned n) = held s n
value_of s (OwnedCells first count) = Cells first
value_of s _ = Null

-- what is given is put on top
abbrev pub give : State.State → Operand → State.State
give s o = record s { frame = record s.frame { operands = o ∷ s.frame.operands } }

-- a value that nothing here owns is given
abbrev pub give_value : State.State → Value → State.State
give_value s v = give s (Given v)

-- a number is given
abbrev pub give_number : State.State → ℤ → State.State
give_number s z = give s (Given (Number z))

-- a `bool` as a number
abbrev pub bit : Bool → ℤ
bit true = pos 1
bit false = pos 0

-- a `bool` is given
abbrev pub give_bool : State.State → Bool → State.State
give_bool s b = give_number s (bit b)

-- a new owned temporary that holds the value, which is given
abbrev pub give_owned : State.State → Value → State.State
give_owned s v =
    give (
    record s {
      places = s.places ++ record { owning = true; holds = v; within = None } ∷ [];
      frame = record s.frame { temporaries = s.frame.temporaries ++ length s.places ∷ [] };
    }
    ) (Owned (length s.places))

-- makes a thing, in an owned temporary, which is given
abbrev pub give_made : State.State → Content → List Place → Out
give_made s content ps = (give_owned (with_thing s content ps) (Thing (next_serial s)), made content)

-- Targets

-- where a target leads
pub data Found : Type 0 where
  There : ℕ → Found
  Fails : VEnd → Found
  Nowhere : Found

-- a place, unless a test ends the run
abbrev pub found : Option VEnd → Found → Found
found None f = f
found (Some e) f = Fails e

-- the thing that has the place is gone
abbrev pub within_gone : State.State → Option Place → Bool
within_gone s None = false
within_gone s (Some p) = gone_within p.within
  where
    gone_within : Option ℕ → Bool
    gone_within None = false
    gone_within (Some t) = is_gone s (Thing t)

-- a place by its number, which is a dead use where the thing that has it is gone
abbrev pub find_at : State.State → ℕ → Found
find_at s n = if within_gone s (slice_get s.places n) then Fails Dead else There n

-- a place of a thing, counted from its first
abbrev pub first_of : Option ThingState → ℕ → Found
first_of None k = Nowhere
first_of (Some x) k = There (x.first + k)

-- the place with a number of an object
abbrev pub find_cell : State.State → Value → ℕ → Found
find_cell s (Thing t) k = found (uses s (Thing t ∷ [])) (first_of (thing_at s t) k)
find_cell s (Cells first) k = find_at s (first + k)
find_cell s v k = found (uses s (v ∷ [])) Nowhere

-- an index is inside a length
abbrev pub is_inside : ℤ → ℕ → Bool
is_inside (pos i) n = nat_lt i n
is_inside (negsuc i) n = false

-- an index that is not negative
abbrev pub nat_of : ℤ → ℕ
nat_of (pos i) = i
nat_of (negsuc i) = 0

-- where an element begins, or the trap `index`
abbrev pub find_element_if : Bool → ℕ → Found
find_element_if true n = There n
find_element_if false n = Fails (Trapped trap.Index)

-- an element of an array that is a thing
abbrev pub find_element_in : Option ThingState → ℕ → ℤ → Found
find_element_in None width i = Nowhere
find_element_in (Some x) width i = element_of x.content
  where
    element_of : Content → Found
    element_of (ArrayOf item count) = find_element_if (is_inside i count) (x.first + nat_of i * width)
    element_of _ = Nowhere

-- an element of an array whose elements have so many cells
abbrev pub find_element : State.State → Value → ℕ → ℤ → Found
find_element s (Thing t) width i = found (uses s (Thing t ∷ [])) (find_element_in (thing_at s t) width i)
find_element s (Arguments first count) width i = find_element_if (is_inside i count) (first + nat_of i)
find_element s v width i = found (uses s (v ∷ [])) Nowhere

-- Scopes, outward from one: each scope on the way is used.

-- where a scope's outer scope stands: behind its variables
abbrev pub outer_in : Option ThingState → ℕ
outer_in None = 0
outer_in (Some x) = outer_place x.content
  where
    outer_place : Content → ℕ
    outer_place (ScopeOf variables has_outer has_this) = x.first + variables
    outer_place _ = 0

-- the place of a scope that holds its outer scope
abbrev pub outer_place_of : State.State → Value → ℕ
outer_place_of s (Thing t) = outer_in (thing_at s t)
outer_place_of s v = 0

-- what is reached, unless a test ends the run
abbrev pub reached : Option VEnd → Result Value VEnd → Result Value VEnd
reached None r = r
reached (Some e) r = Err e

-- The scope that is so many outward, or the end that one on the way brings: a gone one, or none,
-- where a scope that is ending has given up its outer one.
abbrev pub scope_from : State.State → Value → ℕ → Result Value VEnd
scope_from s v zero = reached (uses s (v ∷ [])) (Ok v)
scope_from s v (suc n) = reached (uses s (v ∷ [])) (scope_from s (held s (outer_place_of s v)) n)

-- a variable of the scope that was reached
abbrev pub variable_in : State.State → Result Value VEnd → ℕ → Found
variable_in s (Err e) k = Fails e
variable_in s (Ok v) k = find_cell s v k

-- a variable of the scope that is so many outward
abbrev pub find_variable : State.State → Value → ℕ → ℕ → Found
find_variable s v outward k = variable_in s (scope_from s v outward) k

-- where `this` stands in a scope: behind its variables and its outer scope
abbrev pub this_in : Option ThingState → ℕ
this_in None = 0
this_in (Some x) = this_place x.content
  where
    this_place : Content → ℕ
    this_place (ScopeOf variables true has_this) = variables + 1
    this_place (ScopeOf variables false has_this) = variables
    this_place _ = 0

-- which of its places holds the `this` of a scope
abbrev pub this_cell : State.State → Value → ℕ
this_cell s (Thing t) = this_in (thing_at s t)
this_cell s v = 0

-- the place `this` of the scope that was reached
abbrev pub this_of : State.State → Result Value VEnd → Found
this_of s (Err e) = Fails e
this_of s (Ok v) = find_cell s v (this_cell s v)
