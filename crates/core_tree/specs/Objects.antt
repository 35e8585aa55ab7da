-- Making objects, and the ending of every thing.
use Rattle.std.specs.Prelude.{ℕ, zero, suc, ◌+◌, ◌-◌, ◌==◌, Bool, true, false, if◌then◌else◌, List, [], ◌∷◌, ◌++◌, length, map, reverse, flat_map, Option, Some, None, slice_get}
use Rattle.vg_base.specs.declared.event.Event.TheVariants.{Gone as Went}
use Rattle.vg_base.specs.Headline.{Happens}
use Rattle.vala_types.specs.declared.types.Shape.TheVariants as shape
use Rattle.vala_types.specs.declared.types.VType.{VType}
use Rattle.core_tree.specs.declared.program.Core.{Core}
use Rattle.core_tree.specs.declared.tree.CoreExpr.{CoreExpr}
use Rattle.core_tree.specs.declared.types.ClassInfo.{ClassInfo}
use Rattle.core_tree.specs.declared.types.CoreMethod.{CoreMethod}
use Rattle.core_tree.specs.declared.types.CoreProperty.{CoreProperty}
use Rattle.core_tree.specs.declared.types.Given.{Given as GivenProperty}
use Rattle.core_tree.specs.declared.types.Making.{Making}
use Rattle.core_tree.specs.declared.types.Making.TheVariants as making
use Rattle.core_tree.specs.State
use Rattle.core_tree.specs.State.{Value, Null, Number, Thing, Operand, Given, Frame, Stage, Destructor, Places, Handlers, Last, Handler, Item, Evaluate, Locate, Push, Store, Execute, EndStatement, EndCall, EndMaking, BeginMaking, CallBase, MakeObject, SetProperty, RunMethod, GiveUp, End, Status, Gone, ThingState, Content, ObjectOf}
use Rattle.core_tree.specs.Owners.{thing_at}
use Rattle.core_tree.specs.Places.{Out, quiet, stuck, next, zero_of, empty_places, range, held, fill, owning_from, is_owning_place, with_thing, with_status, next_serial, made, give_up, unless}
use Rattle.core_tree.specs.Calls.{Opening, open_frame, tested}
use Rattle.core_tree.specs.Invoke.{class_info, call_method}

-- the base of a class
abbrev pub base_in : Option ClassInfo → Option ℕ
base_in None = None
base_in (Some info) = info.base

-- The bases of a class, itself first. A chain without repetition has no more links than there are types.
abbrev pub chain_from : Core → ℕ → Option ℕ → List ℕ
chain_from core zero c = []
chain_from core (suc n) None = []
chain_from core (suc n) (Some c) = c ∷ chain_from core n (base_in (class_info core c))

-- the classes of an object, the base first
abbrev pub classes_from_base : Core → ℕ → List ℕ
classes_from_base core c = reverse (chain_from core (length core.types) (Some c))

-- Making

-- a creation method's frame: its `this` is the place of the making
abbrev pub begin_creation : State.State → ℕ → ℕ → CoreMethod → ℕ → Frame → Opening → Out
begin_creation s class number m making frame o =
    unless (tested o.found) s (quiet (next (o.cleared ++ BeginMaking class number ∷ map Execute m.body ++ EndMaking o.owned s.frame ∷ []) (record o.state { frame = frame })))

-- the type of a fresh object of a class
abbrev pub class_type : ℕ → VType
class_type class = record { shape = shape.Class class; owned = true; nullable = false }

-- the object stands in the place of the making, which becomes the caller's temporary
abbrev pub new_frame : ℕ → ℕ → Frame → Frame
new_frame class place f = record f { this = place; result = place; result_type = class_type class }

-- the same of a creation method that was looked up
abbrev pub new_by : Core → State.State → ℕ → ℕ → List Operand → Option CoreMethod → Out
new_by core s class number os None = stuck s
new_by core s class number os (Some m) =
    let with_making : State.State = record s { places = s.places ++ record { owning = true; holds = Null; within = None } ∷ [] } in
    let o : Opening = open_frame core with_making m.locals Null Null None os in
    begin_creation s class number m (length s.places) (new_frame class (length s.places) o.state.frame) o

-- `new C (..)`: the frames of the creation methods come first, and the object is made when all arguments are there.
abbrev pub new_object : Core → State.State → ℕ → ℕ → List Operand → Out
new_object core s class number os = new_by core s class number os (slice_get core.methods number)

-- the same of a base's creation method that was looked up
abbrev pub base_by : Core → State.State → ℕ → ℕ → List Operand → Option CoreMethod → Out
base_by core s class number os None = stuck s
base_by core s class number os (Some m) =
    let o : Opening = open_frame core s m.locals Null Null None os in
    begin_creation s class number m s.frame.this (record o.state.frame { this = s.frame.this }) o

-- `base (..)`: the frame of the base's creation method, with the same making
abbrev pub call_base : Core → State.State → ℕ → ℕ → List Operand → Out
call_base core s class number os = base_by core s class number os (slice_get core.methods number)

-- the properties that `Object (..)` gives
abbrev pub given_properties : List GivenProperty → List ℕ
given_properties [] = []
given_properties (g ∷ gs) = g.property ∷ given_properties gs

-- expressions that are to be evaluated
abbrev pub evaluations : List CoreExpr → List Item
evaluations es = map Evaluate es

-- the values that `Object (..)` gives are to be evaluated
abbrev pub given_values : List GivenProperty → List Item
given_values [] = []
given_values (g ∷ gs) = Evaluate g.value ∷ given_values gs

-- how a creation method begins; the temporaries of this beginning go when the base's rest has run
abbrev pub beginning : State.State → ℕ → List ℕ → Making → List Item
beginning s class outer making.Nothing = []
beginning s class outer (making.Base number arguments at) = evaluations arguments ++ CallBase class number ∷ EndStatement outer ∷ []
beginning s class outer (making.Object givens) = given_values givens ++ MakeObject class (given_properties givens) ∷ EndStatement outer ∷ []

-- a part of the work with temporaries of its own
abbrev pub with_no_temporaries : State.State → State.State
with_no_temporaries s = record s { frame = record s.frame { temporaries = [] } }

-- the same of a creation method that was looked up
abbrev pub begin_making_by : State.State → ℕ → Option CoreMethod → Out
begin_making_by s class None = stuck s
begin_making_by s class (Some m) = quiet (next (beginning s class s.frame.temporaries m.making) (with_no_temporaries s))

-- a creation method begins: by `base (..)`, or by `Object (..)`
abbrev pub begin_making : Core → State.State → ℕ → ℕ → Out
begin_making core s class number = begin_making_by s class (slice_get core.methods number)

-- the types of all cells of a class
abbrev pub class_cells : Option ClassInfo → List VType
class_cells None = []
class_cells (Some info) = info.cells

-- the initialisers of a class
abbrev pub class_initials : Option ClassInfo → List Item
class_initials None = []
class_initials (Some info) = map Execute info.initials

-- the `construct` blocks of a class
abbrev pub class_blocks : Option ClassInfo → List Item
class_blocks None = []
class_blocks (Some info) = map RunMethod info.construct_blocks

-- the value given last to a property, if one is
abbrev pub given_to : ℕ → List ℕ → List Operand → Option Operand → Option Operand
given_to n [] os found = found
given_to n (p ∷ ps) [] found = found
given_to n (p ∷ ps) (o ∷ os) found = given_to n ps os (if n == p then Some o else found)

-- the default of a property of a type, or zero or null
abbrev pub default_value : VType → List CoreExpr → Item
default_value kind [] = Push (Given (zero_of kind.shape))
default_value kind (e ∷ es) = Evaluate e

-- a construct property gets its default, or zero or null
abbrev pub set_default : ℕ → Option CoreProperty → List Item
set_default n None = []
set_default n (Some p) = default_value p.kind p.default ∷ SetProperty n ∷ []

-- a construct property gets what is given, or its default
abbrev pub set_given : Core → ℕ → Option Operand → List Item
set_given core n None = set_default n (slice_get core.properties n)
set_given core n (Some o) = Push o ∷ SetProperty n ∷ []

-- each construct property is set once, to what is given last or its default
abbrev pub set_constructs : Core → List ℕ → List Operand → List ℕ → List Item
set_constructs core ps os [] = []
set_constructs core ps os (n ∷ ns) = set_given core n (given_to n ps os None) ++ set_constructs core ps os ns

-- the construct properties of a class are set
abbrev pub class_constructs : Core → List ℕ → List Operand → Option ClassInfo → List Item
class_constructs core ps os None = []
class_constructs core ps os (Some info) = set_constructs core ps os info.construct_properties

-- a property that is set while the object is made
abbrev pub is_construct : Option CoreProperty → Bool
is_construct None = false
is_construct (Some p) = p.is_construct

-- the other given properties, in the order written
abbrev pub set_others : Core → List ℕ → List Operand → List Item
set_others core [] os = []
set_others core (p ∷ ps) [] = []
set_others core (p ∷ ps) (o ∷ os) =
    if is_construct (slice_get core.properties p) then set_others core ps os else Push o ∷ SetProperty p ∷ set_others core ps os

-- what runs on a new object: initialisers, construct properties, `construct` blocks, base class first; the other properties
abbrev pub object_work : Core → ℕ → List ℕ → List Operand → List Item
object_work core class ps os =
    let classes : List (Option ClassInfo) = map (class_info core) (classes_from_base core class) in
    flat_map class_initials classes ++ flat_map (class_constructs core ps os) classes ++ flat_map class_blocks classes ++ set_others core ps os

-- the object is made, in the place of the making
abbrev pub make_object : Core → State.State → ℕ → List ℕ → List Operand → Out
make_object core s class ps os =
    if is_owning_place s s.frame.this then (
      next (object_work core class ps os) (
          fill (with_thing s (ObjectOf class) (empty_places core (Some (next_serial s)) (class_cells (class_info core class)))) s.frame.this (Thing (next_serial s))
          ),
      made (ObjectOf class),
    )
    else stuck s

-- the object that is made
abbrev pub made_object : State.State → Value
made_object s = held s s.frame.this

-- Ending

-- the thing is gone
abbrev pub went : State.State → ℕ → Out
went s t = (record s { things = with_status s.things t Gone }, Happens (Went t) ∷ [])

-- the class's own places, which are emptied behind its destructor
abbrev pub own_places : State.State → Option ThingState → ClassInfo → List ℕ
own_places s None info = []
own_places s (Some x) info = owning_from s (range (x.first + info.own) (length info.cells - info.own))

-- the destructor, where there is one, runs before the rest
abbrev pub destroy_by : Core → State.State → ℕ → Item → Option ℕ → Out
destroy_by core s t rest None = quiet (next (rest ∷ []) s)
destroy_by core s t rest (Some m) = call_method core (next (rest ∷ []) s) [] (Thing t) [] m

-- the destructor of a class runs, and then its fields are emptied in order of declaration
abbrev pub destroy : Core → State.State → ℕ → ℕ → Option ClassInfo → Out
destroy core s t class None = quiet (next (End t (Destructor class) ∷ []) s)
destroy core s t class (Some info) = destroy_by core s t (End t (Places (own_places s (thing_at s t) info) info.base)) info.destructor

-- a handler of this object
abbrev pub is_of : ℕ → Handler → Bool
is_of t h = h.object == t

-- the first handler of an object that owns its target
abbrev pub owning_handler : State.State → ℕ → List Handler → Option ℕ
owning_handler s t [] = None
owning_handler s t (h ∷ hs) = if is_of t h then (if is_owning_place s h.place then Some h.place else owning_handler s t hs) else owning_handler s t hs

-- the handlers but for the one with this place
abbrev pub without_place : ℕ → List Handler → List Handler
without_place n [] = []
without_place n (h ∷ hs) = if h.place == n then hs else h ∷ without_place n hs

-- the handlers but for those of this object
abbrev pub without_object : ℕ → List Handler → List Handler
without_object t [] = []
without_object t (h ∷ hs) = if is_of t h then without_object t hs else h ∷ without_object t hs

-- Handlers are dropped in order of connection. Those that own nothing take no step.
abbrev pub drop_handlers : State.State → ℕ → Option ℕ → Out
drop_handlers s t None = went (record s { handlers = without_object t s.handlers }) t
drop_handlers s t (Some n) = quiet (give_up (next (End t Handlers ∷ []) (record s { handlers = without_place n s.handlers })) n)

-- a thing that is an object of a class
abbrev pub is_object_of : Option ThingState → Bool
is_object_of None = false
is_object_of (Some x) = object_content x.content
  where
    object_content : Content → Bool
    object_content (ObjectOf c) = true
    object_content _ = false

-- behind its places: the base of a class, or the handlers of an object
abbrev pub behind_places : State.State → ℕ → Option ℕ → Out
behind_places s t (Some base) = quiet (next (End t (Destructor base) ∷ []) s)
behind_places s t None = if is_object_of (thing_at s t) then quiet (next (End t Handlers ∷ []) s) else went s t

-- one stage of an ending
abbrev pub end_stage : Core → State.State → ℕ → Stage → Out
end_stage core s t (Destructor class) = destroy core s t class (class_info core class)
end_stage core s t (Places (n ∷ ns) base) = quiet (give_up (next (End t (Places ns base) ∷ []) s) n)
end_stage core s t (Places [] base) = behind_places s t base
end_stage core s t Handlers = drop_handlers s t (owning_handler s t s.handlers)
end_stage core s t Last = went s t
