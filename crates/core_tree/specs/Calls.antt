-- Calls: the arguments, the frame of a call, and its end.
use Rattle.std.specs.Prelude.{ℕ, suc, ◌+◌, Bool, true, false, if◌then◌else◌, List, [], ◌∷◌, ◌++◌, length, map, Option, Some, None}
use Rattle.vg_base.specs.declared.event.VEnd.{VEnd}
use Rattle.vg_base.specs.declared.event.VEnd.TheVariants.{Trapped, Dead}
use Rattle.vg_base.specs.declared.event.TrapKind.{TrapKind}
use Rattle.vg_base.specs.declared.event.TrapKind.TheVariants as trap
use Rattle.vala_types.specs.declared.types.Item.{Item as ElementType}
use Rattle.vala_types.specs.declared.types.ItemShape.{ItemShape}
use Rattle.vala_types.specs.declared.types.ItemShape.TheVariants as item
use Rattle.vala_types.specs.declared.types.Shape.{Shape}
use Rattle.vala_types.specs.declared.types.Shape.TheVariants as shape
use Rattle.vala_types.specs.declared.types.VType.{VType}
use Rattle.core_tree.specs.declared.program.Core.{Core}
use Rattle.core_tree.specs.declared.lambda.CoreParameter.{CoreParameter}
use Rattle.core_tree.specs.declared.lambda.Mode.{Mode}
use Rattle.core_tree.specs.declared.lambda.Mode.TheVariants as mode
use Rattle.core_tree.specs.declared.lambda.Locals.{Locals}
use Rattle.core_tree.specs.State
use Rattle.core_tree.specs.State.{Value, Null, Thing, Arguments, Cells, Place, Operand, Given, Owned, OwnedCells, At, CellOf, ElementOf, MemberOf, PropertyOf, VariableOf, Frame, Item, GiveUp, Clear, EndCall, ThingState, Content, ArrayOf}
use Rattle.core_tree.specs.Places.{ownable, cells_of, is_owning, empty_place, empty_places, firsts, range, held, put_in, owning_from, add_places, uses, value_of, give, Found, There, Fails, Nowhere, found, find_at, find_cell, find_element, find_variable, content_of}

-- Elements

-- the shape of an element's type
abbrev pub shape_of_item : ItemShape → Shape
shape_of_item item.Bool = shape.Bool
shape_of_item (item.Int k) = shape.Int k
shape_of_item item.Text = shape.Text
shape_of_item (item.Enum n) = shape.Enum n
shape_of_item (item.Struct n) = shape.Struct n
shape_of_item (item.Class n) = shape.Class n
shape_of_item (item.Interface n) = shape.Interface n
shape_of_item (item.Delegate n) = shape.Delegate n
shape_of_item (item.Error d) = shape.Error d

-- the type of an element's place: elements own
abbrev pub type_of_item : ElementType → VType
type_of_item of = record { shape = shape_of_item of.shape; owned = true; nullable = of.nullable }

-- how many cells an element of this array takes
abbrev pub width_in : Core → Option Content → ℕ
width_in core (Some (ArrayOf of count)) = length (cells_of core (type_of_item of))
width_in core _ = 1

-- Targets

-- the place that is so many behind one that was found
abbrev pub behind_found : ℕ → Found → Found
behind_found k (There n) = There (n + k)
behind_found k f = f

-- where a target leads, with its tests: null before dead before the index
abbrev pub find_target : Core → State.State → Operand → Found
find_target core s (At n) = find_at s n
find_target core s (CellOf v k) = find_cell s v k
find_target core s (ElementOf v i) = find_element s v (width_in core (content_of s v)) i
find_target core s (MemberOf o k) = behind_found k (find_target core s o)
find_target core s (VariableOf v outward k) = find_variable s v outward k
find_target core s _ = Nowhere

-- a receiver of which nothing but its being there is looked at
abbrev pub used : State.State → Value → Found
used s v = found (uses s (v ∷ [])) (There 0)

-- the trap `null`
abbrev pub is_null_trap : TrapKind → Bool
is_null_trap trap.Null = true
is_null_trap _ = false

-- the target or receiver is null
abbrev pub ends_null : Found → Bool
ends_null (Fails (Trapped k)) = is_null_trap k
ends_null _ = false

-- the target or receiver is gone, or what has it
abbrev pub ends_dead : Found → Bool
ends_dead (Fails Dead) = true
ends_dead _ = false

-- the end of this one, or else of the later ones
abbrev pub end_in : Found → Option VEnd → Option VEnd
end_in (Fails e) later = Some e
end_in _ later = later

-- one of them at least is so
abbrev pub any : (Found → Bool) → List Found → Bool
any test [] = false
any test (f ∷ fs) = if test f then true else any test fs

-- the end that the first of them brings
abbrev pub first_end : List Found → Option VEnd
first_end [] = None
first_end (f ∷ fs) = end_in f (first_end fs)

-- The end that a step with several uses meets: a null part, then a dead use, then the first other trap.
abbrev pub tested : List Found → Option VEnd
tested fs = if any ends_null fs then Some (Trapped trap.Null) else (if any ends_dead fs then Some Dead else first_end fs)

-- Arguments

-- what fills a cell, and the temporary that it leaves, if it stood in one
pub record Filling : Type 0 where
  pub value : Value
  pub left : Option ℕ

-- what stands in a temporary
abbrev pub part_at : State.State → ℕ → Filling
part_at s n = record { value = held s n; left = Some n }

-- what fills the cells of a parameter
abbrev pub parts_of : State.State → Operand → List Filling
parts_of s (Owned n) = part_at s n ∷ []
parts_of s (OwnedCells first count) = map (part_at s) (range first count)
parts_of s o = record { value = value_of s o; left = None } ∷ []

-- one more temporary, if there is one
abbrev pub with_left : Option ℕ → List ℕ → List ℕ
with_left None ns = ns
with_left (Some n) ns = n ∷ ns

-- the temporaries that values leave where they go into owning cells
abbrev pub left_by : List VType → List Filling → List ℕ
left_by [] ps = []
left_by (kind ∷ kinds) [] = []
left_by (kind ∷ kinds) (p ∷ ps) = if is_owning kind then with_left p.left (left_by kinds ps) else left_by kinds ps

-- what a cell of a type holds
abbrev pub filled_cell : State.State → VType → Value → Place
filled_cell s kind v = record { owning = is_owning kind; holds = if is_owning kind then ownable s v else v; within = None }

-- cells of types that hold these
abbrev pub filled : State.State → List VType → List Filling → List Place
filled s [] ps = []
filled s (kind ∷ kinds) [] = empty_place None kind ∷ filled s kinds []
filled s (kind ∷ kinds) (p ∷ ps) = filled_cell s kind p.value ∷ filled s kinds ps

-- what the arguments of a call make: the place of each parameter, new places, the temporaries that are left,
-- and what the targets among them lead to
pub record Arranged : Type 0 where
  pub locals : List ℕ
  pub places : List Place
  pub left : List ℕ
  pub found : List Found
  pub cleared : List Item

-- no parameters
abbrev pub nothing_arranged : Arranged
nothing_arranged = record { locals = []; places = []; left = []; found = []; cleared = [] }

-- the number of a place that was found
abbrev pub place_found : Found → ℕ
place_found (There n) = n
place_found _ = 0

-- the cells of a place are set to zero and what they held is given up, in order
abbrev pub clears : ℕ → List VType → List Item
clears n [] = []
clears n (kind ∷ kinds) = Clear n kind ∷ clears (suc n) kinds

-- one more parameter in front
abbrev pub with_value : Core → State.State → ℕ → CoreParameter → Operand → Arranged → Arranged
with_value core s n p o rest =
    record rest {
      locals = n ∷ rest.locals;
      places = filled s (cells_of core p.kind) (parts_of s o) ++ rest.places;
      left = left_by (cells_of core p.kind) (parts_of s o) ++ rest.left;
    }

-- one more parameter that is the argument's place itself
abbrev pub with_target : Found → List Item → Arranged → Arranged
with_target f items rest =
    record rest { locals = place_found f ∷ rest.locals; found = f ∷ rest.found; cleared = items ++ rest.cleared }

-- how many new places a parameter takes
abbrev pub cells_before : Core → CoreParameter → Mode → ℕ
cells_before core p mode.Value = length (cells_of core p.kind)
cells_before core p mode.Ref = 0
cells_before core p mode.Out = 0

-- one more parameter, by its mode
abbrev pub with_parameter : Core → State.State → ℕ → CoreParameter → Mode → Operand → Arranged → Arranged
with_parameter core s n p mode.Value o rest = with_value core s n p o rest
with_parameter core s n p mode.Ref o rest = with_target (find_target core s o) [] rest
with_parameter core s n p mode.Out o rest = with_target (find_target core s o) (clears (place_found (find_target core s o)) (cells_of core p.kind)) rest

-- each parameter with its argument; new places are numbered from n on
abbrev pub arrange : Core → State.State → ℕ → List CoreParameter → List Operand → Arranged
arrange core s n [] os = nothing_arranged
arrange core s n (p ∷ ps) [] = nothing_arranged
arrange core s n (p ∷ ps) (o ∷ os) = with_parameter core s n p p.mode o (arrange core s (n + cells_before core p p.mode) ps os)

-- The frame

-- the list of places, where each of these is null
abbrev pub emptied_in : List Place → List ℕ → List Place
emptied_in ps [] = ps
emptied_in ps (n ∷ ns) = emptied_in (put_in ps n Null) ns

-- each of these places is null
abbrev pub emptied : State.State → List ℕ → State.State
emptied s ns = record s { places = emptied_in s.places ns }

-- the owning cells of the parameters that are places of their own, the last parameter first
abbrev pub parameters_owned : Core → State.State → List CoreParameter → List ℕ → List ℕ
parameters_owned core s [] ns = []
parameters_owned core s (p ∷ ps) [] = []
parameters_owned core s (p ∷ ps) (n ∷ ns) = parameters_owned core s ps ns ++ owned_by_mode p.mode
  where
    owned_by_mode : Mode → List ℕ
    owned_by_mode mode.Value = owning_from s (range n (length (cells_of core p.kind)))
    owned_by_mode _ = []

-- how a frame begins: its parameters, `this`, result and other locals are places one after another, from n on
pub record Opening : Type 0 where
  pub state : State.State
  pub owned : List ℕ
  pub found : List Found
  pub cleared : List Item

-- The frame for arguments that are arranged: then `this`, the result and the other locals are places one after another.
abbrev pub open_arranged : Core → State.State → Locals → Value → Value → Option ℕ → Arranged → Opening
open_arranged core s locals this target activation a =
    let n : ℕ = length s.places + length a.places in
    let r : ℕ = suc n in
    let l : ℕ = r + length (cells_of core locals.result) in
    let opened : State.State =
    add_places (emptied s a.left) (a.places ++ record { owning = false; holds = this; within = None } ∷ empty_places core None (locals.result ∷ locals.others)) in
    record {
      state = record opened {
        frame = record {
          this = n;
          target = target;
          locals = a.locals ++ firsts core l locals.others;
          operands = [];
          temporaries = [];
          result = r;
          result_type = locals.result;
          activation = activation;
        };
      };
      owned = parameters_owned core opened locals.parameters a.locals;
      found = a.found;
      cleared = a.cleared;
    }

-- the frame of a call with these operands
abbrev pub open_frame : Core → State.State → Locals → Value → Value → Option ℕ → List Operand → Opening
open_frame core s locals this target activation os =
    open_arranged core s locals this target activation (arrange core s (length s.places) locals.parameters os)

-- The end of a call: the result becomes an owned temporary of the caller, or is given as it is.

-- no value
abbrev pub is_void : Shape → Bool
is_void shape.Void = true
is_void _ = false

-- a struct
abbrev pub is_struct : Shape → Bool
is_struct (shape.Struct n) = true
is_struct _ = false

-- owned cells that are given, and belong to the statement from now on
abbrev pub give_cells : State.State → Operand → List ℕ → State.State
give_cells s o ns = give (record s { frame = record s.frame { temporaries = s.frame.temporaries ++ ns } }) o

-- the result is given to the caller, who owns it where it is owned
abbrev pub give_result : Core → State.State → VType → ℕ → State.State
give_result core s kind n =
    if is_void kind.shape then s
    else (if is_struct kind.shape then give_cells s (OwnedCells n (length (cells_of core kind))) (owning_from s (range n (length (cells_of core kind))))
    else (if is_owning kind then give_cells s (Owned n) (n ∷ []) else give s (Given (held s n))))

-- the caller goes on
abbrev pub return_to : Core → State.State → Frame → State.State
return_to core s caller = give_result core (record s { frame = caller }) s.frame.result_type s.frame.result
