-- Reading places, storing into them, and the accessors of properties.
use Rattle.std.specs.Prelude.{ℕ, suc, ◌==◌, Bool, true, false, not, if◌then◌else◌, List, [], ◌∷◌, length, map, Option, Some, None, slice_get}
use Rattle.vala_types.specs.declared.types.Shape.{Shape}
use Rattle.vala_types.specs.declared.types.Shape.TheVariants as shape
use Rattle.vala_types.specs.declared.types.VType.{VType}
use Rattle.vala_types.specs.declared.owners.Change.{Change}
use Rattle.vala_types.specs.declared.owners.Change.TheVariants as change
use Rattle.vala_types.specs.Rows.{into_owner}
use Rattle.core_tree.specs.declared.program.Core.{Core}
use Rattle.core_tree.specs.declared.types.Accessor.{Accessor}
use Rattle.core_tree.specs.declared.types.Accessor.TheVariants as access
use Rattle.core_tree.specs.declared.types.CoreProperty.{CoreProperty}
use Rattle.core_tree.specs.State
use Rattle.core_tree.specs.State.{Value, Null, Number, Literal, Arguments, Thing, Message, Property, Cells, Delegate, Place, Code, Method, Body, Resume, Operand, Given, Owned, OwnedCells, At, CellOf, ElementOf, PropertyOf, VariableOf, Item, Push, Store, ChangeTop, GiveUp, EndStatement, Notify, Content, TextOf, ErrorOf}
use Rattle.core_tree.specs.Arithmetic.{int_equal, bytes_equal, is_zero}
use Rattle.core_tree.specs.Places.{Out, quiet, stuck, next, cells_of, zero_of, add_places, give_owned, range, held, held_in, owning_in, put, put_in, ownable, owning_from, is_owning_place, release, reads, unless, value_of, give, Found}
use Rattle.core_tree.specs.Calls.{find_target, tested, used, is_struct, give_cells}
use Rattle.core_tree.specs.Changes.{bytes_of}
use Rattle.core_tree.specs.Invoke.{with_found, call_method, class_of, member_in}

-- Identity

-- two delegates do the same: the same method, or the lambda at the same place of the text
abbrev pub same_code : Code → Code → Bool
same_code (Method a) (Method b) = a == b
same_code Resume Resume = true
same_code (Body l body at) (Body m other to) = if at.file == to.file then (if at.start == to.start then at.«end» == to.«end» else false) else false
same_code _ _ = false

-- the same thing, null twice, or what notifications of one property hand on
abbrev pub same_target : Value → Value → Bool
same_target Null Null = true
same_target (Thing t) (Thing u) = t == u
same_target (Arguments n c) (Arguments m d) = n == m
same_target (Property name) (Property other) = bytes_equal name other
same_target _ _ = false

-- references are the same thing; delegates have the same code and target
abbrev pub same_reference : Value → Value → Bool
same_reference (Delegate c v) (Delegate d w) = if same_code c d then same_target v w else false
same_reference v w = same_target v w

-- Reading

-- a value as it stands in a place of a type
abbrev pub stands : State.State → VType → ℕ → Value
stands s kind n = if is_struct kind.shape then Cells n else held s n

-- the value in a place is given
abbrev pub read : State.State → VType → Found → Out
read s kind f = with_found s f (λ n. quiet (give s (Given (stands s kind n))))

-- the change of a value that is not fresh, into a place of a type
abbrev pub change_into : VType → Change
change_into kind = if kind.owned then into_owner kind.shape false else change.Keep

-- an owned getter gives a copy
abbrev pub copied_if : Bool → VType → Out → Out
copied_if true kind o = (next (ChangeTop (change_into (record kind { owned = true })) kind ∷ []) o.0, o.1)
copied_if false kind o = o

-- the property itself, or where it has a slot the one that the receiver's class has there
abbrev pub property_reached : Core → State.State → Value → ℕ → Option ℕ → Option ℕ
property_reached core s v n None = Some n
property_reached core s v n (Some slot) = member_in (class_of core s v) slot

-- the property that was reached
abbrev pub property_at : Core → Option ℕ → Option CoreProperty
property_at core None = None
property_at core (Some n) = slice_get core.properties n

-- the receiver is tested where there is no property to be reached
abbrev pub no_property : State.State → Value → Out
no_property s v = unless (tested (used s v ∷ [])) s (stuck s)

-- the getter of a property
abbrev pub get_by : Core → State.State → CoreProperty → Value → Accessor → Out
get_by core s p v (access.Automatic cell) = copied_if p.is_get_owned p.kind (read s p.kind (find_target core s (CellOf v cell)))
get_by core s p v (access.Written m) = call_method core s (used s v ∷ []) v [] m
get_by core s p v access.Missing = no_property s v

-- the same, where the property is there
abbrev pub get_in : Core → State.State → Value → Option CoreProperty → Out
get_in core s v None = no_property s v
get_in core s v (Some p) = get_by core s p v p.getter

-- the same of the property that the receiver's class has
abbrev pub get_reached : Core → State.State → Value → ℕ → Option CoreProperty → Out
get_reached core s v n None = no_property s v
get_reached core s v n (Some p) = get_in core s v (property_at core (property_reached core s v n p.get_slot))

-- a property is read
abbrev pub get_property : Core → State.State → Value → ℕ → Out
get_property core s v n = get_reached core s v n (slice_get core.properties n)

-- a target is read: a place of a type, or a property
abbrev pub read_target : Core → State.State → VType → Operand → Out
read_target core s kind (PropertyOf o n) = get_property core s (value_of s o) n
read_target core s kind target = read s kind (find_target core s target)

-- Storing

-- both own, or neither does
abbrev pub same_owning : Bool → Bool → Bool
same_owning true b = b
same_owning false b = not b

-- The list of places, where two change what they hold. Both own, or neither does.
abbrev pub exchange_in : List Place → ℕ → ℕ → List Place
exchange_in ps n m =
    if same_owning (owning_in (slice_get ps n)) (owning_in (slice_get ps m)) then put_in (put_in ps n (held_in (slice_get ps m))) m (held_in (slice_get ps n)) else ps

-- the list of places, where the cells of two change what they hold
abbrev pub exchanged_in : List Place → List ℕ → List ℕ → List Place
exchanged_in ps [] ms = ps
exchanged_in ps (n ∷ ns) [] = ps
exchanged_in ps (n ∷ ns) (m ∷ ms) = exchanged_in (exchange_in ps n m) ns ms

-- the cells of two places change what they hold
abbrev pub exchanged : State.State → List ℕ → List ℕ → State.State
exchanged s ns ms = record s { places = exchanged_in s.places ns ms }

-- the list of places, where the temporary that a value leaves is null
abbrev pub left_empty_in : List Place → Operand → List Place
left_empty_in ps (Owned m) = put_in ps m Null
left_empty_in ps o = ps

-- the temporary that a value leaves is null
abbrev pub left_empty : State.State → Operand → State.State
left_empty s o = record s { places = left_empty_in s.places o }

-- A place gets a value, and what it held is given up. The cells of a struct all get theirs, and then the old ones go in order.
abbrev pub store_at : State.State → ℕ → Operand → Out
store_at s n (OwnedCells first count) =
    quiet (next (map GiveUp (owning_from s (range first count))) (exchanged s (range n count) (range first count)))
store_at s n o =
    if is_owning_place s n then quiet (release (put (left_empty s o) n (ownable s (value_of s o))) (held s n)) else quiet (put s n (value_of s o))

-- two texts are the same by their bytes, or null twice
abbrev pub same_bytes : State.State → Value → Value → Bool
same_bytes s Null Null = true
same_bytes s Null _ = false
same_bytes s v Null = false
same_bytes s v w = bytes_equal (bytes_of s v) (bytes_of s w)

-- two numbers are the same
abbrev pub same_numbers : Value → Value → Bool
same_numbers (Number a) (Number b) = int_equal a b
same_numbers _ _ = false

-- two values of a shape are the same: numbers and texts by value, all others by identity
abbrev pub same_value : State.State → Shape → Value → Value → Bool
same_value s shape.Text v w = same_bytes s v w
same_value s shape.Bool v w = same_numbers v w
same_value s (shape.Int k) v w = same_numbers v w
same_value s (shape.Enum n) v w = same_numbers v w
same_value s _ v w = same_reference v w

-- which of the values a comparison reads
abbrev pub texts_read : Shape → List Value → List Value
texts_read shape.Text vs = vs
texts_read _ vs = []

-- An automatic setter compares, and where the values differ stores a copy of the new one and notifies.
abbrev pub set_automatic : State.State → CoreProperty → ℕ → Value → ℕ → Value → Out
set_automatic s p number v cell new =
    if same_value s p.kind.shape new (held s cell) then quiet s
    else quiet (next (Push (At cell) ∷ Push (Given new) ∷ ChangeTop (change_into p.kind) p.kind ∷ Store ∷ Notify v number ∷ []) s)

-- the same, where the cell is found
abbrev pub set_found : State.State → CoreProperty → ℕ → Value → Value → Found → Out
set_found s p number v new f =
    with_found s f (λ cell. unless (reads s (texts_read p.kind.shape (new ∷ held s cell ∷ []))) s (set_automatic s p number v cell new))

-- The setter of a property. Behind the body of a written one comes the notification.
abbrev pub set_by : Core → State.State → CoreProperty → ℕ → Value → Operand → Accessor → Out
set_by core s p number v new (access.Automatic cell) = set_found s p number v (value_of s new) (find_target core s (CellOf v cell))
set_by core s p number v new (access.Written m) = call_method core (next (Notify v number ∷ []) s) (used s v ∷ []) v (new ∷ []) m
set_by core s p number v new access.Missing = no_property s v

-- the same, where the property is there
abbrev pub set_in : Core → State.State → ℕ → Value → Operand → Option CoreProperty → Out
set_in core s number v new None = no_property s v
set_in core s number v new (Some p) = set_by core s p number v new p.setter

-- the same of the property that the receiver's class has
abbrev pub set_reached : Core → State.State → Value → ℕ → Operand → Option CoreProperty → Out
set_reached core s v n new None = no_property s v
set_reached core s v n new (Some p) = set_in core s n v new (property_at core (property_reached core s v n p.set_slot))

-- a property is set
abbrev pub set_property : Core → State.State → Value → ℕ → Operand → Out
set_property core s v n new = set_reached core s v n new (slice_get core.properties n)

-- a value goes into a target
abbrev pub store : Core → State.State → Operand → Operand → Out
store core s (PropertyOf o n) new = set_property core s (value_of s o) n new
store core s target o = with_found s (find_target core s target) (λ n. store_at s n o)

-- `(owned) x` of a struct: all its cells move, and are zero or null then.
abbrev pub cells_taken : State.State → List VType → ℕ → List Place
cells_taken s [] n = []
cells_taken s (kind ∷ kinds) n = record { owning = is_owning_place s n; holds = held s n; within = None } ∷ cells_taken s kinds (suc n)

-- the list of places, where these cells are zero or null
abbrev pub zeroed_in : List Place → List VType → ℕ → List Place
zeroed_in ps [] n = ps
zeroed_in ps (kind ∷ kinds) n = zeroed_in (put_in ps n (zero_of kind.shape)) kinds (suc n)

-- these cells are zero or null
abbrev pub zeroed : State.State → List VType → ℕ → State.State
zeroed s kinds n = record s { places = zeroed_in s.places kinds n }

-- the cells of a struct move into owned temporaries
abbrev pub take_struct : State.State → List VType → ℕ → State.State
take_struct s kinds n =
    let taken : State.State = add_places (zeroed s kinds n) (cells_taken s kinds n) in
    give_cells taken (OwnedCells (length s.places) (length kinds)) (owning_from taken (range (length s.places) (length kinds)))

-- Moves what a place holds into an owned temporary. The place is null.
abbrev pub take_at : Core → State.State → VType → ℕ → State.State
take_at core s kind n = if is_struct kind.shape then take_struct s (cells_of core kind) n else give_owned (put s n Null) (ownable s (held s n))

-- moves what a target holds into an owned temporary
abbrev pub take_from : Core → State.State → VType → Operand → Out
take_from core s kind target = with_found s (find_target core s target) (λ n. quiet (take_at core s kind n))

-- a `bool` that is false
abbrev pub is_false : Value → Bool
is_false (Number z) = is_zero z
is_false v = true
