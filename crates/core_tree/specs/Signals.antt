-- Signals: emissions, handlers, and the notification of properties.
use Rattle.std.specs.Prelude.{ℕ, suc, ◌==◌, ◌&&◌, nat_le, nat_lt, Bool, true, false, not, if◌then◌else◌, ℤ, pos, List, [], ◌∷◌, ◌++◌, length, reverse, Option, Some, None, slice_get}
use Rattle.vg_base.specs.declared.event.VEnd.TheVariants.{Dead}
use Rattle.vala_types.specs.declared.types.VType.{VType}
use Rattle.vala_types.specs.declared.owners.Change.TheVariants.{CopyStruct}
use Rattle.core_tree.specs.declared.program.Core.{Core}
use Rattle.core_tree.specs.declared.types.CoreSignal.{CoreSignal}
use Rattle.core_tree.specs.declared.types.CoreProperty.{CoreProperty}
use Rattle.core_tree.specs.declared.values.Callee.{Callee}
use Rattle.core_tree.specs.declared.values.Callee.TheVariants as callee
use Rattle.core_tree.specs.State
use Rattle.core_tree.specs.State.{Value, Null, Number, Thing, Property, Delegate, Code, Method, Place, Operand, Given, Owned, Handler, Emission, Phase, Before, Class, After, Item, Push, ChangeTop, Emit, CallHandler, CallClassHandler, GiveUp}
use Rattle.core_tree.specs.Arithmetic.{bytes_equal}
use Rattle.core_tree.specs.Places.{Out, Found, quiet, stop, stuck, next, held, is_owning_place, uses, is_gone, cannot_be_owned, unless, value_of, give_number, give_up, ownable}
use Rattle.core_tree.specs.Calls.{tested, used, is_struct}
use Rattle.core_tree.specs.Invoke.{call_delegate, call_slot, class_of, member_in}
use Rattle.core_tree.specs.Storing.{same_reference, left_empty}

-- Emission

-- the types of a signal's parameters
abbrev pub signal_types : Option CoreSignal → List VType
signal_types None = []
signal_types (Some signal) = signal.parameters

-- the arguments of a handler: a struct is copied for each
abbrev pub argument_items : List VType → List Value → List Item
argument_items [] vs = []
argument_items (kind ∷ kinds) [] = []
argument_items (kind ∷ kinds) (v ∷ vs) =
    Push (Given v) ∷ (if is_struct kind.shape then ChangeTop CopyStruct kind ∷ [] else []) ++ argument_items kinds vs

-- an emission owns its instance, from the place that it makes on
abbrev pub open_emission : State.State → Value → ℕ → Option (List ℕ) → List Value → State.State
open_emission s v signal detail vs =
    next (Emit (record { instance = length s.places; signal = signal; detail = detail; arguments = vs; limit = s.last_handler; last = 0 }) Before ∷ []) (
    record s { places = s.places ++ record { owning = true; holds = v; within = None } ∷ [] }
    )

-- a signal is emitted: null, then a dead use, also where the instance is ending
abbrev pub emit : State.State → ℕ → Value → List Value → Out
emit s signal v vs = unless (uses s (v ∷ [])) s (if cannot_be_owned s v then stop s Dead else quiet (open_emission s v signal None vs))

-- connected without a detail, or with this one
abbrev pub same_detail : Option (List ℕ) → Option (List ℕ) → Bool
same_detail None detail = true
same_detail (Some name) None = false
same_detail (Some name) (Some detail) = bytes_equal name detail

-- the value is this thing
abbrev pub is_serial : ℕ → Value → Bool
is_serial t (Thing u) = t == u
is_serial t v = false

-- a handler of this phase
abbrev pub in_phase : Phase → Bool → Bool
in_phase Before is_after = not is_after
in_phase Class is_after = false
in_phase After is_after = is_after

-- a handler of the emission's object and signal, connected without a detail or with its own before it began, that did not run yet
abbrev pub is_next : State.State → Emission → Phase → Handler → Bool
is_next s x phase h =
    is_serial h.object (held s x.instance) && h.signal == x.signal && same_detail h.detail x.detail && nat_le h.id x.limit && nat_lt x.last h.id && in_phase phase h.is_after

-- the first of the handlers that is next
abbrev pub find_handler : State.State → Emission → Phase → List Handler → Option Handler
find_handler s x phase [] = None
find_handler s x phase (h ∷ hs) = if is_next s x phase h then Some h else find_handler s x phase hs

-- the sender, where the handler takes it
abbrev pub sender_item : Bool → Value → List Item
sender_item true v = Push (Given v) ∷ []
sender_item false v = []

-- the arguments, where the handler takes them
abbrev pub taken_arguments : Bool → List Item → List Item
taken_arguments true items = items
taken_arguments false items = []

-- A handler runs. While it does, the emission owns its target, in a place that holds the delegate too.
abbrev pub run_handler : State.State → Emission → Phase → List Item → Handler → State.State
run_handler s x phase arguments h =
    next (
    sender_item h.takes_sender (held s x.instance) ++ taken_arguments h.takes_arguments arguments
    ++ CallHandler (length s.places) s.frame.operands ∷ GiveUp (length s.places) ∷ Emit (record x { last = h.id }) phase ∷ []
    ) (
    record s {
      places = s.places ++ record { owning = true; holds = ownable s (held s h.place); within = None } ∷ [];
      frame = record s.frame { operands = [] };
    }
    )

-- the target of a delegate
abbrev pub target_of : Value → Value
target_of (Delegate code target) = target
target_of v = Null

-- the class handler is a method of the instance
abbrev pub run_class : State.State → Emission → List Item → Option ℕ → Out
run_class s x arguments None = quiet (next (Emit (record x { last = 0 }) After ∷ []) s)
run_class s x arguments (Some slot) =
    quiet (next (arguments ++ CallClassHandler (held s x.instance) slot s.frame.operands ∷ Emit (record x { last = 0 }) After ∷ []) (record s { frame = record s.frame { operands = [] } }))

-- the slot of a signal's class handler, where it is virtual
abbrev pub class_slot : Option CoreSignal → Option ℕ
class_slot None = None
class_slot (Some signal) = signal.class_handler

-- behind the last handler of a phase
abbrev pub next_phase : State.State → Emission → Phase → List Item → Option CoreSignal → Out
next_phase s x Before arguments signal = quiet (next (Emit x Class ∷ []) s)
next_phase s x Class arguments signal = run_class s x arguments (class_slot signal)
next_phase s x After arguments signal = quiet (next (GiveUp x.instance ∷ []) s)

-- the next handler runs, or the next phase comes
abbrev pub next_handler : State.State → Emission → Phase → List Item → Option CoreSignal → Option Handler → Out
next_handler s x phase arguments signal None = next_phase s x phase arguments signal
next_handler s x phase arguments signal (Some h) =
    if cannot_be_owned s (target_of (held s h.place)) then stop s Dead else quiet (run_handler s x phase arguments h)

-- one step of an emission: the next handler
abbrev pub emit_next : Core → State.State → Emission → Phase → Out
emit_next core s x phase =
    next_handler s x phase (argument_items (signal_types (slice_get core.signals x.signal)) x.arguments) (slice_get core.signals x.signal) (find_handler s x phase s.handlers)

-- a handler is called with the operands that were given for it
abbrev pub call_handler : Core → State.State → ℕ → List Operand → Out
call_handler core s n around = call_delegate core (record s { frame = record s.frame { operands = around } }) (held s n) (reverse s.frame.operands)

-- the class handler is called on the instance
abbrev pub call_class_handler : Core → State.State → Value → ℕ → List Operand → Out
call_class_handler core s v slot around = call_slot core (record s { frame = record s.frame { operands = around } }) v (reverse s.frame.operands) slot

-- Notification: the signal 0 is `notify` of `Object`, and its detail is the property's name.

-- the emission of `notify` with the property's name as its detail and argument
abbrev pub notify_by : State.State → Value → Option CoreProperty → Out
notify_by s v None = stuck s
notify_by s v (Some p) = quiet (open_emission s v 0 (Some p.name) (Property p.name ∷ []))

-- of an object that is gone it is a dead use, and of one that is ending it does nothing
abbrev pub notify : Core → State.State → Value → ℕ → Out
notify core s v n =
    if is_gone s v then stop s Dead else (if cannot_be_owned s v then quiet s else notify_by s v (slice_get core.properties n))

-- Connecting

-- the delegate of a handler, and what has to be tested of it
abbrev pub handler_code : Core → State.State → Callee → List Operand → Option Operand
handler_code core s (callee.Static m) os = Some (Given (Delegate (Method m) Null))
handler_code core s (callee.Method m) (o ∷ os) = Some (Given (Delegate (Method m) (value_of s o)))
handler_code core s (callee.Virtual slot) (o ∷ os) = virtual_code (member_in (class_of core s (value_of s o)) slot)
  where
    virtual_code : Option ℕ → Option Operand
    virtual_code None = Some (Given (Delegate (Method slot) (value_of s o)))
    virtual_code (Some m) = Some (Given (Delegate (Method m) (value_of s o)))
handler_code core s (callee.Delegate kind) (o ∷ os) = Some o
handler_code core s to os = None

-- the target of a method is used, and that of a lambda where it is bound to one
abbrev pub target_tests : State.State → Callee → Value → List Found
target_tests s (callee.Static m) v = []
target_tests s (callee.Delegate kind) (Delegate code Null) = []
target_tests s to v = used s (target_of v) ∷ []

-- the handler's place owns its target where the delegate stood in an owned temporary
abbrev pub handler_place : State.State → Operand → Place
handler_place s (Owned n) = record { owning = true; holds = ownable s (held s n); within = None }
handler_place s o = record { owning = false; holds = value_of s o; within = None }

-- the serial of an object
abbrev pub serial_of : Value → ℕ
serial_of (Thing t) = t
serial_of v = 0

-- a handler with the next id, which is given
abbrev pub add_handler : State.State → ℕ → Option (List ℕ) → Bool → Bool → Bool → Value → Operand → Out
add_handler s signal detail is_after takes_sender takes_arguments v o =
    quiet (give_number (
    record (left_empty s o) {
      places = (left_empty s o).places ++ handler_place s o ∷ [];
      handlers =
          s.handlers
          ++ record {
            id = suc s.last_handler;
            object = serial_of v;
            signal = signal;
            detail = detail;
            is_after = is_after;
            takes_sender = takes_sender;
            takes_arguments = takes_arguments;
            place = length s.places;
          } ∷ [];
      last_handler = suc s.last_handler;
    }
    ) (pos (suc s.last_handler)))

-- the receiver and the target are tested in one step, and then the handler is there
abbrev pub connect_to : State.State → ℕ → Option (List ℕ) → Bool → Bool → Bool → Callee → Value → Option Operand → Out
connect_to s signal detail is_after takes_sender takes_arguments to v None = stuck s
connect_to s signal detail is_after takes_sender takes_arguments to v (Some o) =
    unless (tested (used s v ∷ target_tests s to (value_of s o))) s (add_handler s signal detail is_after takes_sender takes_arguments v o)

-- a handler is connected
abbrev pub connect : Core → State.State → ℕ → Option (List ℕ) → Bool → Bool → Bool → Callee → List Operand → Out
connect core s signal detail is_after takes_sender takes_arguments to [] = stuck s
connect core s signal detail is_after takes_sender takes_arguments to (o ∷ os) =
    connect_to s signal detail is_after takes_sender takes_arguments to (value_of s o) (handler_code core s to os)

-- Disconnecting

-- a handler of this object and signal, with this delegate
abbrev pub is_connected : State.State → ℕ → ℕ → Value → Handler → Bool
is_connected s t signal v h = h.object == t && h.signal == signal && same_reference (held s h.place) v

-- the handlers but for those
abbrev pub without_connected : State.State → ℕ → ℕ → Value → List Handler → List Handler
without_connected s t signal v [] = []
without_connected s t signal v (h ∷ hs) =
    if is_connected s t signal v h then without_connected s t signal v hs else h ∷ without_connected s t signal v hs

-- the receiver and the target are tested in one step, and then the handlers go
abbrev pub disconnect_from : State.State → ℕ → Callee → Value → Option Operand → Out
disconnect_from s signal to v None = stuck s
disconnect_from s signal to v (Some o) =
    unless (tested (used s v ∷ target_tests s to (value_of s o))) s (quiet (record s { handlers = without_connected s (serial_of v) signal (value_of s o) s.handlers }))

-- all handlers of that object, signal, method and target go, whatever their detail; they own nothing
abbrev pub disconnect : Core → State.State → ℕ → Callee → List Operand → Out
disconnect core s signal to [] = stuck s
disconnect core s signal to (o ∷ os) = disconnect_from s signal to (value_of s o) (handler_code core s to os)

-- a handler of this object with this id
abbrev pub has_id : ℕ → ℤ → Handler → Bool
has_id t (pos n) h = h.object == t && h.id == n
has_id t z h = false

-- the handler of an object with an id
abbrev pub handler_with_id : ℕ → ℤ → List Handler → Option Handler
handler_with_id t z [] = None
handler_with_id t z (h ∷ hs) = if has_id t z h then Some h else handler_with_id t z hs

-- the handlers but for the one with an id
abbrev pub without_id : ℕ → List Handler → List Handler
without_id n [] = []
without_id n (h ∷ hs) = if h.id == n then hs else h ∷ without_id n hs

-- the handler goes, and its place is given up where it owns
abbrev pub remove_handler : State.State → Option Handler → Out
remove_handler s None = quiet s
remove_handler s (Some h) =
    if is_owning_place s h.place then quiet (give_up (record s { handlers = without_id h.id s.handlers }) h.place) else quiet (record s { handlers = without_id h.id s.handlers })

-- the handler with the id goes, if the object has one; its place is given up
abbrev pub disconnect_id : State.State → Value → ℤ → Out
disconnect_id s v z = unless (uses s (v ∷ [])) s (remove_handler s (handler_with_id (serial_of v) z s.handlers))
