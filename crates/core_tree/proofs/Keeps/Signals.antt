-- What signals keep.
use Rattle.std.proofs.Common.{refl}
use Rattle.std.specs.Prelude.{ℕ, Bool, true, false, if◌then◌else◌, ℤ, List, [], ◌∷◌, ◌++◌, Option, Some, None}
use Rattle.vala_types.specs.declared.types.VType.{VType}
use Rattle.vala_types.specs.declared.owners.Change.TheVariants.{CopyStruct}
use Rattle.core_tree.specs.declared.program.Core.{Core}
use Rattle.core_tree.specs.declared.types.CoreSignal.{CoreSignal}
use Rattle.core_tree.specs.declared.types.CoreProperty.{CoreProperty}
use Rattle.core_tree.specs.declared.values.Callee.{Callee}
use Rattle.core_tree.specs.State
use Rattle.core_tree.specs.State.{Value, Operand, Given, Owned, Handler, Emission, Phase, Before, Class, After, Item, Push, ChangeTop}
use Rattle.core_tree.specs.Places.{quiet, is_owning_place, cannot_be_owned, value_of, give_up}
use Rattle.core_tree.specs.Calls.{tested, used, is_struct}
use Rattle.core_tree.proofs.Kept.{calm_same, keeps_if, keeps_ids, ids_of, source_ids_of}
use Rattle.core_tree.proofs.Keeps.Endings.{keeps-give_up}
use Rattle.core_tree.proofs.Counts.{ids_same, ids_left}
use Rattle.core_tree.proofs.Keeps.Ids.{left-without_connected, left-without_id, ids-more_handler}
use Rattle.core_tree.proofs.Owned.{Carries, carries_same, carries_more, takes_nil, takes_item}
use Rattle.core_tree.proofs.Moved.{fills_unowning, carries_carried}
use Rattle.std.proofs.Common.{◌≡◌, false}
use Rattle.core_tree.specs.Storing.{left_empty_in}
use Rattle.core_tree.proofs.Counts.{Left}
use Rattle.core_tree.proofs.Keeps.Places.{keeps-unless}
use Rattle.core_tree.proofs.Kept.{plain_item, plain_append, plain_if}
use Rattle.core_tree.specs.Signals.{argument_items, emit, sender_item, taken_arguments, run_class, next_phase, next_handler, emit_next, call_handler, call_class_handler, notify_by, notify, target_tests, handler_place, serial_of, add_handler, connect_to, connect, without_connected, disconnect_from, disconnect, without_id, remove_handler, disconnect_id}
use Rattle.core_tree.proofs.Kept.{Keeps, Plain}
use Rattle.core_tree.proofs.Keeps.{steps, plain_rules}
use Rattle.core_tree.proofs.Keeps.Invoke.{keeps-call_delegate, keeps-call_slot}
use Rattle.core_tree.proofs.Keeps.Places.{keeps-unless}

pub plain-argument_items : (kinds : List VType) (vs : List Value) → Plain (argument_items kinds vs)
plain-argument_items [] vs = search plain_rules
plain-argument_items (kind ∷ kinds) [] = search plain_rules
plain-argument_items (kind ∷ kinds) (v ∷ vs) =
    plain_item (Push (Given v)) _ (λ t. refl) (
    plain_append (if is_struct kind.shape then ChangeTop CopyStruct kind ∷ [] else []) (argument_items kinds vs)
    (plain_if (is_struct kind.shape) (ChangeTop CopyStruct kind ∷ []) [] (search plain_rules) (search plain_rules)) (plain-argument_items kinds vs)
    )

pub plain-sender_item : (x0 : Bool) (v : Value) → Plain (sender_item x0 v)
plain-sender_item true v = search plain_rules depth 14
plain-sender_item false v = search plain_rules depth 14

pub plain-taken_arguments : (x0 : Bool) (items : List Item) → Plain items → Plain (taken_arguments x0 items)
plain-taken_arguments true items h1 = search plain_rules depth 14
plain-taken_arguments false items h1 = search plain_rules depth 14

ruleset rules_here = (steps, plain-argument_items, plain-sender_item, plain-taken_arguments)

-- the place of a handler
carries-handler : (s : State.State) (o : Operand) → Carries None s.things s.places (left_empty_in s.places o ++ handler_place s o ∷ [])
carries-handler s (Owned n) = carries_carried s n
carries-handler s o = carries_more None s.things s.places s.places (handler_place s o ∷ []) (carries_same s.things s.places) (takes_item s.things (handler_place s o) [] (fills_unowning s.things (handler_place s o) refl) (takes_nil s.things))

-- handlers go
keeps_left : {begun : ℕ} → (s : State.State) (hs : List Handler) → Left (ids_of hs) (ids_of s.handlers) → Keeps begun [] s (quiet (record s { handlers = hs }))
keeps_left s hs l = keeps_ids s.things s.places s.work s.parked s.handlers s.last_handler s.sources s.last_source (record s { handlers = hs }) refl (carries_same s.things s.places) (calm_same s.work) (ids_left s.last_handler (ids_of s.handlers) (ids_of hs) l) (ids_same s.last_source (source_ids_of s.sources))

pub keeps-emit : (s : State.State) (signal : ℕ) (v : Value) (vs : List Value) → Keeps 1 [] s (emit s signal v vs)
keeps-emit s signal v vs = search (rules_here, keeps-unless) depth 14

pub keeps-run_class : (s : State.State) (x : Emission) (arguments : List Item) (x3 : Option ℕ) → Plain arguments → Keeps 1 [] s (run_class s x arguments x3)
keeps-run_class s x arguments None h2 = search rules_here depth 14
keeps-run_class s x arguments (Some slot) h2 = search rules_here depth 14

pub keeps-next_phase : (s : State.State) (x : Emission) (x2 : Phase) (arguments : List Item) (signal : Option CoreSignal) → Plain arguments → Keeps 1 [] s (next_phase s x x2 arguments signal)
keeps-next_phase s x Before arguments signal h3 = search rules_here depth 14
keeps-next_phase s x Class arguments signal h3 = search (rules_here, keeps-run_class) depth 14
keeps-next_phase s x After arguments signal h3 = search rules_here depth 14

pub keeps-next_handler : (s : State.State) (x : Emission) (phase : Phase) (arguments : List Item) (signal : Option CoreSignal) (x5 : Option Handler) → Plain arguments → Keeps 1 [] s (next_handler s x phase arguments signal x5)
keeps-next_handler s x phase arguments signal None h3 = search (rules_here, keeps-next_phase) depth 14
keeps-next_handler s x phase arguments signal (Some h) h3 = search rules_here depth 14

pub keeps-emit_next : (core : Core) (s : State.State) (x : Emission) (phase : Phase) → Keeps 1 [] s (emit_next core s x phase)
keeps-emit_next core s x phase = search (rules_here, keeps-next_handler) depth 14

pub keeps-call_handler : (core : Core) (s : State.State) (n : ℕ) (around : List Operand) → Keeps 1 [] s (call_handler core s n around)
keeps-call_handler core s n around = search (rules_here, keeps-call_delegate) depth 14

pub keeps-call_class_handler : (core : Core) (s : State.State) (v : Value) (slot : ℕ) (around : List Operand) → Keeps 1 [] s (call_class_handler core s v slot around)
keeps-call_class_handler core s v slot around = search (rules_here, keeps-call_slot) depth 14

keeps-notify_by : (s : State.State) (v : Value) (p : Option CoreProperty) → cannot_be_owned s v ≡ false → Keeps 1 [] s (notify_by s v p)
keeps-notify_by s v None e = search rules_here depth 14
keeps-notify_by s v (Some p) e = search rules_here depth 14

pub keeps-notify : (core : Core) (s : State.State) (v : Value) (n : ℕ) → Keeps 1 [] s (notify core s v n)
keeps-notify core s v n = search (rules_here, keeps-notify_by) depth 14

pub keeps-add_handler : (s : State.State) (signal : ℕ) (detail : Option (List ℕ)) (is_after takes_sender takes_arguments : Bool) (v : Value) (o : Operand) → Keeps 1 [] s (add_handler s signal detail is_after takes_sender takes_arguments v o)
keeps-add_handler s signal detail is_after takes_sender takes_arguments v o = search (keeps_ids, calm_same, ids-more_handler, ids_same, (carries-handler s o)) depth 9

pub keeps-connect_to : (s : State.State) (signal : ℕ) (detail : Option (List ℕ)) (is_after : Bool) (takes_sender : Bool) (takes_arguments : Bool) (to : Callee) (v : Value) (x8 : Option Operand) → Keeps 1 [] s (connect_to s signal detail is_after takes_sender takes_arguments to v x8)
keeps-connect_to s signal detail is_after takes_sender takes_arguments to v None = search rules_here depth 14
keeps-connect_to s signal detail is_after takes_sender takes_arguments to v (Some o) = search (rules_here, keeps-unless, keeps-add_handler) depth 14

pub keeps-connect : (core : Core) (s : State.State) (signal : ℕ) (detail : Option (List ℕ)) (is_after : Bool) (takes_sender : Bool) (takes_arguments : Bool) (to : Callee) (x8 : List Operand) → Keeps 1 [] s (connect core s signal detail is_after takes_sender takes_arguments to x8)
keeps-connect core s signal detail is_after takes_sender takes_arguments to [] = search rules_here depth 14
keeps-connect core s signal detail is_after takes_sender takes_arguments to (o ∷ os) = search (rules_here, keeps-connect_to) depth 14

pub keeps-disconnect_from : (s : State.State) (signal : ℕ) (to : Callee) (v : Value) (o : Option Operand) → Keeps 1 [] s (disconnect_from s signal to v o)
keeps-disconnect_from s signal to v None = search rules_here depth 14
keeps-disconnect_from s signal to v (Some o) =
    keeps-unless (tested (used s v ∷ target_tests s to (value_of s o))) s (quiet (record s { handlers = without_connected s (serial_of v) signal (value_of s o) s.handlers }))
    (keeps_left s (without_connected s (serial_of v) signal (value_of s o) s.handlers) (left-without_connected s (serial_of v) signal (value_of s o) s.handlers))

pub keeps-disconnect : (core : Core) (s : State.State) (signal : ℕ) (to : Callee) (x4 : List Operand) → Keeps 1 [] s (disconnect core s signal to x4)
keeps-disconnect core s signal to [] = search rules_here depth 14
keeps-disconnect core s signal to (o ∷ os) = search (rules_here, keeps-disconnect_from) depth 14

keeps-remove_handler : (s : State.State) (h : Option Handler) → Keeps 1 [] s (remove_handler s h)
keeps-remove_handler s None = search rules_here depth 14
keeps-remove_handler s (Some h) =
    let u : State.State = record s { handlers = without_id h.id s.handlers } in
    keeps_if s.things s.places s.work s.parked s.handlers s.last_handler s.sources s.last_source (is_owning_place s h.place) (quiet (give_up u h.place)) (quiet u)
    (keeps-give_up s u h.place (keeps_left s (without_id h.id s.handlers) (left-without_id h.id s.handlers))) (keeps_left s (without_id h.id s.handlers) (left-without_id h.id s.handlers))

pub keeps-disconnect_id : (s : State.State) (v : Value) (z : ℤ) → Keeps 1 [] s (disconnect_id s v z)
keeps-disconnect_id s v z = search (rules_here, keeps-unless, keeps-remove_handler) depth 14
