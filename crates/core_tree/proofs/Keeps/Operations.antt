-- What operations keep.
use Rattle.std.proofs.Common.{refl, ◌∙◌}
use Rattle.std.specs.Prelude.{ℕ, suc, ◌^◌, nat_le, Bool, true, false, if◌then◌else◌, ℤ, pos, negsuc, List, [], ◌∷◌, ◌++◌, length, map, flat_map, replicate, Option, Some, None, Result, Ok, Err}
use Rattle.vg_base.specs.declared.event.VEnd.TheVariants.{Trapped}
use Rattle.vg_base.specs.declared.event.TrapKind.{TrapKind}
use Rattle.vg_base.specs.declared.event.TrapKind.TheVariants as trap
use Rattle.vg_base.specs.declared.event.Event.TheVariants.{Print}
use Rattle.vg_base.specs.Headline.{Happens}
use Rattle.vala_types.specs.declared.types.IntKind.{IntKind}
use Rattle.vala_types.specs.declared.types.Item.{Item as ElementType}
use Rattle.vala_types.specs.declared.types.Shape.TheVariants as shape
use Rattle.vala_types.specs.declared.types.VType.{VType}
use Rattle.core_tree.specs.declared.program.Core.{Core}
use Rattle.core_tree.specs.declared.operation.Operation.{Operation}
use Rattle.core_tree.specs.declared.operation.Operation.TheVariants as op
use Rattle.core_tree.specs.declared.values.Arithmetic.{Arithmetic}
use Rattle.core_tree.specs.declared.values.Callee.{Callee}
use Rattle.core_tree.specs.declared.values.Callee.TheVariants as callee
use Rattle.core_tree.specs.declared.values.Comparison.{Comparison}
use Rattle.core_tree.specs.declared.values.Part.{Part}
use Rattle.core_tree.specs.declared.values.Part.TheVariants as part
use Rattle.core_tree.specs.declared.values.TextCall.{TextCall}
use Rattle.core_tree.specs.declared.values.TextCall.TheVariants as text
use Rattle.core_tree.specs.State
use Rattle.core_tree.specs.State.{Value, Number, Arguments, Thing, Property, Place, Operand, Item, Content, ArrayOf, ErrorOf}
use Rattle.core_tree.specs.Texts.{TextResult, Makes, Gives, Traps, Nothing}
use Rattle.core_tree.specs.Places.{Out, stop, stuck, next, cells_of, held, fill, is_owning_place, with_thing, next_serial, made, reads, content_of}
use Rattle.core_tree.specs.Calls.{type_of_item, find_target, Filling, part_at, parts_of, left_by, filled, emptied}
use Rattle.core_tree.specs.Changes.{cells_in}
use Rattle.core_tree.proofs.Kept.{calm_same, keeps_still, keeps_test, keeps_behind, keeps_if, keeps_saying}
use Rattle.core_tree.proofs.Keeps.Endings.{keeps-release}
use Rattle.core_tree.proofs.Owned.{carries_same}
use Rattle.core_tree.proofs.Moved.{fills_method, carries_moved, lands_filled, lands_within, stand_all, stand_append, stand_at, stand_of}
use Rattle.core_tree.proofs.Kept.{keeps_made, more}
use Rattle.core_tree.proofs.Owned.{gains_last, gains_put}
use Rattle.core_tree.proofs.Moved.{owning-more, owning-emptied}
use Rattle.core_tree.specs.Owners.{kind_of}
use Rattle.core_tree.specs.Places.{put}
use Rattle.core_tree.specs.Operations.{on_none, on_one, on_two, on_three, with_number, give_result, arithmetic_of, stream_of, print, give_text_result, read_line, text_function, compare_texts, cast, as_type, new_array, within_thing, list_array, new_struct, element_count, append_at, append, method_value, receiver_value, delegate_to, then_read, assign, store_number, assign_number, increment_by, increment, assign_text, new_error, part_in, part_of, perform, reach}
use Rattle.core_tree.proofs.Kept.{Keeps, Plain}
use Rattle.core_tree.proofs.Keeps.{steps, plain_rules}
use Rattle.core_tree.proofs.Keeps.Async.{keeps-begin, keeps-callback, keeps-end, keeps-yield_call}
use Rattle.core_tree.proofs.Keeps.Changes.{keeps-change, keeps-give_text}
use Rattle.core_tree.proofs.Keeps.Invoke.{keeps-call, keeps-with_found, keeps-with_receiver}
use Rattle.core_tree.proofs.Keeps.Loop.{keeps-loop_call}
use Rattle.core_tree.proofs.Keeps.Objects.{keeps-new_object}
use Rattle.core_tree.proofs.Keeps.Places.{keeps-give_made, keeps-unless}
use Rattle.core_tree.proofs.Keeps.Signals.{keeps-connect, keeps-disconnect, keeps-disconnect_id, keeps-emit}
use Rattle.core_tree.proofs.Keeps.Storing.{keeps-get_property, keeps-read, keeps-take_from}

pub plain-then_read : (x0 : Bool) (kind : VType) (target : Operand) → Plain (then_read x0 kind target)
plain-then_read true kind target = search plain_rules depth 14
plain-then_read false kind target = search plain_rules depth 14

ruleset rules_here = (steps, plain-then_read)

pub keeps-on_none : (s : State.State) (x1 : List Operand) (o : Out) → Keeps 1 [] s o → Keeps 1 [] s (on_none s x1 o)
keeps-on_none s [] o h2 = search rules_here depth 14
keeps-on_none s (x ∷ xs) o h2 = search rules_here depth 14

pub keeps-on_one : (s : State.State) (x1 : List Operand) (go : (Operand → Out)) → ((a0 : Operand) → Keeps 1 [] s (go a0)) → Keeps 1 [] s (on_one s x1 go)
keeps-on_one s [] go h2 = search rules_here depth 14
keeps-on_one s (x ∷ []) go h2 = search rules_here depth 14
keeps-on_one s (x ∷ y ∷ xs) go h2 = search rules_here depth 14

pub keeps-on_two : (s : State.State) (x1 : List Operand) (go : (Operand → Operand → Out)) → ((a0 : Operand) (a1 : Operand) → Keeps 1 [] s (go a0 a1)) → Keeps 1 [] s (on_two s x1 go)
keeps-on_two s [] go h2 = search rules_here depth 14
keeps-on_two s (x ∷ xs) go h2 = search (rules_here, keeps-on_one) depth 14

pub keeps-on_three : (s : State.State) (x1 : List Operand) (go : (Operand → Operand → Operand → Out)) → ((a0 : Operand) (a1 : Operand) (a2 : Operand) → Keeps 1 [] s (go a0 a1 a2)) → Keeps 1 [] s (on_three s x1 go)
keeps-on_three s [] go h2 = search rules_here depth 14
keeps-on_three s (x ∷ xs) go h2 = search (rules_here, keeps-on_two) depth 14

pub keeps-with_number : (s : State.State) (v : Value) (go : (ℤ → Out)) → ((a0 : ℤ) → Keeps 1 [] s (go a0)) → Keeps 1 [] s (with_number s v go)
keeps-with_number s (Number z) go h2 = search rules_here depth 14
keeps-with_number s v go h2 = search rules_here depth 14

pub keeps-give_result : (s : State.State) (x1 : Result ℤ TrapKind) → Keeps 1 [] s (give_result s x1)
keeps-give_result s (Ok z) = search rules_here depth 14
keeps-give_result s (Err k) = search rules_here depth 14

pub keeps-arithmetic_of : (s : State.State) (o : Arithmetic) (kind : IntKind) (x3 : List Operand) → Keeps 1 [] s (arithmetic_of s o kind x3)
keeps-arithmetic_of s o kind [] = search rules_here depth 14
keeps-arithmetic_of s o kind (a ∷ []) = search (rules_here, keeps-with_number, keeps-give_result) depth 14
keeps-arithmetic_of s o kind (a ∷ b ∷ os) = search (rules_here, keeps-with_number, keeps-give_result) depth 14

pub keeps-print : (s : State.State) (is_error : Bool) (bytes : List ℕ) → Keeps 1 [] s (print s is_error bytes)
keeps-print s is_error bytes = keeps_saying s.things s.places s.work s.parked s.handlers s.last_handler s.sources s.last_source s (Happens (Print (stream_of is_error) bytes)) refl (carries_same s.things s.places) (calm_same s.work) (λ t. refl) refl (λ n. tt) refl

pub keeps-give_text_result : (s : State.State) (x1 : TextResult) → Keeps 1 [] s (give_text_result s x1)
keeps-give_text_result s (Makes bytes) = search (rules_here, keeps-give_text) depth 14
keeps-give_text_result s (Gives z) = search rules_here depth 14
keeps-give_text_result s (Traps k) = search rules_here depth 14
keeps-give_text_result s Nothing = search rules_here depth 14

pub keeps-read_line : (s : State.State) (x1 : List ℕ) → Keeps 1 [] s (read_line s x1)
keeps-read_line s [] = search rules_here depth 14
keeps-read_line s (b ∷ bs) = search (rules_here, keeps-give_text) depth 14

pub keeps-text_function : (s : State.State) (f : TextCall) (os : List Operand) → Keeps 1 [] s (text_function s f os)
keeps-text_function s text.ReadLine os = search (rules_here, keeps-read_line) depth 14
keeps-text_function s f os = search (rules_here, keeps-unless, keeps-give_text_result) depth 14

pub keeps-compare_texts : (s : State.State) (c : Comparison) (v : Value) (w : Value) → Keeps 1 [] s (compare_texts s c v w)
keeps-compare_texts s c v w = search (rules_here, keeps-unless) depth 14

pub keeps-cast : (core : Core) (s : State.State) (o : Operand) (n : ℕ) → Keeps 1 [] s (cast core s o n)
keeps-cast core s o n = search (rules_here, keeps-unless) depth 14

pub keeps-as_type : (core : Core) (s : State.State) (o : Operand) (n : ℕ) → Keeps 1 [] s (as_type core s o n)
keeps-as_type core s o n = search (rules_here, keeps-unless) depth 14

pub keeps-new_array : (core : Core) (s : State.State) (of : ElementType) (x3 : ℤ) → Keeps 1 [] s (new_array core s of x3)
keeps-new_array core s of (negsuc n) = search rules_here depth 14
keeps-new_array core s of (pos n) = search (rules_here, keeps-give_made) depth 14

pub keeps-list_array : (core : Core) (s : State.State) (of : ElementType) (os : List Operand) → Keeps 1 [] s (list_array core s of os)
keeps-list_array core s of os =
    let kinds : List VType = flat_map (cells_of core) (replicate (length os) (type_of_item of)) in
    let ps : List Filling = flat_map (parts_of s) os in
    let cells : List Place = within_thing (next_serial s) (filled s kinds ps) in
    keeps_made s.things s.places s.work s.parked s.handlers s.last_handler s.sources s.last_source (list_array core s of os).0 (kind_of (ArrayOf of (length os))) refl (more s.things (ArrayOf of (length os)) (length (emptied s (left_by kinds ps)).places) (length cells))
    (gains_last None s.things s.places ((emptied s (left_by kinds ps)).places ++ cells) None (carries_moved s (left_by kinds ps) cells (lands_within s (next_serial s) (left_by kinds ps) (filled s kinds ps) (lands_filled s kinds ps (stand_all s os))))) (calm_same s.work)

pub keeps-new_struct : (core : Core) (s : State.State) (number : ℕ) (os : List Operand) → Keeps 1 [] s (new_struct core s number os)
keeps-new_struct core s number os =
    let kinds : List VType = cells_of core (record { shape = shape.Struct number; owned = true; nullable = false }) in
    let ps : List Filling = flat_map (parts_of s) os in
    keeps_still s (new_struct core s number os).0 refl (carries_moved s (left_by kinds ps) (filled s kinds ps) (lands_filled s kinds ps (stand_all s os))) (calm_same s.work)

keeps-append_at : (core : Core) (s : State.State) (of : ElementType) (n : ℕ) (x : Operand) → Keeps 1 [] s (append_at core s of n x)
keeps-append_at core s of n x =
    let old : Value = held s n in
    let count : ℕ = suc (element_count (content_of s old)) in
    let kinds : List VType = flat_map (cells_of core) (replicate count (type_of_item of)) in
    let ps : List Filling = map (part_at s) (cells_in s old) ++ parts_of s x in
    let cells : List Place = within_thing (next_serial s) (filled s kinds ps) in
    let qs : List Place = (emptied s (left_by kinds ps)).places in
    let t : State.State = with_thing (emptied s (left_by kinds ps)) (ArrayOf of count) cells in
    let u : State.State = put t n (Thing (next_serial s)) in
    let lands = lands_within s (next_serial s) (left_by kinds ps) (filled s kinds ps) (lands_filled s kinds ps (stand_append s (map (part_at s) (cells_in s old)) (parts_of s x) (stand_at s (cells_in s old)) (stand_of s x))) in
    keeps_if s.things s.places s.work s.parked s.handlers s.last_handler s.sources s.last_source (nat_le (2 ^ 63) count) (stop s (Trapped trap.Length)) (if is_owning_place s n then (fill t n (Thing (next_serial s)), made (ArrayOf of count)) else stuck s) (search rules_here depth 14)
    (keeps_test s.things s.places s.work s.parked s.handlers s.last_handler s.sources s.last_source (is_owning_place s n) (fill t n (Thing (next_serial s)), made (ArrayOf of count)) (stuck s)
    (λ e. keeps-release s u (held t n) (made (ArrayOf of count)) (
    keeps_made s.things s.places s.work s.parked s.handlers s.last_handler s.sources s.last_source u (kind_of (ArrayOf of count)) refl (more s.things (ArrayOf of count) (length qs) (length cells))
    (gains_put s.things s.places (qs ++ cells) n (carries_moved s (left_by kinds ps) cells lands) (owning-more qs cells n (owning-emptied s.places (left_by kinds ps) n ∙ e))) (calm_same s.work)
    )) (λ e. search rules_here depth 14))

pub keeps-append : (core : Core) (s : State.State) (items : List Item) (of : ElementType) (target x : Operand) → Plain items → Keeps 1 [] s (append core (next items s) of target x)
keeps-append core s items of target x h =
    keeps_behind 1 [] items s _ _ h (
    keeps-with_found (next items s) (find_target core (next items s) target) _
    (λ n. keeps-unless (reads (next items s) (held (next items s) n ∷ [])) (next items s) (append_at core (next items s) of n x) (keeps-append_at core (next items s) of n x))
    )

pub keeps-method_value : (s : State.State) (v : Value) (m : Option ℕ) → Keeps 1 [] s (method_value s v m)
keeps-method_value s v None = search rules_here depth 14
keeps-method_value s v (Some m) = search (rules_here, fills_method) depth 14

pub keeps-receiver_value : (s : State.State) (o : Operand) (m : Option ℕ) → Keeps 1 [] s (receiver_value s o m)
keeps-receiver_value s o m = search (rules_here, keeps-unless, keeps-method_value) depth 14

pub keeps-delegate_to : (core : Core) (s : State.State) (x2 : Callee) (os : List Operand) → Keeps 1 [] s (delegate_to core s x2 os)
keeps-delegate_to core s (callee.Static m) os = search (rules_here, keeps-method_value) depth 14
keeps-delegate_to core s (callee.Method m) os = search (rules_here, keeps-on_one, keeps-receiver_value) depth 14
keeps-delegate_to core s (callee.Virtual slot) os = search (rules_here, keeps-on_one, keeps-receiver_value) depth 14
keeps-delegate_to core s (callee.Delegate kind) os = search rules_here depth 14

pub keeps-assign : (s : State.State) (kind : VType) (is_used : Bool) (target : Operand) (o : Operand) → Keeps 1 [] s (assign s kind is_used target o)
keeps-assign s kind is_used target o = search rules_here depth 14

pub keeps-store_number : (s : State.State) (kind : IntKind) (is_used : Bool) (target : Operand) (x4 : Result ℤ TrapKind) → Keeps 1 [] s (store_number s kind is_used target x4)
keeps-store_number s kind is_used target (Err k) = search rules_here depth 14
keeps-store_number s kind is_used target (Ok z) = search (rules_here, keeps-assign) depth 14

pub keeps-assign_number : (s : State.State) (o : Arithmetic) (at : IntKind) (to : IntKind) (is_used : Bool) (target : Operand) (a : Operand) (b : Operand) → Keeps 1 [] s (assign_number s o at to is_used target a b)
keeps-assign_number s o at to is_used target a b = search (rules_here, keeps-with_number, keeps-store_number) depth 14

pub keeps-increment_by : (s : State.State) (kind : IntKind) (is_postfix : Bool) (is_used : Bool) (target : Operand) (old : ℤ) (x6 : Result ℤ TrapKind) → Keeps 1 [] s (increment_by s kind is_postfix is_used target old x6)
keeps-increment_by s kind is_postfix is_used target old (Err k) = search rules_here depth 14
keeps-increment_by s kind true is_used target old (Ok z) = search rules_here depth 14
keeps-increment_by s kind false is_used target old (Ok z) = search (rules_here, keeps-assign) depth 14

pub keeps-increment : (s : State.State) (o : Arithmetic) (kind : IntKind) (is_postfix : Bool) (is_used : Bool) (target : Operand) (a : Operand) → Keeps 1 [] s (increment s o kind is_postfix is_used target a)
keeps-increment s o kind is_postfix is_used target a = search (rules_here, keeps-with_number, keeps-increment_by) depth 14

pub keeps-assign_text : (s : State.State) (is_used : Bool) (target : Operand) (a : Operand) (b : Operand) → Keeps 1 [] s (assign_text s is_used target a b)
keeps-assign_text s is_used target a b = search rules_here depth 14

pub keeps-new_error : (s : State.State) (domain : ℕ) (code : ℤ) (message : List ℕ) → Keeps 1 [] s (new_error s domain code message)
keeps-new_error s domain code message = search (rules_here, keeps-give_made) depth 14

pub keeps-part_in : (s : State.State) (p : Part) (v : Value) (c : Option Content) → Keeps 1 [] s (part_in s p v c)
keeps-part_in s part.ErrorMessage (Thing t) c = search rules_here depth 14
keeps-part_in s part.ErrorCode v (Some (ErrorOf domain code message)) = search rules_here depth 14
keeps-part_in s part.ArrayLength (Arguments first count) c = search rules_here depth 14
keeps-part_in s part.ArrayLength v (Some (ArrayOf of count)) = search rules_here depth 14
keeps-part_in s part.PropertyName (Property name) c = search rules_here depth 14
keeps-part_in s p v c = search rules_here depth 14

pub keeps-part_of : (s : State.State) (p : Part) (v : Value) → Keeps 1 [] s (part_of s p v)
keeps-part_of s p v = search (rules_here, keeps-unless, keeps-part_in) depth 14

pub keeps-perform : (core : Core) (s : State.State) (x2 : Operation) (os : List Operand) → Keeps 1 [] s (perform core s x2 os)
keeps-perform core s (op.Number is_negative size) os = search rules_here depth 14
keeps-perform core s (op.Text bytes) os = search rules_here depth 14
keeps-perform core s op.Null os = search rules_here depth 14
keeps-perform core s (op.This at) os = search (rules_here, keeps-with_found) depth 14
keeps-perform core s (op.Local n kind) os = search (rules_here, keeps-read) depth 14
keeps-perform core s (op.Static n kind) os = search (rules_here, keeps-read) depth 14
keeps-perform core s (op.Captured at n kind) os = search (rules_here, keeps-read) depth 14
keeps-perform core s (op.Field n kind) os = search (rules_here, keeps-on_one, keeps-read) depth 14
keeps-perform core s (op.Member n kind) os = search (rules_here, keeps-on_one, keeps-read) depth 14
keeps-perform core s (op.Element of) os = search (rules_here, keeps-on_two, keeps-with_number, keeps-read) depth 14
keeps-perform core s (op.Property n) os = search (rules_here, keeps-on_one, keeps-get_property) depth 14
keeps-perform core s (op.Take kind) os = search (rules_here, keeps-on_one, keeps-take_from) depth 14
keeps-perform core s (op.Arithmetic o kind) os = search (rules_here, keeps-arithmetic_of) depth 14
keeps-perform core s (op.Convert kind) os = search (rules_here, keeps-on_one, keeps-with_number) depth 14
keeps-perform core s (op.CompareNumbers c) os = search (rules_here, keeps-on_two, keeps-with_number) depth 14
keeps-perform core s (op.CompareTexts c) os = search (rules_here, keeps-on_two, keeps-compare_texts) depth 14
keeps-perform core s (op.CompareReferences c) os = search (rules_here, keeps-on_two) depth 14
keeps-perform core s (op.Change ch kind) os = search (rules_here, keeps-on_one, keeps-change) depth 14
keeps-perform core s (op.TextFunction f) os = search (rules_here, keeps-text_function) depth 14
keeps-perform core s (op.Print is_error format) os = search (rules_here, keeps-unless, keeps-print) depth 14
keeps-perform core s (op.PrintText is_error) os = search (rules_here, keeps-unless, keeps-print) depth 14
keeps-perform core s (op.Format format) os = search (rules_here, keeps-unless, keeps-give_text) depth 14
keeps-perform core s (op.Call to name) os = search (rules_here, keeps-call) depth 14
keeps-perform core s (op.New class method) os = search (rules_here, keeps-new_object) depth 14
keeps-perform core s (op.NewArray of) os = search (rules_here, keeps-on_one, keeps-with_number, keeps-new_array) depth 14
keeps-perform core s (op.List of) os = search (rules_here, keeps-list_array) depth 14
keeps-perform core s (op.NewStruct number) os = search (rules_here, keeps-new_struct) depth 14
keeps-perform core s (op.MethodValue to) os = search (rules_here, keeps-delegate_to) depth 14
keeps-perform core s (op.Assign kind is_used) os = search (rules_here, keeps-on_two, keeps-assign) depth 14
keeps-perform core s (op.AssignNumber o at to is_used) os = search (rules_here, keeps-on_three, keeps-assign_number) depth 14
keeps-perform core s (op.AssignText is_used) os = search (rules_here, keeps-on_three, keeps-assign_text) depth 14
keeps-perform core s (op.Increment by kind is_postfix is_used) os = search (rules_here, keeps-on_two, keeps-increment) depth 14
keeps-perform core s (op.Append of is_used) os = search (rules_here, keeps-on_two, keeps-append) depth 14
keeps-perform core s (op.Is n) os = search (rules_here, keeps-on_one, keeps-unless) depth 14
keeps-perform core s (op.As n) os = search (rules_here, keeps-on_one, keeps-as_type) depth 14
keeps-perform core s (op.Cast n) os = search (rules_here, keeps-on_one, keeps-cast) depth 14
keeps-perform core s (op.NewError domain code format) os = search (rules_here, keeps-unless, keeps-new_error) depth 14
keeps-perform core s (op.NewErrorText domain code) os = search (rules_here, keeps-unless, keeps-new_error) depth 14
keeps-perform core s (op.Part p) os = search (rules_here, keeps-on_one, keeps-part_of) depth 14
keeps-perform core s (op.Callback method name) os = search (rules_here, keeps-callback) depth 14
keeps-perform core s (op.Emit signal) os = search (rules_here, keeps-with_receiver, keeps-emit) depth 14
keeps-perform core s (op.Connect signal detail is_after takes_sender takes_arguments to) os = search (rules_here, keeps-connect) depth 14
keeps-perform core s (op.Disconnect signal to) os = search (rules_here, keeps-disconnect) depth 14
keeps-perform core s op.DisconnectId os = search (rules_here, keeps-on_two, keeps-with_number, keeps-disconnect_id) depth 14
keeps-perform core s (op.Begin method has_receiver name) os = search (rules_here, keeps-begin) depth 14
keeps-perform core s (op.YieldCall method has_receiver) os = search (rules_here, keeps-yield_call) depth 14
keeps-perform core s (op.End method has_receiver name) os = search (rules_here, keeps-end) depth 14
keeps-perform core s (op.Loop c) os = search (rules_here, keeps-loop_call) depth 14

pub keeps-reach : (s : State.State) (x1 : Operation) (os : List Operand) → Keeps 1 [] s (reach s x1 os)
keeps-reach s (op.Local n kind) os = search rules_here depth 14
keeps-reach s (op.Static n kind) os = search rules_here depth 14
keeps-reach s (op.Captured at n kind) os = search rules_here depth 14
keeps-reach s (op.Field n kind) os = search (rules_here, keeps-on_one) depth 14
keeps-reach s (op.Member n kind) os = search (rules_here, keeps-on_one) depth 14
keeps-reach s (op.Element of) os = search (rules_here, keeps-on_two, keeps-with_number) depth 14
keeps-reach s (op.Property n) os = search (rules_here, keeps-on_one) depth 14
keeps-reach s x1 os = search rules_here depth 14
