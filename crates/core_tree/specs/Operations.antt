-- What an operation does when its parts are there: a case for each.
use Rattle.std.specs.Prelude.{ℕ, zero, suc, ◌^◌, ◌%◌, ◌==◌, nat_le, Bool, true, false, if◌then◌else◌, ℤ, pos, negsuc, List, [], ◌∷◌, ◌++◌, length, map, flat_map, replicate, codes, Option, Some, None, Result, Ok, Err, slice_index_or}
use Rattle.std.specs.List.{list_any}
use Rattle.vg_base.specs.declared.event.VEnd.TheVariants.{Trapped, Dead}
use Rattle.vg_base.specs.declared.event.TrapKind.{TrapKind}
use Rattle.vg_base.specs.declared.event.TrapKind.TheVariants as trap
use Rattle.vg_base.specs.declared.event.Stream.{Stream}
use Rattle.vg_base.specs.declared.event.Stream.TheVariants as stream
use Rattle.vg_base.specs.declared.event.Event.TheVariants.{Print}
use Rattle.vg_base.specs.Headline.{Happens}
use Rattle.vala_types.specs.declared.types.IntKind.{IntKind}
use Rattle.vala_types.specs.declared.types.Item.{Item as ElementType}
use Rattle.vala_types.specs.declared.types.Shape.TheVariants as shape
use Rattle.vala_types.specs.declared.types.VType.{VType}
use Rattle.core_tree.specs.declared.program.Core.{Core}
use Rattle.core_tree.specs.declared.operation.Operation.{Operation}
use Rattle.core_tree.specs.declared.operation.Operation.TheVariants as op
use Rattle.core_tree.specs.declared.types.ClassInfo.{ClassInfo}
use Rattle.core_tree.specs.declared.values.Arithmetic.{Arithmetic}
use Rattle.core_tree.specs.declared.values.Callee.{Callee}
use Rattle.core_tree.specs.declared.values.Callee.TheVariants as callee
use Rattle.core_tree.specs.declared.values.Comparison.{Comparison}
use Rattle.core_tree.specs.declared.values.Part.{Part}
use Rattle.core_tree.specs.declared.values.Part.TheVariants as part
use Rattle.core_tree.specs.declared.values.TextCall.{TextCall}
use Rattle.core_tree.specs.declared.values.TextCall.TheVariants as text
use Rattle.core_tree.specs.State
use Rattle.core_tree.specs.State.{Value, Null, Number, Literal, Arguments, Thing, Message, Property, Cells, Delegate, Code, Method, Place, Operand, Given, Owned, OwnedCells, At, CellOf, ElementOf, MemberOf, PropertyOf, VariableOf, Frame, Item, Push, Store, ReadAway, Perform, ThingState, Content, ObjectOf, TextOf, ArrayOf, ErrorOf}
use Rattle.core_tree.specs.Arithmetic.{wrap, calculate, compare_numbers, compared, bytes_less, bytes_equal, signed}
use Rattle.core_tree.specs.Formats.{Argument, Integer, Written, formatted}
use Rattle.core_tree.specs.Texts.{TextResult, Makes, Gives, Traps, Nothing, apply_text, line_of, behind_line, before_zero}
use Rattle.core_tree.specs.Places.{Out, quiet, stop, stuck, next, cells_of, range, held, fill, owning_from, is_owning_place, add_places, with_thing, next_serial, made, uses, reads, is_null, cannot_be_owned, content_of, unless, value_of, give, give_value, give_number, give_bool, give_owned, give_made, There}
use Rattle.core_tree.specs.Calls.{type_of_item, find_target, Filling, part_at, parts_of, left_by, filled, emptied, give_cells}
use Rattle.core_tree.specs.Changes.{bytes_of, give_text, change, cells_in, empty_array}
use Rattle.core_tree.specs.Invoke.{local_place, way_begins, find_this, with_found, class_of, member_in, call, with_receiver}
use Rattle.core_tree.specs.Storing.{same_reference, read, get_property, take_from}
use Rattle.core_tree.specs.Objects.{new_object}
use Rattle.core_tree.specs.Signals.{emit, connect, disconnect, disconnect_id}
use Rattle.core_tree.specs.Async.{begin, yield_call, end, callback}
use Rattle.core_tree.specs.Loop.{loop_call}

-- Operands by their number

-- no operands
abbrev pub on_none : State.State → List Operand → Out → Out
on_none s [] o = o
on_none s (x ∷ xs) o = stuck s

-- one operand
abbrev pub on_one : State.State → List Operand → (Operand → Out) → Out
on_one s [] go = stuck s
on_one s (x ∷ []) go = go x
on_one s (x ∷ y ∷ xs) go = stuck s

-- two operands
abbrev pub on_two : State.State → List Operand → (Operand → Operand → Out) → Out
on_two s [] go = stuck s
on_two s (x ∷ xs) go = on_one s xs (λ y. go x y)

-- three operands
abbrev pub on_three : State.State → List Operand → (Operand → Operand → Operand → Out) → Out
on_three s [] go = stuck s
on_three s (x ∷ xs) go = on_two s xs (λ y z. go x y z)

-- a number
abbrev pub with_number : State.State → Value → (ℤ → Out) → Out
with_number s (Number z) go = go z
with_number s v go = stuck s

-- Numbers

-- a number, or the trap that took its place
abbrev pub give_result : State.State → Result ℤ TrapKind → Out
give_result s (Ok z) = quiet (give_number s z)
give_result s (Err k) = stop s (Trapped k)

-- an operator with one operand takes it twice, and looks at the first alone
abbrev pub arithmetic_of : State.State → Arithmetic → IntKind → List Operand → Out
arithmetic_of s o kind [] = stuck s
arithmetic_of s o kind (a ∷ []) = with_number s (value_of s a) (λ x. give_result s (calculate o kind x x))
arithmetic_of s o kind (a ∷ b ∷ os) = with_number s (value_of s a) (λ x. with_number s (value_of s b) (λ y. give_result s (calculate o kind x y)))

-- Texts

-- an operand as a format takes it
abbrev pub argument_of : State.State → Operand → Argument
argument_of s o = as_argument (value_of s o)
  where
    as_argument : Value → Argument
    as_argument (Number z) = Integer z
    as_argument Null = Written (codes "(null)")
    as_argument (Property name) = Written name
    as_argument v = Written (bytes_of s v)

-- operands as a format takes them
abbrev pub arguments_of : State.State → List Operand → List Argument
arguments_of s os = map (argument_of s) os

-- the values of operands
abbrev pub values : State.State → List Operand → List Value
values s os = map (value_of s) os

-- where a print goes
abbrev pub stream_of : Bool → Stream
stream_of true = stream.Err
stream_of false = stream.Out

-- bytes go to a stream
abbrev pub print : State.State → Bool → List ℕ → Out
print s is_error bytes = (s, Happens (Print (stream_of is_error) bytes) ∷ [])

-- the bytes of the one text that is printed
abbrev pub written_in : List Argument → List ℕ
written_in (Written bytes ∷ as') = bytes
written_in _ = []

-- what a text function gave
abbrev pub give_text_result : State.State → TextResult → Out
give_text_result s (Makes bytes) = give_text s bytes
give_text_result s (Gives z) = quiet (give_number s z)
give_text_result s (Traps k) = stop s (Trapped k)
give_text_result s Nothing = stuck s

-- the next line of the input, or null at its end
abbrev pub read_line : State.State → List ℕ → Out
read_line s [] = quiet (give_value s Null)
read_line s (b ∷ bs) = give_text (record s { input = behind_line (b ∷ bs) }) (before_zero (line_of (b ∷ bs)))

-- every text is used: null is the trap `null`, and then a gone one is a dead use
abbrev pub text_function : State.State → TextCall → List Operand → Out
text_function s text.ReadLine os = read_line s s.input
text_function s f os = unless (uses s (values s os)) s (give_text_result s (apply_text f (arguments_of s os)))

-- null is less than every text and equal to null
abbrev pub text_less : State.State → Value → Value → Bool
text_less s Null Null = false
text_less s Null w = true
text_less s v Null = false
text_less s v w = bytes_less (bytes_of s v) (bytes_of s w)

-- null is equal to null, and texts are equal by their bytes
abbrev pub text_equal : State.State → Value → Value → Bool
text_equal s Null Null = true
text_equal s Null w = false
text_equal s v Null = false
text_equal s v w = bytes_equal (bytes_of s v) (bytes_of s w)

-- comparing texts reads them
abbrev pub compare_texts : State.State → Comparison → Value → Value → Out
compare_texts s c v w = unless (reads s (v ∷ w ∷ [])) s (quiet (give_bool s (compared c (text_less s v w) (text_equal s v w))))

-- Types

-- a number is in a list
abbrev pub contains : ℕ → List ℕ → Bool
contains n ns = list_any (λ m. m == n) ns

-- a class is of a type
abbrev pub is_a_in : Option ClassInfo → ℕ → Bool
is_a_in None n = false
is_a_in (Some info) n = contains n info.is_a

-- an object is of a type
abbrev pub is_a : Core → State.State → Value → ℕ → Bool
is_a core s v n = is_a_in (class_of core s v) n

-- null is of no type, passes a cast, and gives null for `as`
abbrev pub cast : Core → State.State → Operand → ℕ → Out
cast core s o n =
    if is_null (value_of s o) then quiet (give s o) else unless (reads s (value_of s o ∷ [])) s (if is_a core s (value_of s o) n then quiet (give s o) else stop s (Trapped trap.Cast))

-- the object where it is of the type, else null
abbrev pub as_type : Core → State.State → Operand → ℕ → Out
as_type core s o n = unless (reads s (value_of s o ∷ [])) s (if is_a core s (value_of s o) n then quiet (give s o) else quiet (give_value s Null))

-- Arrays and structs

-- an array of empty elements; a negative length is the trap `length`
abbrev pub new_array : Core → State.State → ElementType → ℤ → Out
new_array core s of (negsuc n) = stop s (Trapped trap.Length)
new_array core s of (pos n) = if nat_le (2 ^ 63) n then stop s (Trapped trap.Length) else give_made s (ArrayOf of n) (empty_array core s of n)

-- these are places of the thing with this serial
abbrev pub within_thing : ℕ → List Place → List Place
within_thing t [] = []
within_thing t (p ∷ ps) = record p { within = Some t } ∷ within_thing t ps

-- `{ .. }`: the array is made, and the elements move into it
abbrev pub list_array : Core → State.State → ElementType → List Operand → Out
list_array core s of os =
    let kinds : List VType = flat_map (cells_of core) (replicate (length os) (type_of_item of)) in
    let ps : List Filling = flat_map (parts_of s) os in
    give_made (emptied s (left_by kinds ps)) (ArrayOf of (length os)) (within_thing (next_serial s) (filled s kinds ps))

-- a struct whose cells hold these values, or zeros behind them
abbrev pub new_struct : Core → State.State → ℕ → List Operand → Out
new_struct core s number os =
    let kinds : List VType = cells_of core (record { shape = shape.Struct number; owned = true; nullable = false }) in
    let ps : List Filling = flat_map (parts_of s) os in
    let t : State.State = add_places (emptied s (left_by kinds ps)) (filled s kinds ps) in
    quiet (give_cells t (OwnedCells (length s.places) (length kinds)) (owning_from t (range (length s.places) (length kinds))))

-- how many elements an array has; null counts as empty
abbrev pub element_count : Option Content → ℕ
element_count (Some (ArrayOf of n)) = n
element_count _ = 0

-- `a += x`: the elements move into an array that is one longer, x comes last, and the old array goes
abbrev pub append_at : Core → State.State → ElementType → ℕ → Operand → Out
append_at core s of n x =
    let old : Value = held s n in
    let count : ℕ = suc (element_count (content_of s old)) in
    let kinds : List VType = flat_map (cells_of core) (replicate count (type_of_item of)) in
    let ps : List Filling = map (part_at s) (cells_in s old) ++ parts_of s x in
    let t : State.State = with_thing (emptied s (left_by kinds ps)) (ArrayOf of count) (within_thing (next_serial s) (filled s kinds ps)) in
    if nat_le (2 ^ 63) count then stop s (Trapped trap.Length)
    else (if is_owning_place s n then (fill t n (Thing (next_serial s)), made (ArrayOf of count)) else stuck s)

-- an array in a place gets one more element
abbrev pub append : Core → State.State → ElementType → Operand → Operand → Out
append core s of target x = with_found s (find_target core s target) (λ n. unless (reads s (held s n ∷ [])) s (append_at core s of n x))

-- Delegates

-- a method value of a receiver: a member access, and a new owner
abbrev pub method_value : State.State → Value → Option ℕ → Out
method_value s v None = stuck s
method_value s v (Some m) = if cannot_be_owned s v then stop s Dead else quiet (give_owned s (Delegate (Method m) v))

-- the receiver is tested, and then the delegate is made
abbrev pub receiver_value : State.State → Operand → Option ℕ → Out
receiver_value s o m = unless (uses s (value_of s o ∷ [])) s (method_value s (value_of s o) m)

-- a delegate to a method, by how the method is found
abbrev pub delegate_to : Core → State.State → Callee → List Operand → Out
delegate_to core s (callee.Static m) os = method_value s Null (Some m)
delegate_to core s (callee.Method m) os = on_one s os (λ o. receiver_value s o (Some m))
delegate_to core s (callee.Virtual slot) os = on_one s os (λ o. receiver_value s o (member_in (class_of core s (value_of s o)) slot))
delegate_to core s (callee.Delegate kind) os = stuck s

-- Assignment

-- what an assignment does when target and value are there; its own value is a read of the target after that
abbrev pub then_read : Bool → VType → Operand → List Item
then_read true kind target = Push target ∷ ReadAway kind ∷ []
then_read false kind target = []

-- the value is stored, and the target is read where the assignment's own value is used
abbrev pub assign : State.State → VType → Bool → Operand → Operand → Out
assign s kind is_used target o = quiet (next (Push target ∷ Push o ∷ Store ∷ then_read is_used kind target) s)

-- the type of a place for an integer
abbrev pub number_type : IntKind → VType
number_type kind = record { shape = shape.Int kind; owned = true; nullable = false }

-- the type of a place for a text
abbrev pub text_type : VType
text_type = record { shape = shape.Text; owned = true; nullable = false }

-- a number is stored, or the trap comes that took its place
abbrev pub store_number : State.State → IntKind → Bool → Operand → Result ℤ TrapKind → Out
store_number s kind is_used target (Err k) = stop s (Trapped k)
store_number s kind is_used target (Ok z) = assign s (number_type kind) is_used target (Given (Number (wrap kind z)))

-- `x op= y`: x was read before y was evaluated
abbrev pub assign_number : State.State → Arithmetic → IntKind → IntKind → Bool → Operand → Operand → Operand → Out
assign_number s o at to is_used target a b =
    with_number s (value_of s a) (λ x. with_number s (value_of s b) (λ y. store_number s to is_used target (calculate o at (wrap at x) y)))

-- `++` and `--`: a postfix has the value that the target held before
abbrev pub increment_by : State.State → IntKind → Bool → Bool → Operand → ℤ → Result ℤ TrapKind → Out
increment_by s kind is_postfix is_used target old (Err k) = stop s (Trapped k)
increment_by s kind true is_used target old (Ok z) = quiet (next (Push target ∷ Push (Given (Number z)) ∷ Store ∷ Push (Given (Number old)) ∷ []) s)
increment_by s kind false is_used target old (Ok z) = assign s (number_type kind) is_used target (Given (Number z))

-- the number that the target held is changed by one
abbrev pub increment : State.State → Arithmetic → IntKind → Bool → Bool → Operand → Operand → Out
increment s o kind is_postfix is_used target a =
    with_number s (value_of s a) (λ x. increment_by s kind is_postfix is_used target x (calculate o kind x (pos 1)))

-- the type of a place for an array
abbrev pub array_type : ElementType → VType
array_type of = record { shape = shape.Array of; owned = true; nullable = false }

-- `s += t` of texts: the concatenation is a fresh text, which moves into the target
abbrev pub assign_text : State.State → Bool → Operand → Operand → Operand → Out
assign_text s is_used target a b =
    quiet (next (Perform (op.TextFunction text.Concatenate) (target ∷ s.frame.operands) ∷ Store ∷ then_read is_used text_type target) (record s { frame = record s.frame { operands = b ∷ a ∷ [] } }))

-- Errors and parts of things

-- a fresh error; a message of 2^63 bytes or more is the trap `length`
abbrev pub new_error : State.State → ℕ → ℤ → List ℕ → Out
new_error s domain code message =
    if nat_le (2 ^ 63) (length message) then stop s (Trapped trap.Length) else give_made s (ErrorOf domain code message) []

-- the part of a thing that is there
abbrev pub part_in : State.State → Part → Value → Option Content → Out
part_in s part.ErrorMessage (Thing t) c = quiet (give_value s (Message t))
part_in s part.ErrorCode v (Some (ErrorOf domain code message)) = quiet (give_number s code)
part_in s part.ArrayLength (Arguments first count) c = quiet (give_number s (signed 32 (count % 2 ^ 32)))
part_in s part.ArrayLength v (Some (ArrayOf of count)) = quiet (give_number s (signed 32 (count % 2 ^ 32)))
part_in s part.PropertyName (Property name) c = quiet (give_value s (Literal name))
part_in s p v c = stuck s

-- a part of a thing: null is the trap `null`, and a gone thing is a dead use
abbrev pub part_of : State.State → Part → Value → Out
part_of s p v = unless (uses s (v ∷ [])) s (part_in s p v (content_of s v))

-- a number by its sign and size
abbrev pub signed_number : Bool → ℕ → ℤ
signed_number true zero = pos 0
signed_number true (suc n) = negsuc n
signed_number false n = pos n

-- The operation is done. The operands are the values of its parts, the first first.
abbrev pub perform : Core → State.State → Operation → List Operand → Out
perform core s (op.Number is_negative size) os = quiet (give_number s (signed_number is_negative size))
perform core s (op.Text bytes) os = quiet (give_value s (Literal bytes))
perform core s op.Null os = quiet (give_value s Null)
perform core s (op.This at) os = with_found s (find_this s at) (λ n. quiet (give_value s (held s n)))
perform core s (op.Local n kind) os = read s kind (find_target core s (At (local_place s n)))
perform core s (op.Static n kind) os = read s kind (There (slice_index_or s.statics n 0))
perform core s (op.Captured at n kind) os = read s kind (find_target core s (VariableOf (way_begins s at.via) at.outward n))
perform core s (op.Field n kind) os = on_one s os (λ o. read s kind (find_target core s (CellOf (value_of s o) n)))
perform core s (op.Member n kind) os = on_one s os (λ o. read s kind (find_target core s (CellOf (value_of s o) n)))
perform core s (op.Element of) os =
    on_two s os (λ a i. with_number s (value_of s i) (λ z. read s (type_of_item of) (find_target core s (ElementOf (value_of s a) z))))
perform core s (op.Property n) os = on_one s os (λ o. get_property core s (value_of s o) n)
perform core s (op.Take kind) os = on_one s os (λ o. take_from core s kind o)
perform core s (op.Arithmetic o kind) os = arithmetic_of s o kind os
perform core s (op.Convert kind) os = on_one s os (λ o. with_number s (value_of s o) (λ z. quiet (give_number s (wrap kind z))))
perform core s (op.CompareNumbers c) os =
    on_two s os (λ a b. with_number s (value_of s a) (λ x. with_number s (value_of s b) (λ y. quiet (give_bool s (compare_numbers c x y)))))
perform core s (op.CompareTexts c) os = on_two s os (λ a b. compare_texts s c (value_of s a) (value_of s b))
perform core s (op.CompareReferences c) os =
    on_two s os (λ a b. quiet (give_bool s (compared c false (same_reference (value_of s a) (value_of s b)))))
perform core s (op.Change ch kind) os = on_one s os (λ o. change core s ch kind o)
perform core s (op.TextFunction f) os = text_function s f os
perform core s (op.Print is_error format) os = unless (reads s (values s os)) s (print s is_error (formatted format (arguments_of s os)))
perform core s (op.PrintText is_error) os = unless (reads s (values s os)) s (print s is_error (written_in (arguments_of s os)))
perform core s (op.Format format) os = unless (reads s (values s os)) s (give_text s (formatted format (arguments_of s os)))
perform core s (op.Call to name) os = call core s to os
perform core s (op.New class method) os = new_object core s class method os
perform core s (op.NewArray of) os = on_one s os (λ o. with_number s (value_of s o) (λ z. new_array core s of z))
perform core s (op.List of) os = list_array core s of os
perform core s (op.NewStruct number) os = new_struct core s number os
perform core s (op.MethodValue to) os = delegate_to core s to os
perform core s (op.Assign kind is_used) os = on_two s os (λ t o. assign s kind is_used t o)
perform core s (op.AssignNumber o at to is_used) os = on_three s os (λ t a b. assign_number s o at to is_used t a b)
perform core s (op.AssignText is_used) os = on_three s os (λ t a b. assign_text s is_used t a b)
perform core s (op.Increment by kind is_postfix is_used) os = on_two s os (λ t a. increment s by kind is_postfix is_used t a)
perform core s (op.Append of is_used) os = on_two s os (λ t x. append core (next (then_read is_used (array_type of) t) s) of t x)
perform core s (op.Is n) os = on_one s os (λ o. unless (reads s (value_of s o ∷ [])) s (quiet (give_bool s (is_a core s (value_of s o) n))))
perform core s (op.As n) os = on_one s os (λ o. as_type core s o n)
perform core s (op.Cast n) os = on_one s os (λ o. cast core s o n)
perform core s (op.NewError domain code format) os = unless (reads s (values s os)) s (new_error s domain code (formatted format (arguments_of s os)))
perform core s (op.NewErrorText domain code) os = unless (reads s (values s os)) s (new_error s domain code (written_in (arguments_of s os)))
perform core s (op.Part p) os = on_one s os (λ o. part_of s p (value_of s o))
perform core s (op.Callback method name) os = callback s s.frame.activation
perform core s (op.Emit signal) os = with_receiver s os (λ v rest. emit s signal v (values s rest))
perform core s (op.Connect signal detail is_after takes_sender takes_arguments to) os = connect core s signal detail is_after takes_sender takes_arguments to os
perform core s (op.Disconnect signal to) os = disconnect core s signal to os
perform core s op.DisconnectId os = on_two s os (λ o id. with_number s (value_of s id) (λ z. disconnect_id s (value_of s o) z))
perform core s (op.Begin method has_receiver name) os = begin core s method has_receiver os
perform core s (op.YieldCall method has_receiver) os = yield_call core s method has_receiver os
perform core s (op.End method has_receiver name) os = end core s method has_receiver os
perform core s (op.Loop c) os = loop_call core s c os

-- the cell of a struct that was given, or of one in a place that is a target itself
abbrev pub member_target : State.State → Operand → ℕ → Operand
member_target s (Given v) n = CellOf v n
member_target s (OwnedCells first count) n = CellOf (Cells first) n
member_target s target n = MemberOf target n

-- Where a target leads, when its parts are there.
abbrev pub reach : State.State → Operation → List Operand → Out
reach s (op.Local n kind) os = quiet (give s (At (local_place s n)))
reach s (op.Static n kind) os = quiet (give s (At (slice_index_or s.statics n 0)))
reach s (op.Captured at n kind) os = quiet (give s (VariableOf (way_begins s at.via) at.outward n))
reach s (op.Field n kind) os = on_one s os (λ o. quiet (give s (CellOf (value_of s o) n)))
reach s (op.Member n kind) os = on_one s os (λ o. quiet (give s (member_target s o n)))
reach s (op.Element of) os = on_two s os (λ a i. with_number s (value_of s i) (λ z. quiet (give s (ElementOf (value_of s a) z))))
reach s (op.Property n) os = on_one s os (λ o. quiet (give s (PropertyOf o n)))
reach s _ os = stuck s
