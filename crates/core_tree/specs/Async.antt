-- Async methods: activations, where they park, and how they complete.
use Rattle.std.specs.Prelude.{ℕ, zero, suc, ◌+◌, ◌==◌, ◌||◌, Bool, true, false, if◌then◌else◌, List, [], ◌∷◌, ◌++◌, length, map, flat_map, Option, Some, None, slice_get}
use Rattle.vg_base.specs.declared.event.VEnd.TheVariants.{Trapped}
use Rattle.vg_base.specs.declared.event.TrapKind.TheVariants as trap
use Rattle.vala_types.specs.declared.types.Shape.TheVariants as shape
use Rattle.vala_types.specs.declared.types.VType.{VType}
use Rattle.vala_types.specs.Rows.{into_owner}
use Rattle.core_tree.specs.declared.program.Core.{Core}
use Rattle.core_tree.specs.declared.lambda.CoreParameter.{CoreParameter}
use Rattle.core_tree.specs.declared.types.CoreMethod.{CoreMethod}
use Rattle.core_tree.specs.State
use Rattle.core_tree.specs.State.{Value, Null, Number, Thing, Cells, Delegate, Code, Resume, Place, Operand, Given, Owned, OwnedCells, At, Frame, Way, Throw, Source, Parked, Item, Push, ChangeTop, Store, Execute, GiveUp, Leave, BeginBody, EndBody, BackTo, ParkFor, Receive, ThingState, Content, ActivationOf}
use Rattle.core_tree.specs.Owners.{thing_at}
use Rattle.core_tree.specs.Places.{Out, quiet, stop, stuck, next, cells_of, zero_of, empty_places, firsts, held, put, add_places, with_thing, next_serial, made, is_null, unless, value_of, give, carried, is_owning_place}
use Rattle.core_tree.specs.Calls.{tested, used, is_void, is_struct}
use Rattle.core_tree.specs.Storing.{take_at, store_at}

-- The places of an activation: `this`, the arguments, the callback, the result, and the error that stands for it.

-- the type of the place for `this`: it owns an object
abbrev pub this_type : VType
this_type = record { shape = shape.Class 0; owned = true; nullable = true }

-- the type of the place for the callback: it owns a delegate
abbrev pub callback_type : VType
callback_type = record { shape = shape.Delegate 0; owned = true; nullable = true }

-- the type of the place for an error: it owns one of any domain
abbrev pub error_type : VType
error_type = record { shape = shape.Error None; owned = true; nullable = true }

-- the types of parameters
abbrev pub parameter_types : List CoreParameter → List VType
parameter_types [] = []
parameter_types (p ∷ ps) = p.kind ∷ parameter_types ps

-- the types of all places of an activation, in the order in which they are emptied
abbrev pub activation_types : CoreMethod → List VType
activation_types m = this_type ∷ parameter_types m.locals.parameters ++ callback_type ∷ m.locals.result ∷ error_type ∷ []

-- where each parameter begins in an activation with this first place
abbrev pub parameters_at : Core → ℕ → CoreMethod → List ℕ
parameters_at core first m = firsts core (suc first) (parameter_types m.locals.parameters)

-- how many cells values of these types take
abbrev pub cell_count : Core → List VType → ℕ
cell_count core kinds = length (flat_map (cells_of core) kinds)

-- where the callback stands
abbrev pub callback_at : Core → ℕ → CoreMethod → ℕ
callback_at core first m = suc first + cell_count core (parameter_types m.locals.parameters)

-- where the result stands, behind the callback
abbrev pub result_at : Core → ℕ → CoreMethod → ℕ
result_at core first m = suc (callback_at core first m)

-- where the error stands, behind the result
abbrev pub error_at : Core → ℕ → CoreMethod → ℕ
error_at core first m = result_at core first m + length (cells_of core m.locals.result)

-- Beginning

-- a value that is a delegate
abbrev pub is_delegate : Value → Bool
is_delegate (Delegate code target) = true
is_delegate v = false

-- a value goes into a place that owns: what is not fresh is copied, but for `m.callback`, which owns nothing
abbrev pub copy_of : State.State → VType → Operand → List Item
copy_of s kind (Owned n) = []
copy_of s kind (OwnedCells first count) = []
copy_of s kind o = if is_delegate (value_of s o) || is_null (value_of s o) then [] else ChangeTop (into_owner kind.shape false) kind ∷ []

-- an operand goes into an owning place
abbrev pub put_into : State.State → ℕ → VType → Operand → List Item
put_into s n kind o = Push (At n) ∷ Push o ∷ copy_of s kind o ++ Store ∷ []

-- each argument goes into the place of its parameter
abbrev pub put_arguments : Core → State.State → List ℕ → List CoreParameter → List Operand → List Item
put_arguments core s [] ps os = []
put_arguments core s (n ∷ ns) [] os = []
put_arguments core s (n ∷ ns) (p ∷ ps) [] = []
put_arguments core s (n ∷ ns) (p ∷ ps) (o ∷ os) = put_into s n p.kind o ++ put_arguments core s ns ps os

-- what stands behind the arguments: the callback, where there is one
abbrev pub behind : ℕ → List Operand → List Operand
behind zero os = os
behind (suc n) [] = []
behind (suc n) (o ∷ os) = behind n os

-- the callback, where one is given, goes into its place
abbrev pub put_callback : State.State → ℕ → List Operand → List Item
put_callback s n [] = []
put_callback s n (o ∷ os) = put_into s n callback_type o

-- The activation is made, and the slot of active methods owns it. Then `this`, the arguments and the callback are copied into it.
abbrev pub make_activation : Core → State.State → ℕ → CoreMethod → Value → List Operand → Option ℕ → List Item → Out
make_activation core s number m this os waiter after = (
  next (
      (if is_null this then [] else put_into s (suc (length s.places)) this_type (Given this))
      ++ put_arguments core s (parameters_at core (suc (length s.places)) m) m.locals.parameters os
      ++ put_callback s (callback_at core (suc (length s.places)) m) (behind (length m.locals.parameters) os)
      ++ BeginBody (next_serial s) ∷ after
      ) (
      with_thing (add_places s (record { owning = true; holds = Thing (next_serial s); within = None } ∷ [])) (ActivationOf number (length s.places) waiter)
      (empty_places core (Some (next_serial s)) (activation_types m))
      ),
  made (ActivationOf number (length s.places) waiter),
)

-- the same of a method that was looked up; a receiver is tested first
abbrev pub begin_by : Core → State.State → ℕ → Option CoreMethod → Bool → List Operand → Option ℕ → List Item → Out
begin_by core s number None has_receiver os waiter after = stuck s
begin_by core s number (Some m) false os waiter after = make_activation core s number m Null os waiter after
begin_by core s number (Some m) true [] waiter after = stuck s
begin_by core s number (Some m) true (o ∷ os) waiter after =
    unless (tested (used s (value_of s o) ∷ [])) s (make_activation core s number m (value_of s o) os waiter after)

-- `m.begin (args, callback)`
abbrev pub begin : Core → State.State → ℕ → Bool → List Operand → Out
begin core s number has_receiver os = begin_by core s number (slice_get core.methods number) has_receiver os None []

-- `yield m (args)`: begins it, and then this activation parks
abbrev pub yield_call : Core → State.State → ℕ → Bool → List Operand → Out
yield_call core s number has_receiver os =
    begin_by core s number (slice_get core.methods number) has_receiver os s.frame.activation (ParkFor (next_serial s) ∷ [])

-- the frame of an activation: its parameters are the activation's places
abbrev pub body_frame : Core → State.State → ℕ → ℕ → CoreMethod → Frame
body_frame core s t first m =
    record {
      this = first;
      target = Null;
      locals = parameters_at core first m ++ firsts core (length s.places) m.locals.others;
      operands = [];
      temporaries = [];
      result = result_at core first m;
      result_type = m.locals.result;
      activation = Some t;
    }

-- a method that was looked up
abbrev pub with_method : State.State → Option CoreMethod → (CoreMethod → Out) → Out
with_method s None go = stuck s
with_method s (Some m) go = go m

-- the same of an activation's, by what the thing is
abbrev pub with_content : Core → State.State → ℕ → Content → (ℕ → CoreMethod → ℕ → ℕ → Option ℕ → Out) → Out
with_content core s first (ActivationOf number slot waiter) go = with_method s (slice_get core.methods number) (λ m. go first m number slot waiter)
with_content core s first _ go = stuck s

-- the places of a thing that is an activation
abbrev pub with_thing_at : Core → State.State → Option ThingState → (ℕ → CoreMethod → ℕ → ℕ → Option ℕ → Out) → Out
with_thing_at core s None go = stuck s
with_thing_at core s (Some x) go = with_content core s x.first x.content go

-- the places of an activation, told by its method
abbrev pub with_activation : Core → State.State → ℕ → (ℕ → CoreMethod → ℕ → ℕ → Option ℕ → Out) → Out
with_activation core s t go = with_thing_at core s (thing_at s t) go

-- the body is to be done, in its frame
abbrev pub run_body : Core → State.State → ℕ → ℕ → CoreMethod → Out
run_body core s t first m =
    quiet (next (map Execute m.body ++ EndBody ∷ BackTo s.frame ∷ []) (record (add_places s (empty_places core None m.locals.others)) { frame = body_frame core s t first m }))

-- the body runs up to its first park
abbrev pub begin_body : Core → State.State → ℕ → Out
begin_body core s t = with_activation core s t (λ first m number slot waiter. run_body core s t first m)

-- Parking

-- the work of the activation, up to the end of its body, and what is left behind it
abbrev pub own_work : List Item → List Item
own_work [] = []
own_work (EndBody ∷ w) = EndBody ∷ []
own_work (i ∷ w) = i ∷ own_work w

-- what is left behind the end of the activation's body
abbrev pub others_work : List Item → List Item
others_work [] = []
others_work (EndBody ∷ w) = w
others_work (i ∷ w) = others_work w

-- the activation is parked: its frame and the rest of its work are kept whole
abbrev pub park_as : State.State → Bool → List Item → Option ℕ → Out
park_as s by_yield in_front None = stuck s
park_as s by_yield in_front (Some t) =
    quiet (record s {
      work = others_work s.work;
      parked = s.parked ++ record { activation = t; by_yield = by_yield; frame = s.frame; work = in_front ++ own_work s.work } ∷ [];
    })

-- `yield;`
abbrev pub park : State.State → Out
park s = park_as s true [] s.frame.activation

-- the activation waits for the completion of another, whose result or error it then takes
abbrev pub park_for : State.State → ℕ → Out
park_for s t = park_as s false (Receive t ∷ []) s.frame.activation

-- Completing

-- a completion source is added, ready at once
abbrev pub complete : State.State → Option ℕ → Out
complete s None = stuck s
complete s (Some t) =
    quiet (record s {
      sources = s.sources ++ record { id = suc s.last_source; interval = None; due = 0; place = 0; completes = Some t } ∷ [];
      last_source = suc s.last_source;
    })

-- an error that leaves the body is kept in the activation
abbrev pub keep_error : Core → State.State → ℕ → Option ℕ → Out
keep_error core s p None = stuck s
keep_error core s p (Some t) =
    with_activation core s t (λ first m number slot waiter. store_at (next (EndBody ∷ []) s) (error_at core first m) (Owned p))

-- The result

-- the error of an activation is thrown: it stands in a place of its own while it is carried
abbrev pub throw_from : State.State → ℕ → Out
throw_from s n =
    quiet (next (Leave (Throw (length s.places)) ∷ []) (carried s n))

-- the result moves out, and null or zero stays
abbrev pub move_result : Core → State.State → VType → ℕ → Out
move_result core s kind n =
    if is_void kind.shape then quiet s
    else (if is_owning_place s n then quiet (take_at core s kind n)
    else (if is_struct kind.shape then quiet (take_at core s kind n)
    else quiet (put (give s (Given (held s n))) n (zero_of kind.shape))))

-- the result or the error of an activation is taken
abbrev pub receive : Core → State.State → ℕ → Out
receive core s t =
    with_activation core s t (λ first m number slot waiter.
    if is_null (held s (error_at core first m)) then move_result core s m.locals.result (result_at core first m) else throw_from s (error_at core first m))

-- the activation that a callback was given; one of another method is the trap `resume`
abbrev pub receive_value : Core → State.State → ℕ → Value → Out
receive_value core s method (Thing t) =
    with_activation core s t (λ first m number slot waiter. if number == method then receive core s t else stop s (Trapped trap.Resume))
receive_value core s method v = stuck s

-- `m.end (res)`: the receiver and the activation are tested, and one of another method is the trap `resume`
abbrev pub end : Core → State.State → ℕ → Bool → List Operand → Out
end core s method true (o ∷ r ∷ []) =
    unless (tested (used s (value_of s o) ∷ used s (value_of s r) ∷ [])) s (receive_value core s method (value_of s r))
end core s method false (r ∷ []) = unless (tested (used s (value_of s r) ∷ [])) s (receive_value core s method (value_of s r))
end core s method has_receiver os = stuck s

-- `m.callback`, inside `m`
abbrev pub callback : State.State → Option ℕ → Out
callback s None = stuck s
callback s (Some t) = quiet (give s (Given (Delegate Resume (Thing t))))
