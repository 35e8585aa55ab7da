-- One step: the first item of the work is done.
use Rattle.std.specs.Prelude.{ℕ, true, false, if◌then◌else◌, pos, List, [], ◌∷◌, ◌++◌, map, reverse, max, Option, Some, None, slice_get}
use Rattle.vg_base.specs.declared.event.VEnd.{VEnd}
use Rattle.vg_base.specs.declared.event.VEnd.TheVariants.{Ended, Dead}
use Rattle.vg_base.specs.World.{World}
use Rattle.vg_base.specs.Headline.{Meaning, Observed, observed}
use Rattle.vala_types.specs.declared.types.VType.{VType}
use Rattle.vala_types.specs.declared.types.Shape.TheVariants as shape
use Rattle.core_tree.specs.declared.program.Core.{Core}
use Rattle.core_tree.specs.declared.lambda.CoreParameter.{CoreParameter}
use Rattle.core_tree.specs.declared.tree.CoreExpr.{CoreExpr, out-CoreExpr}
use Rattle.core_tree.specs.declared.tree.CoreStmt.{CoreStmt, out-CoreStmt}
use Rattle.core_tree.specs.declared.types.CoreMethod.{CoreMethod}
use Rattle.core_tree.specs.declared.types.CorePlace.{CorePlace}
use Rattle.core_tree.specs.State
use Rattle.core_tree.specs.State.{Value, Null, Number, Literal, Arguments, Place, Operand, Given, At, Frame, Item, Evaluate, Locate, Push, ReadTarget, ReadAway, ChangeTop, Perform, Reach, CopyCells, AndThen, OrElse, OneOf, IfNull, Branch, Repeat, Execute, Discard, Store, EndStatement, EndBlock, GiveUp, Clear, Turn, Steps, Each, BeginEach, EndSwitch, Choose, SetResult, Leave, ThrowGiven, Catches, Finally, EndCall, EndMaking, BeginMaking, CallBase, MakeObject, SetProperty, RunMethod, Notify, Emit, CallHandler, CallClassHandler, LoopTurn, EndFunction, EndCompletion, EndDispatch, BeginBody, EndBody, BackTo, ParkFor, Receive, End, Check, Start, EndMain}
use Rattle.core_tree.specs.Owners.{live, most_owned}
use Rattle.core_tree.specs.Places.{Out, quiet, stop, stuck, next, zero_of, empty_places, firsts, put, is_owning_place, give_up, within_gone, value_of, give, is_null}
use Rattle.core_tree.specs.Calls.{return_to}
use Rattle.core_tree.specs.Changes.{change, copy_cell}
use Rattle.core_tree.specs.Invoke.{call_method}
use Rattle.core_tree.specs.Storing.{read_target, store, is_false}
use Rattle.core_tree.specs.Objects.{begin_making, call_base, make_object, made_object, end_stage}
use Rattle.core_tree.specs.Operations.{perform, reach, text_type}
use Rattle.core_tree.specs.Statements.{evaluate, locate, take_operand, execute, turn, repeat, begin_each, each, choose, set_result, throw, check}
use Rattle.core_tree.specs.Signals.{notify, emit_next, call_handler, call_class_handler}
use Rattle.core_tree.specs.Async.{begin_body, complete, park_for, receive}
use Rattle.core_tree.specs.Loop.{loop_turn, end_function, end_completion, end_dispatch}
use Rattle.core_tree.specs.Leaving.{leave}
use Rattle.core_tree.specs.Storing.{set_property}

-- the operands of the parts, the first first, and those around the operation again
abbrev pub with_operands : State.State → List Operand → State.State
with_operands s os = record s { frame = record s.frame { operands = os } }

-- two operands are taken, the one given last second
abbrev pub take_two : State.State → (State.State → Operand → Operand → Out) → Out
take_two s go = take_operand s (λ t b. take_operand t (λ u a. go u a b))

-- `&&`: the second is evaluated where the first is true
abbrev pub if_true : State.State → Operand → CoreExpr → Out
if_true s o e = if is_false (value_of s o) then quiet (give s o) else quiet (next (Evaluate e ∷ []) s)

-- `||`: the second is evaluated where the first is false
abbrev pub if_false : State.State → Operand → CoreExpr → Out
if_false s o e = if is_false (value_of s o) then quiet (next (Evaluate e ∷ []) s) else quiet (give s o)

-- `?:`: one of two is evaluated
abbrev pub one_of : State.State → Operand → CoreExpr → CoreExpr → Out
one_of s o a b = if is_false (value_of s o) then quiet (next (Evaluate b ∷ []) s) else quiet (next (Evaluate a ∷ []) s)

-- `??`: the second is evaluated where the first is null
abbrev pub if_null : State.State → Operand → CoreExpr → Out
if_null s o e = if is_null (value_of s o) then quiet (next (Evaluate e ∷ []) s) else quiet (give s o)

-- `if`: one of two is done
abbrev pub branch : State.State → Operand → CoreStmt → CoreStmt → Out
branch s o a b = if is_false (value_of s o) then quiet (next (Execute b ∷ []) s) else quiet (next (Execute a ∷ []) s)

-- the temporaries go in the order of their making, and those around the statement are there again
abbrev pub end_statement : State.State → List ℕ → List ℕ → Out
end_statement s outer [] = quiet (record s { frame = record s.frame { temporaries = outer } })
end_statement s outer (n ∷ ns) = quiet (give_up (next (EndStatement outer ∷ []) (record s { frame = record s.frame { temporaries = ns } })) n)

-- the places of a block are given up, one in a step
abbrev pub end_block : State.State → List ℕ → Out
end_block s [] = quiet s
end_block s (n ∷ ns) = quiet (give_up (next (EndBlock ns ∷ []) s) n)

-- A place becomes zero or null, and what it held is given up. It is a dead use where the thing that has the place is gone by now.
abbrev pub clear : State.State → ℕ → VType → Out
clear s n kind =
    if within_gone s (slice_get s.places n) then stop s Dead
    else (if is_owning_place s n then quiet (give_up s n) else quiet (put s n (zero_of kind.shape)))

-- the parameters are given up, one in a step, and then the caller goes on
abbrev pub end_call : Core → State.State → List ℕ → Frame → Out
end_call core s [] caller = quiet (return_to core s caller)
end_call core s (n ∷ ns) caller = quiet (give_up (next (EndCall ns caller ∷ []) s) n)

-- the next cell is copied
abbrev pub copy_cells : Core → State.State → List (ℕ × ℕ) → Out
copy_cells core s [] = quiet s
copy_cells core s (p ∷ ps) = copy_cell core (next (CopyCells ps ∷ []) s) p.0 p.1

-- the run ends with the number that `main` gave
abbrev pub end_with : State.State → Value → Out
end_with s (Number z) = stop s (Ended z)
end_with s v = stuck s

-- the run ends with the result of `main`, or 0
abbrev pub end_code : State.State → List Operand → Out
end_code s [] = stop s (Ended (pos 0))
end_code s (o ∷ os) = end_with s (value_of s o)

-- the arguments of `main`, where it takes them
abbrev pub arguments_for : List CoreParameter → List Operand
arguments_for [] = []
arguments_for (p ∷ ps) = Given (Arguments 0 1) ∷ []

-- `main` is called, with its arguments where it has a parameter
abbrev pub call_main : Core → State.State → Option CoreMethod → Out
call_main core s None = stuck s
call_main core s (Some m) = call_method core s [] Null (arguments_for m.locals.parameters) core.start

-- the next item is left
abbrev pub leave_next : Core → State.State → State.Way → List Item → Out
leave_next core s way [] = stuck s
leave_next core s way (item ∷ rest) = leave core (record s { work = rest }) way item

-- The item is done. The state has what is left of the work behind it.
abbrev pub do_item : Core → State.State → Item → Out
do_item core s (Evaluate e) = evaluate s (out-CoreExpr e)
do_item core s (Locate e) = locate s (out-CoreExpr e)
do_item core s (Push o) = quiet (give s o)
do_item core s ReadTarget = take_operand s (λ t o. read_target core s text_type o)
do_item core s (ReadAway kind) = take_operand s (λ t o. read_target core t kind o)
do_item core s (ChangeTop ch kind) = take_operand s (λ t o. change core t ch kind o)
do_item core s (Perform o around) = perform core (with_operands s around) o (reverse s.frame.operands)
do_item core s (Reach o around) = reach (with_operands s around) o (reverse s.frame.operands)
do_item core s (CopyCells pairs) = copy_cells core s pairs
do_item core s (AndThen e) = take_operand s (λ t o. if_true t o e)
do_item core s (OrElse e) = take_operand s (λ t o. if_false t o e)
do_item core s (OneOf a b) = take_operand s (λ t o. one_of t o a b)
do_item core s (IfNull e) = take_operand s (λ t o. if_null t o e)
do_item core s (Branch a b) = take_operand s (λ t o. branch t o a b)
do_item core s (Repeat body loop) = take_operand s (λ t o. repeat t body loop o)
do_item core s (Execute stmt) = execute core s stmt (out-CoreStmt stmt)
do_item core s Discard = quiet (with_operands s [])
do_item core s Store = take_two s (λ t target o. store core t target o)
do_item core s (EndStatement outer) = end_statement s outer s.frame.temporaries
do_item core s (EndBlock ns) = end_block s ns
do_item core s (GiveUp n) = quiet (give_up s n)
do_item core s (Clear n kind) = clear s n kind
do_item core s (Turn loop) = turn s loop (out-CoreStmt loop)
do_item core s (Steps steps) = quiet (next (map Execute steps) s)
do_item core s (Each loop v i n) = each core s loop v i n
do_item core s (BeginEach loop) = take_operand s (λ t o. begin_each t loop o)
do_item core s EndSwitch = quiet s
do_item core s (Choose sections outer) = take_operand s (λ t o. choose t sections outer o)
do_item core s SetResult = take_operand s (λ t o. set_result t o)
do_item core s (Leave way) = leave_next core s way s.work
do_item core s ThrowGiven = take_operand s (λ t o. throw t o)
do_item core s (Catches cs) = quiet s
do_item core s (Finally fs) = quiet (next (map Execute fs) s)
do_item core s (EndCall ns caller) = end_call core s ns caller
do_item core s (EndMaking ns caller) = end_call core s ns caller
do_item core s (BeginMaking class method) = begin_making core s class method
do_item core s (CallBase class method) = call_base core (with_operands s []) class method (reverse s.frame.operands)
do_item core s (MakeObject class properties) = make_object core (with_operands s []) class properties (reverse s.frame.operands)
do_item core s (SetProperty n) = take_operand s (λ t o. set_property core t (made_object t) n o)
do_item core s (RunMethod m) = call_method core s [] (made_object s) [] m
do_item core s (Notify v n) = notify core s v n
do_item core s (Emit x phase) = emit_next core s x phase
do_item core s (CallHandler n around) = call_handler core s n around
do_item core s (CallClassHandler v slot around) = call_class_handler core s v slot around
do_item core s (LoopTurn n) = loop_turn core s n
do_item core s (EndFunction id around) = end_function s id around
do_item core s (EndCompletion id t around) = end_completion core s id t around
do_item core s EndDispatch = end_dispatch s
do_item core s (BeginBody t) = begin_body core s t
do_item core s EndBody = complete s s.frame.activation
do_item core s (BackTo caller) = quiet (record s { frame = caller })
do_item core s (ParkFor t) = park_for s t
do_item core s (Receive t) = receive core s t
do_item core s (End t stage) = end_stage core s t stage
do_item core s Check = take_operand s check
do_item core s Start = call_main core s (slice_get core.methods core.start)
do_item core s EndMain = end_code s s.frame.operands

-- the first item is taken off the work and done
abbrev pub next_of : Core → State.State → List Item → Out
next_of core s [] = stuck s
next_of core s (item ∷ rest) = do_item core (record s { work = rest }) item

-- The meaning: the step, the end, and the most owners of a thing or the handlers that were connected, whichever is more.
abbrev pub meaning : Core → Meaning State.State VEnd
meaning core =
    record {
      machine = record { next = λ s. next_of core s s.work; ended = λ s. s.ended; top = λ s. max (most_owned (live s)) s.last_handler };
      live = live;
    }

-- The opening

-- the types of the static fields
abbrev pub static_types : List CorePlace → List VType
static_types [] = []
static_types (p ∷ ps) = p.kind ∷ static_types ps

-- an initialiser is assigned to the field at a place
abbrev pub assigned : ℕ → List CoreExpr → List Item
assigned n [] = []
assigned n (e ∷ es) = Push (At n) ∷ Evaluate e ∷ Store ∷ EndStatement [] ∷ []

-- each initialiser of a static field is assigned to its field, in order
abbrev pub initial_items : List CorePlace → List ℕ → List Item
initial_items [] ns = []
initial_items (p ∷ ps) [] = []
initial_items (p ∷ ps) (n ∷ ns) = assigned n p.initial ++ initial_items ps ns

-- the frame around `main`
abbrev pub outermost : Frame
outermost =
    record {
      this = 0;
      target = Null;
      locals = [];
      operands = [];
      temporaries = [];
      result = 0;
      result_type = record { shape = shape.Void; owned = false; nullable = false };
      activation = None;
    }

-- the array that `main` is given holds the name of the program
abbrev pub arguments_place : World → Place
arguments_place w = record { owning = true; holds = Literal w.name; within = None }

-- Before anything is done: zeroed statics, no things, and the work of the initialisers and of `main`.
abbrev pub opening : Core → World → State.State
opening core w =
    let statics : List Place = empty_places core None (static_types core.statics) in
    let places : List ℕ = firsts core 1 (static_types core.statics) in
    record {
      things = [];
      places = arguments_place w ∷ statics;
      statics = places;
      frame = outermost;
      work = initial_items core.statics places ++ Start ∷ EndMain ∷ [];
      parked = [];
      handlers = [];
      last_handler = 0;
      sources = [];
      last_source = 0;
      running = None;
      is_quitting = false;
      clock = 0;
      entries = w.entries;
      input = w.input;
      ended = None;
    }

-- THE RUN of a core in a world.
abbrev pub VRun : Core → World → Observed VEnd
VRun core w = observed (meaning core) (opening core w)
