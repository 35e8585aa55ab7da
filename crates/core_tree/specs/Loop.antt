-- The main loop: its turns, its sources, and what they call.
use Rattle.std.specs.Prelude.{ℕ, suc, ◌%◌, ◌^◌, ◌==◌, Bool, true, false, if◌then◌else◌, ℤ, pos, List, [], ◌∷◌, ◌++◌, length, Option, Some, None}
use Rattle.vg_base.specs.declared.event.VEnd.TheVariants.{Trapped, Dead, Waiting}
use Rattle.vg_base.specs.declared.event.TrapKind.TheVariants as trap
use Rattle.vg_base.specs.declared.event.Event.TheVariants.{Dispatch}
use Rattle.vg_base.specs.Headline.{Said, Happens, Returns}
use Rattle.vg_base.specs.Turn.{Due, Choice, Dispatched, Moved, NoSource, Turn, turn, later}
use Rattle.core_tree.specs.declared.program.Core.{Core}
use Rattle.core_tree.specs.declared.types.CoreMethod.{CoreMethod}
use Rattle.core_tree.specs.declared.values.LoopCall.{LoopCall}
use Rattle.core_tree.specs.declared.values.LoopCall.TheVariants as loop
use Rattle.core_tree.specs.State
use Rattle.core_tree.specs.State.{Value, Null, Number, Thing, Operand, Given, Owned, Source, Parked, Item, GiveUp, LoopTurn, EndFunction, EndCompletion, EndDispatch, Content, LoopOf}
use Rattle.core_tree.specs.Owners.{live}
use Rattle.core_tree.specs.Places.{Out, quiet, stop, stuck, next, held, uses, cannot_be_owned, is_null, give_number, give_bool, give_made, give_up, unless, value_of, ownable}
use Rattle.core_tree.specs.Storing.{same_target, left_empty, is_false}
use Rattle.core_tree.specs.Invoke.{call_delegate, parked_of, go_on}
use Rattle.core_tree.specs.Async.{with_activation, callback_at}

-- Sources

-- the sources as a turn looks at them
abbrev pub dues : List Source → List Due
dues [] = []
dues (x ∷ xs) = record { id = x.id; due = x.due } ∷ dues xs

-- the source with an id
abbrev pub source_with : ℕ → List Source → Option Source
source_with n [] = None
source_with n (x ∷ xs) = if x.id == n then Some x else source_with n xs

-- the sources but for the one with an id
abbrev pub without_source : ℕ → List Source → List Source
without_source n [] = []
without_source n (x ∷ xs) = if x.id == n then xs else x ∷ without_source n xs

-- a source is added, whose function moves into a place of its own; its id is given, modulo 2^32
abbrev pub add_source : State.State → Option ℕ → ℕ → Operand → Out
add_source s interval due o =
    quiet (give_number (
    record (left_empty s o) {
      places = (left_empty s o).places ++ record { owning = true; holds = ownable s (value_of s o); within = None } ∷ [];
      sources = s.sources ++ record { id = suc s.last_source; interval = interval; due = due; place = length s.places; completes = None } ∷ [];
      last_source = suc s.last_source;
    }
    ) (pos (suc s.last_source % 2 ^ 32)))

-- a source that has a function
abbrev pub is_function : Option ℕ → Bool
is_function None = true
is_function (Some t) = false

-- a source is removed, and its function is given up; a source that completes an activation has none
abbrev pub remove_source : State.State → Source → State.State
remove_source s x =
    if is_function x.completes then give_up (record s { sources = without_source x.id s.sources }) x.place else record s { sources = without_source x.id s.sources }

-- an id that is this number modulo 2^32
abbrev pub id_matches : ℤ → ℕ → Bool
id_matches (pos n) id = id % 2 ^ 32 == n
id_matches z id = false

-- the first source whose id is this number modulo 2^32
abbrev pub first_with : ℤ → List Source → Option Source
first_with z [] = None
first_with z (x ∷ xs) = if id_matches z x.id then Some x else first_with z xs

-- the source goes, and whether there was one is given
abbrev pub remove_first : State.State → Option Source → Out
remove_first s None = quiet (give_bool s false)
remove_first s (Some x) = quiet (remove_source (give_bool s true) x)

-- Running

-- the loop that runs is owned
abbrev pub start_loop : State.State → Value → Out
start_loop s v =
    quiet (next (LoopTurn (length s.places) ∷ []) (
    record s {
      places = s.places ++ record { owning = true; holds = v; within = None } ∷ [];
      running = Some (length s.places);
      is_quitting = false;
    }
    ))

-- the trap `loop` where one runs
abbrev pub run_in : State.State → Value → Option ℕ → Out
run_in s v (Some n) = stop s (Trapped trap.Loop)
run_in s v None = start_loop s v

-- null, then a dead use, also where the loop is ending, then the trap `loop`
abbrev pub run : State.State → Value → Out
run s v = unless (uses s (v ∷ [])) s (if cannot_be_owned s v then stop s Dead else run_in s v s.running)

-- nothing where another loop runs, or none
abbrev pub quit_in : State.State → Value → Option ℕ → State.State
quit_in s v None = s
quit_in s v (Some n) = if same_target v (held s n) then record s { is_quitting = true } else s

-- the loop that runs returns after this dispatch
abbrev pub quit : State.State → Value → Out
quit s v = unless (uses s (v ∷ [])) s (quiet (quit_in s v s.running))

-- A dispatch

-- the function of a source is called; a null one is not, and counts as one that gave false
abbrev pub call_function : Core → State.State → Source → Out
call_function core s x =
    if is_null (held s x.place) then quiet (remove_source s x)
    else call_delegate core (next (EndFunction x.id s.frame.operands ∷ []) (record s { frame = record s.frame { operands = [] } })) (held s x.place) []

-- the callback is called with `this` and the activation; a null one is not
abbrev pub call_back : Core → State.State → ℕ → ℕ → Value → Value → Out
call_back core s id t this v =
    if is_null v then quiet (next (EndCompletion id t s.frame.operands ∷ []) s)
    else call_delegate core (next (EndCompletion id t s.frame.operands ∷ []) s) v (Given this ∷ Given (Thing t) ∷ [])

-- the activation that waits goes on
abbrev pub wake_by : State.State → ℕ → ℕ → Option Parked → Out
wake_by s id t None = stuck s
wake_by s id t (Some p) = quiet (go_on s p (EndCompletion id t s.frame.operands ∷ []))

-- a completion calls the callback, or resumes the activation that waits
abbrev pub complete_by : Core → State.State → ℕ → ℕ → ℕ → CoreMethod → Option ℕ → Out
complete_by core s id t first m None = call_back core s id t (held s first) (held s (callback_at core first m))
complete_by core s id t first m (Some w) = wake_by s id t (parked_of w s.parked)

-- what a dispatch does, by what the source is for
abbrev pub dispatch_to : Core → State.State → Source → Option ℕ → Out
dispatch_to core s x None = call_function core s x
dispatch_to core s x (Some t) = with_activation core s t (λ first m number slot waiter. complete_by core s x.id t first m waiter)

-- the same of the source that was looked up
abbrev pub dispatch_source : Core → State.State → Option Source → Out
dispatch_source core s None = stuck s
dispatch_source core s (Some x) = dispatch_to core s x x.completes

-- the step says this first
abbrev pub also_says : Said → Out → Out
also_says e o = (o.0, e ∷ o.1)

-- the source with this id is dispatched, and then the loop has control again
abbrev pub dispatch : Core → State.State → ℕ → ℕ → Out
dispatch core s n id = also_says (Happens (Dispatch id)) (dispatch_source core (next (EndDispatch ∷ LoopTurn n ∷ []) s) (source_with id s.sources))

-- what a turn does, by its choice
abbrev pub choose : Core → State.State → ℕ → Choice → Out
choose core s n (Dispatched id) = dispatch core s n id
choose core s n Moved = quiet (next (LoopTurn n ∷ []) s)
choose core s n NoSource = stop s Waiting

-- the entries and the clock are as the turn leaves them
abbrev pub take_turn : Core → State.State → ℕ → Turn → Out
take_turn core s n t = choose core (record s { entries = t.entries; clock = t.clock }) n t.choice

-- the loop returns, or takes a turn
abbrev pub loop_turn : Core → State.State → ℕ → Out
loop_turn core s n =
    if s.is_quitting then quiet (next (GiveUp n ∷ []) (record s { running = None; is_quitting = false }))
    else take_turn core s n (turn s.entries s.clock (dues s.sources))

-- what lives is told where the dispatch is done and the loop has not looked at `quit` yet
abbrev pub end_dispatch : State.State → Out
end_dispatch s = (s, Returns (live s) ∷ [])

-- when a source is due that stays
abbrev pub due_again : ℕ → Option ℕ → ℕ
due_again clock None = 0
due_again clock (Some interval) = later clock interval

-- the source with an id is due again
abbrev pub renewed : ℕ → ℕ → List Source → List Source
renewed n clock [] = []
renewed n clock (x ∷ xs) = if x.id == n then record x { due = due_again clock x.interval } ∷ xs else x ∷ renewed n clock xs

-- true keeps a source that is still there, and false removes it
abbrev pub function_gave : State.State → ℕ → Bool → Option Source → Out
function_gave s id gave None = quiet s
function_gave s id true (Some x) = quiet (record s { sources = renewed id s.clock s.sources })
function_gave s id false (Some x) = quiet (remove_source s x)

-- what the function gave
abbrev pub gave_true : State.State → List Operand → Bool
gave_true s [] = false
gave_true s (o ∷ os) = if is_false (value_of s o) then false else true

-- A source whose function gave true stays, and a timeout is due again after its interval; false removes it.
abbrev pub end_function : State.State → ℕ → List Operand → Out
end_function s id around = function_gave (record s { frame = record s.frame { operands = around } }) id (gave_true s s.frame.operands) (source_with id s.sources)

-- the source goes, and then the activation leaves the slot of active methods, and so ends
abbrev pub end_completion : Core → State.State → ℕ → ℕ → List Operand → Out
end_completion core s id t around =
    with_activation core s t (λ first m number slot waiter.
    quiet (next (GiveUp slot ∷ []) (record s { sources = without_source id s.sources; frame = record s.frame { operands = around } })))

-- The calls

-- a timeout after so many milliseconds
abbrev pub add_timeout : State.State → Value → Operand → Out
add_timeout s (Number (pos n)) f = add_source s (Some n) (later s.clock n) f
add_timeout s v f = stuck s

-- the source with an id is removed
abbrev pub remove_with : State.State → Value → Out
remove_with s (Number z) = remove_first s (first_with z s.sources)
remove_with s v = stuck s

-- a call of the main loop, with its operands
abbrev pub loop_call : Core → State.State → LoopCall → List Operand → Out
loop_call core s loop.IdleAdd (f ∷ []) = add_source s None 0 f
loop_call core s loop.TimeoutAdd (ms ∷ f ∷ []) = add_timeout s (value_of s ms) f
loop_call core s loop.SourceRemove (id ∷ []) = remove_with s (value_of s id)
loop_call core s loop.New [] = give_made s LoopOf []
loop_call core s loop.Run (o ∷ []) = run s (value_of s o)
loop_call core s loop.Quit (o ∷ []) = quit s (value_of s o)
loop_call core s c os = stuck s
