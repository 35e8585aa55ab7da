-- What code does to a run, beside what the meaning says of it.
use Rattle.std.specs.Prelude.{◌≡◌, ℕ, Bool, List, Option, Some, None, Err}
use Rattle.std.specs.List.{All}
use Rattle.vg_base.specs.declared.event.Fault.{Fault}
use Rattle.vg_base.specs.declared.event.Fault.TheVariants.{Refused, Memory}
use Rattle.vg_base.specs.declared.event.UndefKind.{UndefKind}
use Rattle.c_tree.specs.Env.{Env, cells_of}
use Rattle.c_meaning.specs.State
use Rattle.c_meaning.specs.Blocks.{undefined}
use Rattle.c_meaning.specs.Values.{Program}
use Rattle.c_code.specs.declared.program.Call.{Call}
use Rattle.c_code.specs.declared.program.Statement.{Statement}
use Rattle.c_code.specs.declared.program.Statement.TheVariants as statement
use Rattle.c_code.specs.declared.program.Body.{Body}
use Rattle.c_code.specs.declared.program.Routine.{Routine}
use Rattle.c_code.specs.Resolved.{Tables}
use Rattle.c_code.specs.Statements.{routine_codes}
use Rattle.c_code.specs.Values.{place_seen}
use Rattle.c_code.specs.declared.value.Place.{Place}
use Rattle.c_code.specs.declared.program.Taken.{Taken}
use Rattle.vg_base.specs.declared.event.UndefKind.TheVariants as undef
use Rattle.c_meaning.specs.Blocks.{Answer, bind}
use Rattle.c_meaning.specs.Numbers.{converted}
use Rattle.c_code.specs.Machine.{fitting}
use Rattle.c_code.specs.Machine.{call, do_first, do_item, do_next, do_silent, first_is_silent, perform, settled, step}
use Rattle.c_meaning.specs.Steps.{enough, keep}
use Rattle.cell_heap.specs.States.{heap_of}
use Rattle.c_run_state.specs.declared.state.Frame.{Frame}
use Rattle.c_run_state.specs.declared.state.Run.{Run}
use Rattle.c_run_state.specs.declared.state.Work.{Work}
use Rattle.c_run_state.specs.Shows.{Shows, IsSized, frame_seen, item_seen}

-- 1. Code whose cells are known

-- what a statement stores goes to a place of as many cells as its kind has
abbrev pub IsSizedStatement : Env → Statement → Type 0
IsSizedStatement env (statement.Store a t c) = t.cells ≡ cells_of env t.kind
IsSizedStatement env st = Unit {0}

abbrev pub IsSizedBody : Env → Option Body → Type 0
IsSizedBody env None = Unit {0}
IsSizedBody env (Some b) = All (IsSizedStatement env) b.statements

abbrev pub AreSized : Env → List Routine → Type 0
AreSized env rs = All (λ (r : Routine). IsSizedBody env r.body) rs

-- THE CODE OF A UNIT'S FUNCTIONS knows its cells
abbrev pub CodeIsSized : Type 0
CodeIsSized = (env : Env) (t : Tables) → AreSized env (routine_codes env t)

-- 2. Changes

-- a change of each run that is shown and goes on
abbrev pub Goes : (State.State → State.State) → Run → Run → Type 0
Goes change old new = (env : Env) (s : State.State) → s.ended ≡ None → Shows env old s → Shows env new (change s)

-- a refusal ends the run; want of memory is no answer
abbrev pub Refusing : Fault UndefKind → Run → Run → Type 0
Refusing (Refused u) old new = Goes (λ s. undefined s u) old new
Refusing Memory old new = ⊥

-- A STATEMENT IS PERFORMED
abbrev pub Performs : List Routine → Frame → Statement → Run → Run → Type 0
Performs rs f st old new = (env : Env) (s : State.State) → IsSizedStatement env st → s.ended ≡ None → Shows env old s → Shows env new (perform rs s (frame_seen f) st)

-- A CALL IS MADE: what it needs is evaluated over the blocks as they are, in a frame with that block
abbrev pub Calls : List Routine → ℕ → Call → Run → Run → Type 0
Calls rs block made old new = Goes (λ s. call rs (heap_of s) block s made) old new

-- what was given, as a place takes it
abbrev pub kept : Taken → Option State.Value → Answer State.Value
kept t None = Err undef.Unset
kept t (Some v) = bind (fitting t v) (converted t.kind)

-- WHAT WAS GIVEN GOES TO A PLACE of so many cells
abbrev pub Keeps : Place → Taken → Run → Run → Type 0
Keeps p t old new = (env : Env) (s : State.State) → t.cells ≡ cells_of env t.kind → s.ended ≡ None
    → Shows env old s → Shows env new (keep env s (place_seen p) t.kind s.given)

-- an item of the work is done, in a unit with these functions
abbrev pub Does : List Routine → Work → Run → Run → Type 0
Does rs w old new = (env : Env) (p : Program) (s : State.State) → p.env ≡ env → AreSized env rs → IsSized env w → s.ended ≡ None
    → Shows env old s → Shows env new (do_item rs p s (item_seen w))

abbrev pub DoesSilently : List Routine → Work → Run → Run → Type 0
DoesSilently rs w old new = (env : Env) (p : Program) (s : State.State) → p.env ≡ env → IsSized env w → s.ended ≡ None
    → Shows env old s → Shows env new (do_silent rs p s (item_seen w))

-- the first item, if there is one, is done, which takes no step
abbrev pub DoesFirst : List Routine → Run → Run → Type 0
DoesFirst rs old new = (env : Env) (p : Program) (s : State.State) → p.env ≡ env → s.ended ≡ None → Shows env old s → Shows env new (do_first rs p s s.work)

-- the first item, if there is one, is done
abbrev pub DoesNext : List Routine → Run → Run → Type 0
DoesNext rs old new = (env : Env) (p : Program) (s : State.State) → p.env ≡ env → AreSized env rs → s.ended ≡ None
    → Shows env old s → Shows env new (do_next rs p s s.work)

-- whether the first item takes no step
abbrev pub TellsSilence : List Routine → Run → Bool → Type 0
TellsSilence rs run answer = (env : Env) (s : State.State) → Shows env run s → answer ≡ first_is_silent rs s.ended s.work

-- so many items at most that take no step are done
abbrev pub Settles : List Routine → ℕ → Run → Run → Type 0
Settles rs n old new = (env : Env) (p : Program) (s : State.State) → p.env ≡ env → Shows env old s → Shows env new (settled rs p n s)

-- how many items can be in front that take no step
abbrev pub TellsEnough : Run → ℕ → Type 0
TellsEnough run n = (env : Env) (s : State.State) → Shows env run s → n ≡ enough s

-- A STEP IS MADE
abbrev pub MakesStep : List Routine → Run → Run → Type 0
MakesStep rs old new = (env : Env) (p : Program) (s : State.State) → p.env ≡ env → AreSized env rs → s.ended ≡ None → Shows env old s → Shows env new (step rs p s)
