-- A step of a unit by the code of its functions.
use Rattle.std.specs.Prelude.{ℕ, zero, suc, ◌+◌, ◌==◌, Bool, true, false, if◌then◌else◌, ℤ, pos, neg_ℤ, List, [], ◌∷◌, ◌++◌, length, Option, Some, None, Ok, Err, slice_get}
use Rattle.vg_base.specs.declared.event.CEnd.{CEnd}
use Rattle.vg_base.specs.declared.event.UndefKind.TheVariants as undef
use Rattle.c_tree.specs.Kinds.{is_struct}
use Rattle.c_meaning.specs.declared.cell.Cell.{Cell}
use Rattle.c_meaning.specs.declared.cell.Cell.TheVariants.{Ptr, Func, Null, Unset}
use Rattle.c_meaning.specs.State
use Rattle.c_meaning.specs.State.{Value, Frame, Item, Run, Enter, Ask, Keep}
use Rattle.c_meaning.specs.Blocks.{Answer, bind, on, undefined}
use Rattle.c_meaning.specs.Numbers.{number_of, is_false}
use Rattle.c_meaning.specs.BlockRows.{stuck}
use Rattle.c_meaning.specs.TypeRows.{push}
use Rattle.c_meaning.specs.Values.{Program}
use Rattle.c_meaning.specs.Steps.{store, onward, at_place, leave, same_number, is_same_sort, cells_in, enter_with, scalars, enough}
use Rattle.c_meaning.specs.Steps as steps
use Rattle.cell_heap.specs.States.{heap_of}
use Rattle.c_code.specs.declared.code.Code.{Code}
use Rattle.c_code.specs.declared.program.Callee.{Callee}
use Rattle.c_code.specs.declared.program.Callee.TheVariants as target
use Rattle.c_code.specs.declared.program.Call.{Call}
use Rattle.c_code.specs.declared.program.Taken.{Taken}
use Rattle.c_code.specs.declared.program.Figure.{Figure}
use Rattle.c_code.specs.declared.program.Case.{Case}
use Rattle.c_code.specs.declared.program.Statement.{Statement}
use Rattle.c_code.specs.declared.program.Statement.TheVariants as statement
use Rattle.c_code.specs.declared.program.Body.{Body}
use Rattle.c_code.specs.declared.program.Routine.{Routine}
use Rattle.c_code.specs.Looks.{Heap}
use Rattle.c_code.specs.Coded.{value_of, place_of, cell_of}
use Rattle.c_code.specs.Statements.{row_of, first_of}

-- 1. Arguments, from the left

abbrev pub values_of : List Code → Heap → ℕ → Answer (List Value)
values_of [] heap frame = Ok []
values_of (c ∷ cs) heap frame = bind (value_of c heap frame) (λ v. bind (values_of cs heap frame) (λ vs. Ok (v ∷ vs)))

abbrev pub cells_of : List Code → Heap → ℕ → Answer (List Cell)
cells_of [] heap frame = Ok []
cells_of (c ∷ cs) heap frame = bind (cell_of c heap frame) (λ x. bind (cells_of cs heap frame) (λ xs. Ok (x ∷ xs)))

-- 2. Calls

abbrev pub enter_body : State.State → ℕ → Option Body → List Value → State.State
enter_body s n None vs = undefined s undef.Func
enter_body s n (Some b) vs = if length b.parameters == length vs then push (Enter n vs ∷ []) s else undefined s undef.Func

abbrev pub enter_routine : State.State → ℕ → Option Routine → List Value → State.State
enter_routine s n None vs = undefined s undef.Func
enter_routine s n (Some r) vs = enter_body s n r.body vs

-- a call of a function that is defined, with as many parameters; the entry is a step of its own
abbrev pub call_cell : List Routine → State.State → List Value → Cell → State.State
call_cell rs s vs (Func n) = enter_routine s n (slice_get rs n) vs
call_cell rs s vs Null = undefined s undef.Null
call_cell rs s vs Unset = undefined s undef.Unset
call_cell rs s vs (Ptr b at) = undefined s undef.Func
call_cell rs s vs c = undefined s undef.Kind

abbrev pub call_by : List Routine → Heap → ℕ → State.State → List Code → Callee → State.State
call_by rs heap frame s args (target.Value e) = on s (cell_of e heap frame) (λ f. on s (values_of args heap frame) (λ vs. call_cell rs s vs f))
call_by rs heap frame s args (target.Library f t) = on s (cells_of args heap frame) (row_of f s (record { cells = t.cells; first = first_of t.sliced }))
call_by rs heap frame s args target.Nothing = stuck s

-- what is called and its arguments are evaluated over a heap and a frame, before the state changes
abbrev pub call : List Routine → Heap → ℕ → State.State → Call → State.State
call rs heap frame s c = call_by rs heap frame s c.arguments c.callee

-- 3. Statements

abbrev pub number : Figure → ℤ
number f = if f.is_negative then neg_ℤ (pos f.size) else pos f.size

-- the first case of a number decides
abbrev pub case_target : ℤ → List Case → ℕ → ℕ
case_target z [] default = default
case_target z (c ∷ cs) default = if same_number (number c.number) z then c.target else case_target z cs default

abbrev pub return_value : State.State → Frame → Option Code → State.State
return_value s f None = leave s f None
return_value s f (Some e) = on s (value_of e (heap_of s) f.block) (λ v. leave s f (Some v))

-- A STATEMENT of a frame. The rest of the work is behind it.
abbrev pub perform : List Routine → State.State → Frame → Statement → State.State
perform rs s f (statement.Assign a b) = on s (place_of a (heap_of s) f.block) (λ p. on s (value_of b (heap_of s) f.block) (store (onward s f) p))
perform rs s f (statement.Call c) = call rs (heap_of s) f.block (onward s f) c
perform rs s f (statement.Store a t c) = on s (place_of a (heap_of s) f.block) (λ p. call rs (heap_of s) f.block (push (Keep p t.kind ∷ []) (onward s f)) c)
perform rs s f (statement.Test a n) = on s (cell_of a (heap_of s) f.block) (λ x. if is_false x then at_place s f (suc f.at + n) else onward s f)
perform rs s f (statement.TestJump a n) = on s (cell_of a (heap_of s) f.block) (λ x. if is_false x then onward s f else at_place s f n)
perform rs s f (statement.Jump n) = at_place s f n
perform rs s f (statement.Switch a cs n) = on s (bind (cell_of a (heap_of s) f.block) number_of) (λ z. at_place s f (case_target z cs n))
perform rs s f (statement.Return e) = return_value s f e
perform rs s f statement.Onward = onward s f
perform rs s f (statement.Pass n) = onward s f

-- 4. Entries

-- a struct goes to a struct of the same cells, and a cell to a cell
abbrev pub fitting : Taken → Value → Answer Value
fitting t v = if is_same_sort (is_struct t.kind) t.cells v then Ok v else Err undef.Kind

abbrev pub argument_cells : List Taken → List Value → Answer (List Cell)
argument_cells (t ∷ ts) (v ∷ vs) = bind (fitting t v) (λ w. bind (argument_cells ts vs) (λ cs. Ok (cells_in w ++ cs)))
argument_cells ts vs = Ok []

abbrev pub enter_frame : State.State → ℕ → List Value → Option Body → State.State
enter_frame s n vs None = undefined s undef.Func
enter_frame s n vs (Some b) = on s (argument_cells b.parameters vs) (enter_with s n b.cells)

abbrev pub body_of : Option Routine → Option Body
body_of None = None
body_of (Some r) = r.body

-- 5. What takes no step

abbrev pub statements_of : Option Body → List Statement
statements_of None = []
statements_of (Some b) = b.statements

-- the statement at a frame's place
abbrev pub statement_at : List Routine → Frame → Option Statement
statement_at rs f = slice_get (statements_of (body_of (slice_get rs f.routine))) f.at

-- whether a function gives nothing
abbrev pub gives_nothing : Option Routine → Bool
gives_nothing None = true
gives_nothing (Some r) = r.is_void

abbrev pub is_passed : Option Statement → Bool
is_passed None = true
is_passed (Some (statement.Pass n)) = true
is_passed (Some t) = false

-- calls, entries and statements are steps; all else is not
abbrev pub is_silent : List Routine → Item → Bool
is_silent rs (Run f) = is_passed (statement_at rs f)
is_silent rs (Enter n vs) = false
is_silent rs (Ask f cs) = false
is_silent rs i = true

-- at the end of a body its frame goes; a function with a result must have returned
abbrev pub end_body : State.State → Frame → Bool → State.State
end_body s f true = leave s f None
end_body s f false = undefined s undef.Unset

abbrev pub pass_by : State.State → Frame → Bool → Option Statement → State.State
pass_by s f void None = end_body s f void
pass_by s f void (Some (statement.Pass n)) = at_place s f (suc f.at + n)
pass_by s f void (Some t) = s

-- an item that is no step is done; it is off the work already
abbrev pub do_silent : List Routine → Program → State.State → Item → State.State
do_silent rs p s (Run f) = pass_by s f (gives_nothing (slice_get rs f.routine)) (statement_at rs f)
do_silent rs p s i = steps.do_silent p s i

abbrev pub first_is_silent : List Routine → Option CEnd → List Item → Bool
first_is_silent rs (Some e) is = false
first_is_silent rs None [] = false
first_is_silent rs None (i ∷ is) = is_silent rs i

abbrev pub do_first : List Routine → Program → State.State → List Item → State.State
do_first rs p s [] = s
do_first rs p s (i ∷ is) = do_silent rs p (record s { work = is }) i

-- all items in front that are no steps are done, at most so many
abbrev pub settled : List Routine → Program → ℕ → State.State → State.State
settled rs p zero s = s
settled rs p (suc n) s = elim (first_is_silent rs s.ended s.work) as (λ b. State.State) [ true ↦ settled rs p n (do_first rs p s s.work) | false ↦ s ]

-- 6. Steps

abbrev pub perform_if : List Routine → State.State → Frame → Option Statement → State.State
perform_if rs s f None = s
perform_if rs s f (Some t) = perform rs s f t

abbrev pub do_item : List Routine → Program → State.State → Item → State.State
do_item rs p s (Run f) = perform_if rs s f (statement_at rs f)
do_item rs p s (Enter n vs) = enter_frame s n vs (body_of (slice_get rs n))
do_item rs p s (Ask f cs) = call_cell rs s (scalars cs) f
do_item rs p s i = do_silent rs p s i

abbrev pub do_next : List Routine → Program → State.State → List Item → State.State
do_next rs p s [] = s
do_next rs p s (i ∷ is) = do_item rs p (record s { work = is }) i

-- A STEP by the code of functions: the first item of the work, and then what takes no step
abbrev pub step : List Routine → Program → State.State → State.State
step rs p s = let t : State.State = do_next rs p (record s { said = [] }) s.work in settled rs p (enough t) t
