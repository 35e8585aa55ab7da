-- One step: an executed statement, an entry into a function, or a call that a function of the library asks for.
use Rattle.std.specs.Prelude.{ℕ, zero, suc, ◌+◌, ◌-◌, ◌*◌, ◌==◌, ◌&&◌, Bool, true, false, if◌then◌else◌, ℤ, int_le, List, [], ◌∷◌, ◌++◌, length, Option, Some, None, Ok, Err, slice_get}
use Rattle.std.specs.Str.{bytes_eq}
use Rattle.vg_base.specs.declared.event.CEnd.{CEnd}
use Rattle.vg_base.specs.declared.event.CEnd.TheVariants as «end»
use Rattle.vg_base.specs.declared.event.UndefKind.TheVariants as undef
use Rattle.c_tree.specs.declared.names.CType.{CType}
use Rattle.c_tree.specs.declared.code.Expr.{Expr}
use Rattle.c_tree.specs.declared.code.Call.{Call}
use Rattle.c_tree.specs.declared.code.Callee.{Callee}
use Rattle.c_tree.specs.declared.code.Callee.TheVariants as callee
use Rattle.c_tree.specs.declared.code.Case.{Case}
use Rattle.c_tree.specs.declared.kinds.KindBase.{KindBase}
use Rattle.c_tree.specs.declared.kinds.KindBase.TheVariants as base
use Rattle.c_tree.specs.declared.kinds.Kind.{Kind}
use Rattle.c_tree.specs.Kinds.{widened, is_integer, is_struct, is_void}
use Rattle.c_tree.specs.Constants.{wrap, signed_value}
use Rattle.c_tree.specs.Library.{Takes, Field, Row, RowParameter, Number, Any, Pairs}
use Rattle.c_tree.specs.Env.{Env, cells_of, signature_at, fields_of}
use Rattle.c_meaning.specs.declared.cell.Cell.{Cell}
use Rattle.c_meaning.specs.declared.cell.Cell.TheVariants.{Ptr, Func, Null, Unset}
use Rattle.c_meaning.specs.State
use Rattle.c_meaning.specs.State.{Place, Value, Scalar, Struct, Scope, Act, Statement, Body, Routine, Assign, CallOf, Store, Test, TestGoto, Goto, Label, Switch, Return, Open, Pass, Frame, Item, Run, Enter, Ask, Keep, Finish, Free, SetProperty, Constructed, DropHandlers, Emit, Release, Disconnect, Turn, Gave, Answer as Answers}
use Rattle.c_meaning.specs.Layout.{known, kind}
use Rattle.c_meaning.specs.Blocks.{Answer, bind, on, stop, undefined, set_cells, make, free, next_block, unset}
use Rattle.c_meaning.specs.Numbers.{as_kind, number_of, converted, scalar, is_false}
use Rattle.c_meaning.specs.Values.{Program, Here, here, env_at, value_of, place_of, kind_at, cell_at}
use Rattle.c_meaning.specs.Texts.{give}
use Rattle.c_meaning.specs.BlockRows.{Does, TypeArgument, stuck}
use Rattle.c_meaning.specs.TypeRows.{push}
use Rattle.c_meaning.specs.Counts.{release, drop_handlers}
use Rattle.c_meaning.specs.ObjectRows.{set_property, construct}
use Rattle.c_meaning.specs.SignalRows.{emit, disconnect}
use Rattle.c_meaning.specs.LoopRows.{take_turn, gave, end_dispatch}
use Rattle.c_meaning.specs.Rows.{does, declared_row}

-- 1. Storing

abbrev pub cells_in : Value → List Cell
cells_in (Scalar c) = c ∷ []
cells_in (Struct cs) = cs

-- a value goes to a place
abbrev pub store : State.State → Place → Value → State.State
store s p v = set_cells s p (cells_in v)

abbrev pub is_same_sort : Bool → ℕ → Value → Bool
is_same_sort struct n (Scalar c) = if struct then false else true
is_same_sort struct n (Struct cs) = struct && length cs == n

-- a struct goes to a struct of the same cells, and a cell to a cell
abbrev pub fitting : Env → Kind → Value → Answer Value
fitting env k v = if is_same_sort (is_struct k) (cells_of env k) v then Ok v else Err undef.Kind

-- 2. Calls

abbrev pub takes_by : Env → KindBase → Option Takes
takes_by env (base.Function n) = signature_at env.signatures n
takes_by env b = None

abbrev pub parameters_of : Option Takes → List (Option Kind)
parameters_of None = []
parameters_of (Some t) = t.parameters

-- arguments, from the left, each as its parameter's kind
abbrev pub arguments : Here → List (Option Kind) → List Expr → Answer (List Value)
arguments c ks [] = Ok []
arguments c [] (e ∷ es) = bind (value_of c e) (λ v. bind (arguments c [] es) (λ vs. Ok (v ∷ vs)))
arguments c (k ∷ ks) (e ∷ es) = bind (bind (value_of c e) (converted (known k))) (λ v. bind (arguments c ks es) (λ vs. Ok (v ∷ vs)))

-- a number that `..` takes is widened
abbrev pub free_cell : Here → Expr → Answer Cell
free_cell c e = if is_integer (kind_at c e) then bind (cell_at c e) (as_kind (widened (kind_at c e))) else cell_at c e

abbrev pub free_cells : Here → List Expr → Answer (List Cell)
free_cells c [] = Ok []
free_cells c (e ∷ es) = bind (free_cell c e) (λ x. bind (free_cells c es) (λ xs. Ok (x ∷ xs)))

abbrev pub row_cell : Here → RowParameter → Expr → Answer Cell
row_cell c (Number k) e = bind (cell_at c e) (as_kind k)
row_cell c p e = cell_at c e

-- the arguments of a function of the library, from the left
abbrev pub row_cells : Here → List RowParameter → List Expr → Answer (List Cell)
row_cells c [] es = Ok []
row_cells c (p ∷ ps) [] = Ok []
row_cells c (Any ∷ ps) (e ∷ es) = free_cells c (e ∷ es)
row_cells c (Pairs ∷ ps) (e ∷ es) = free_cells c (e ∷ es)
row_cells c (p ∷ ps) (e ∷ es) = bind (row_cell c p e) (λ x. bind (row_cells c ps es) (λ xs. Ok (x ∷ xs)))

abbrev pub first_name : Option (List Field) → List ℕ
first_name None = []
first_name (Some []) = []
first_name (Some (f ∷ fs)) = f.name

-- the name of the first field of a struct
abbrev pub first_of : Env → KindBase → List ℕ
first_of env (base.Struct n) = first_name (fields_of env n)
first_of env b = []

-- a type before the arguments
abbrev pub type_argument : Env → Option CType → TypeArgument
type_argument env None = record { cells = 0; first = [] }
type_argument env (Some t) = record { cells = cells_of env (kind env t); first = if is_struct (kind env t) then first_of env (kind env t).base else [] }

abbrev pub call_row : Here → State.State → Call → Option Row → Option Does → State.State
call_row c s x (Some r) (Some d) = on s (row_cells c r.parameters x.arguments) (d s (type_argument (env_at c) x.type_argument))
call_row c s x r d = stuck s

abbrev pub enter_body : State.State → ℕ → Option Body → List Value → State.State
enter_body s n None vs = undefined s undef.Func
enter_body s n (Some b) vs = if length b.parameters == length vs then push (Enter n vs ∷ []) s else undefined s undef.Func

abbrev pub enter_routine : State.State → ℕ → Option Routine → List Value → State.State
enter_routine s n None vs = undefined s undef.Func
enter_routine s n (Some r) vs = enter_body s n r.body vs

-- a call of a function that is defined, with as many parameters; the entry is a step of its own
abbrev pub call_cell : Program → State.State → List Value → Cell → State.State
call_cell p s vs (Func n) = enter_routine s n (slice_get p.routines n) vs
call_cell p s vs Null = undefined s undef.Null
call_cell p s vs Unset = undefined s undef.Unset
call_cell p s vs (Ptr b at) = undefined s undef.Func
call_cell p s vs c = undefined s undef.Kind

abbrev pub call_by : Here → State.State → Call → Callee → State.State
call_by c s x (callee.Row n) = call_row c s x (declared_row n.text) (does n.text)
call_by c s x (callee.Value e) =
    on s (cell_at c e) (λ f. on s (arguments c (parameters_of (takes_by (env_at c) (kind_at c e).base)) x.arguments) (λ vs. call_cell c.program s vs f))

-- what is called, and then the arguments, are evaluated
abbrev pub call : Here → State.State → Call → State.State
call c s x = call_by c s x x.callee

-- 3. Statements

-- the frame goes on at a place of its code
abbrev pub at_place : State.State → Frame → ℕ → State.State
at_place s f n = push (Run (record f { at = n }) ∷ []) s

abbrev pub onward : State.State → Frame → State.State
onward s f = at_place s f (suc f.at)

abbrev pub is_label : List ℕ → Act → Bool
is_label x (Label y) = bytes_eq y x
is_label x a = false

-- the place of a label, counted from a number on
abbrev pub label_place : ℕ → List ℕ → List Statement → ℕ
label_place n x [] = n
label_place n x (t ∷ ts) = if is_label x t.act then n else label_place (suc n) x ts

abbrev pub jump : State.State → Frame → List Statement → List ℕ → State.State
jump s f code x = at_place s f (label_place 0 x code)

-- two numbers are equal
abbrev pub same_number : ℤ → ℤ → Bool
same_number a b = int_le a b && int_le b a

-- the first case of a number of a kind decides
abbrev pub case_label : Kind → ℤ → List Case → List ℕ → List ℕ
case_label k z [] default = default
case_label k z (x ∷ xs) default = if same_number (wrap k (signed_value x.number)) z then x.label.text else case_label k z xs default

abbrev pub leave : State.State → Frame → Option Value → State.State
leave s f v = record (free s f.block) { given = v }

-- a value is given in the kind of the result, and the frame goes
abbrev pub return_value : Here → State.State → Frame → Kind → Option Expr → State.State
return_value c s f k None = leave s f None
return_value c s f k (Some e) = on s (bind (value_of c e) (converted k)) (λ v. leave s f (Some v))

-- A STATEMENT of a frame, whose function gives a kind and has this code. The rest of the work is behind it.
abbrev pub execute : Here → State.State → Frame → Kind → List Statement → Act → State.State
execute c s f r code (Assign a b) = on s (place_of c a) (λ p. on s (bind (value_of c b) (converted (kind_at c a))) (store (onward s f) p))
execute c s f r code (CallOf x) = call c (onward s f) x
execute c s f r code (Store a x) = on s (place_of c a) (λ p. call c (push (Keep p (kind_at c a) ∷ []) (onward s f)) x)
execute c s f r code (Test a n) = on s (cell_at c a) (λ x. if is_false x then at_place s f (suc f.at + n) else onward s f)
execute c s f r code (TestGoto a x) = on s (cell_at c a) (λ y. if is_false y then onward s f else jump s f code x)
execute c s f r code (Goto x) = jump s f code x
execute c s f r code (Switch a cases x) = on s (bind (cell_at c a) number_of) (λ z. jump s f code (case_label (widened (kind_at c a)) z cases x))
execute c s f r code (Return e) = return_value c s f r e
execute c s f r code a = onward s f

-- 4. Entries

-- an argument goes into a parameter as it is; a struct and a cell do not fit each other
abbrev pub argument_cells : Env → List Kind → List Value → Answer (List Cell)
argument_cells env (k ∷ ks) (v ∷ vs) = bind (fitting env k v) (λ w. bind (argument_cells env ks vs) (λ cs. Ok (cells_in w ++ cs)))
argument_cells env ks vs = Ok []

-- a frame's block has the arguments, and unset locals behind them
abbrev pub enter_with : State.State → ℕ → ℕ → List Cell → State.State
enter_with s n cells cs = push (Run (record { routine = n; at = 0; block = next_block s }) ∷ []) (make s (cs ++ unset (cells - length cs)))

abbrev pub enter_frame : Program → State.State → ℕ → List Value → Option Body → State.State
enter_frame p s n vs None = undefined s undef.Func
enter_frame p s n vs (Some b) = on s (argument_cells p.env b.parameters vs) (enter_with s n b.cells)

abbrev pub body_of : Option Routine → Option Body
body_of None = None
body_of (Some r) = r.body

abbrev pub scalars : List Cell → List Value
scalars [] = []
scalars (c ∷ cs) = Scalar c ∷ scalars cs

-- 5. What takes no step

-- what stands at a frame's place, and the kind that its function gives
pub record At : Type 0 where
  pub result : Kind
  pub code : List Statement
  pub statement : Option Statement

abbrev pub code_in : Option Body → List Statement
code_in None = []
code_in (Some b) = b.code

abbrev pub result_in : Option Routine → Kind
result_in None = known None
result_in (Some r) = r.result

abbrev pub at_frame : Program → Frame → At
at_frame p f =
    let r : Option Routine = slice_get p.routines f.routine in
    record { result = result_in r; code = code_in (body_of r); statement = slice_get (code_in (body_of r)) f.at }

abbrev pub is_passed : Option Statement → Bool
is_passed None = true
is_passed (Some t) = is_pass t.act
  where
    is_pass : Act → Bool
    is_pass (Pass n) = true
    is_pass a = false

-- calls, entries and statements are steps; all else is not
abbrev pub is_silent : Program → Item → Bool
is_silent p (Run f) = is_passed (at_frame p f).statement
is_silent p (Enter n vs) = false
is_silent p (Ask f cs) = false
is_silent p i = true

-- at the end of a body its frame goes; a function with a result must have returned
abbrev pub end_body : State.State → Frame → Kind → State.State
end_body s f k = if is_void k then leave s f None else undefined s undef.Unset

abbrev pub pass_by : State.State → Frame → Kind → Option Statement → State.State
pass_by s f k None = end_body s f k
pass_by s f k (Some t) = over t.act
  where
    over : Act → State.State
    over (Pass n) = at_place s f (suc f.at + n)
    over a = s

-- what was given goes to a place of a kind
abbrev pub keep : Env → State.State → Place → Kind → Option Value → State.State
keep env s p k None = undefined s undef.Unset
keep env s p k (Some v) = on s (bind (fitting env k v) (converted k)) (store s p)

-- the run ends with the number that `main` gave
abbrev pub finish : State.State → Option Value → State.State
finish s None = undefined s undef.Unset
finish s (Some v) = on s (bind (scalar v) number_of) (λ z. stop s («end».Ended z))

-- an item that is no step is done; it is off the work already
abbrev pub do_silent : Program → State.State → Item → State.State
do_silent p s (Run f) = let a : At = at_frame p f in pass_by s f a.result a.statement
do_silent p s (Keep q k) = keep p.env s q k s.given
do_silent p s Finish = finish s s.given
do_silent p s (Answers c) = give s c
do_silent p s (Free b) = free s b
do_silent p s (SetProperty o q v) = set_property s o q v
do_silent p s (Constructed o) = construct s o
do_silent p s (DropHandlers b) = drop_handlers s b
do_silent p s (Emit e phase) = emit s e phase
do_silent p s (Release b) = release s b
do_silent p s (Disconnect ids n) = disconnect s ids n
do_silent p s (Turn b) = take_turn s b
do_silent p s (Gave id) = gave s id
do_silent p s (State.Dispatched b) = end_dispatch s b
do_silent p s i = s

abbrev pub first_is_silent : Program → Option CEnd → List Item → Bool
first_is_silent p (Some e) is = false
first_is_silent p None [] = false
first_is_silent p None (i ∷ is) = is_silent p i

abbrev pub do_first : Program → State.State → List Item → State.State
do_first p s [] = s
do_first p s (i ∷ is) = do_silent p (record s { work = is }) i

-- all items in front that are no steps are done, at most so many
abbrev pub settled : Program → ℕ → State.State → State.State
settled p zero s = s
settled p (suc n) s = elim (first_is_silent p s.ended s.work) as (λ b. State.State) [ true ↦ settled p n (do_first p s s.work) | false ↦ s ]

-- As many as there can be: an item goes for good behind at most 64 ends of blocks, or takes a handler or a source with it.
abbrev pub enough : State.State → ℕ
enough s = 128 * (1 + length s.work + length s.handlers + length s.sources)

-- 6. Steps

abbrev pub run_statement : Program → State.State → Frame → At → Option Statement → State.State
run_statement p s f a None = s
run_statement p s f a (Some t) = execute (here p s t.scope f.block) s f a.result a.code t.act

abbrev pub do_item : Program → State.State → Item → State.State
do_item p s (Run f) = let a : At = at_frame p f in run_statement p s f a a.statement
do_item p s (Enter n vs) = enter_frame p s n vs (body_of (slice_get p.routines n))
do_item p s (Ask f cs) = call_cell p s (scalars cs) f
do_item p s i = do_silent p s i

abbrev pub do_next : Program → State.State → List Item → State.State
do_next p s [] = s
do_next p s (i ∷ is) = do_item p (record s { work = is }) i

-- what is behind a step that needs none of its own
abbrev pub settle : Program → State.State → State.State
settle p s = settled p (enough s) s

-- A STEP of a unit: the first item of the work, and then what takes no step
abbrev pub step : Program → State.State → State.State
step p s = settle p (do_next p (record s { said = [] }) s.work)
