-- The code of statements: kinds, cells and labels are known before the run.
use Rattle.std.specs.Prelude.{ℕ, suc, Bool, true, false, if◌then◌else◌, ℤ, pos, negsuc, List, [], ◌∷◌, map, codes, Option, Some, None}
use Rattle.std.specs.Str.{bytes_eq}
use Rattle.std.specs.Option.{is_some}
use Rattle.c_tree.specs.declared.names.CType.{CType}
use Rattle.c_tree.specs.declared.code.Expr.{Expr}
use Rattle.c_tree.specs.declared.code.Call.{Call as CCall}
use Rattle.c_tree.specs.declared.code.Callee.{Callee as CCallee}
use Rattle.c_tree.specs.declared.code.Callee.TheVariants as callee
use Rattle.c_tree.specs.declared.code.Case.{Case as CCase}
use Rattle.c_tree.specs.declared.kinds.Kind.{Kind}
use Rattle.c_tree.specs.Kinds.{widened, is_integer, is_void}
use Rattle.c_tree.specs.Constants.{wrap, signed_value}
use Rattle.c_tree.specs.Library.{Row, RowParameter, Number, Any, Pairs}
use Rattle.c_tree.specs.Env.{Env, cells_of}
use Rattle.vg_base.specs.declared.event.Stream.TheVariants as stream
use Rattle.c_meaning.specs.State as meaning
use Rattle.c_meaning.specs.Layout.{known}
use Rattle.c_meaning.specs.BlockRows as rows
use Rattle.c_meaning.specs.Rows.{declared_row}
use Rattle.c_meaning.specs.Steps as steps
use Rattle.c_code.specs.declared.code.Code.{Code}
use Rattle.c_code.specs.declared.program.LibraryFunction.{LibraryFunction}
use Rattle.c_code.specs.declared.program.LibraryFunction.TheVariants as library
use Rattle.c_code.specs.declared.program.Sliced.{Sliced}
use Rattle.c_code.specs.declared.program.Sliced.TheVariants as sliced
use Rattle.c_code.specs.declared.program.TypeArgument.{TypeArgument}
use Rattle.c_code.specs.declared.program.Callee.TheVariants as target
use Rattle.c_code.specs.declared.program.Call.{Call}
use Rattle.c_code.specs.declared.program.Taken.{Taken}
use Rattle.c_code.specs.declared.program.Figure.{Figure}
use Rattle.c_code.specs.declared.program.Case.{Case}
use Rattle.c_code.specs.declared.program.Statement.{Statement}
use Rattle.c_code.specs.declared.program.Statement.TheVariants as statement
use Rattle.c_code.specs.declared.program.Body.{Body}
use Rattle.c_code.specs.declared.program.Routine.{Routine}
use Rattle.c_code.specs.Resolved.{Tables, Bearings, env_in, value_code, place_code, kind_at, in_kind}

-- 1. The library

-- a function of the library: its name, and what it does
pub record Known : Type 0 where
  pub function : LibraryFunction
  pub name : List ℕ

abbrev pub named : LibraryFunction → List ℕ → Known
named f x = record { function = f; name = x }

abbrev pub functions : List Known
functions =
    named library.Print (codes "g_print")
    ∷ named library.PrintErr (codes "g_printerr")
    ∷ named library.SliceNew (codes "g_slice_new0")
    ∷ named library.SliceFree (codes "g_slice_free")
    ∷ named library.New (codes "g_new0")
    ∷ named library.Renew (codes "g_renew")
    ∷ named library.Free (codes "g_free")
    ∷ named library.Duplicate (codes "g_strdup")
    ∷ named library.DuplicateFront (codes "g_strndup")
    ∷ named library.Concatenate (codes "g_strconcat")
    ∷ named library.Format (codes "g_strdup_printf")
    ∷ named library.Compare (codes "g_strcmp0")
    ∷ named library.Length (codes "strlen")
    ∷ named library.HasPrefix (codes "g_str_has_prefix")
    ∷ named library.HasSuffix (codes "g_str_has_suffix")
    ∷ named library.Find (codes "g_strstr_len")
    ∷ named library.ReadNumber (codes "g_ascii_strtoll")
    ∷ named library.Abort (codes "g_error")
    ∷ named library.ReadLine (codes "vala_rt_read_line")
    ∷ named library.Quark (codes "g_quark_from_static_string")
    ∷ named library.ErrorNew (codes "g_error_new")
    ∷ named library.ErrorCopy (codes "g_error_copy")
    ∷ named library.ErrorFree (codes "g_error_free")
    ∷ named library.ErrorPropagate (codes "g_propagate_error")
    ∷ named library.ErrorMatches (codes "g_error_matches")
    ∷ []

abbrev pub function_in : List Known → List ℕ → Option LibraryFunction
function_in [] x = None
function_in (k ∷ ks) x = if bytes_eq k.name x then Some k.function else function_in ks x

-- the function of a name, where it has code
abbrev pub function_named : List ℕ → Option LibraryFunction
function_named x = function_in functions x

-- what a function means
abbrev pub row_of : LibraryFunction → rows.Does
row_of library.Print = rows.print_to stream.Out
row_of library.PrintErr = rows.print_to stream.Err
row_of library.SliceNew = rows.g_slice_new0
row_of library.SliceFree = rows.g_slice_free
row_of library.New = rows.g_new0
row_of library.Renew = rows.g_renew
row_of library.Free = rows.g_free
row_of library.Duplicate = rows.g_strdup
row_of library.DuplicateFront = rows.g_strndup
row_of library.Concatenate = rows.g_strconcat
row_of library.Format = rows.g_strdup_printf
row_of library.Compare = rows.g_strcmp0
row_of library.Length = rows.strlen
row_of library.HasPrefix = rows.g_str_has_prefix
row_of library.HasSuffix = rows.g_str_has_suffix
row_of library.Find = rows.g_strstr_len
row_of library.ReadNumber = rows.g_ascii_strtoll
row_of library.Abort = rows.g_error
row_of library.ReadLine = rows.vala_rt_read_line
row_of library.Quark = rows.g_quark_from_static_string
row_of library.ErrorNew = rows.g_error_new
row_of library.ErrorCopy = rows.g_error_copy
row_of library.ErrorFree = rows.g_error_free
row_of library.ErrorPropagate = rows.g_propagate_error
row_of library.ErrorMatches = rows.g_error_matches

-- what `g_slice_new0` makes of a struct, by the name of its first field
abbrev pub sliced_by : List ℕ → Sliced
sliced_by x = if bytes_eq x (codes "_ref_count_") then sliced.Scope else if bytes_eq x (codes "_state_") then sliced.Activation else sliced.Plain

-- a first field of what is made
abbrev pub first_of : Sliced → List ℕ
first_of sliced.Scope = codes "_ref_count_"
first_of sliced.Activation = codes "_state_"
first_of sliced.Plain = []

-- 2. Calls

abbrev pub type_argument : Env → Option CType → TypeArgument
type_argument env t = let a : rows.TypeArgument = steps.type_argument env t in record { cells = a.cells; sliced = sliced_by a.first }

-- arguments of a function, each in its parameter's kind
abbrev pub argument_codes : Bearings → List (Option Kind) → List Expr → List Code
argument_codes b ks [] = []
argument_codes b [] (e ∷ es) = value_code b e ∷ argument_codes b [] es
argument_codes b (k ∷ ks) (e ∷ es) = in_kind (known k) (value_code b e) ∷ argument_codes b ks es

-- a number that `..` takes is widened
abbrev pub free_code : Bearings → Expr → Code
free_code b e = if is_integer (kind_at b e) then in_kind (widened (kind_at b e)) (value_code b e) else value_code b e

abbrev pub row_code : Bearings → RowParameter → Expr → Code
row_code b (Number k) e = in_kind k (value_code b e)
row_code b p e = value_code b e

-- the arguments of a function of the library
abbrev pub row_codes : Bearings → List RowParameter → List Expr → List Code
row_codes b [] es = []
row_codes b (p ∷ ps) [] = []
row_codes b (Any ∷ ps) (e ∷ es) = map (free_code b) (e ∷ es)
row_codes b (Pairs ∷ ps) (e ∷ es) = map (free_code b) (e ∷ es)
row_codes b (p ∷ ps) (e ∷ es) = row_code b p e ∷ row_codes b ps es

-- a call of a function of the library that has code and is declared; any other has no meaning
abbrev pub library_call : Bearings → CCall → Option Row → Option LibraryFunction → Call
library_call b x (Some r) (Some f) = record { callee = target.Library f (type_argument (env_in b) x.type_argument); arguments = row_codes b r.parameters x.arguments }
library_call b x r f = record { callee = target.Nothing; arguments = [] }

abbrev pub call_by : Bearings → CCall → CCallee → Call
call_by b x (callee.Row n) = library_call b x (declared_row n.text) (function_named n.text)
call_by b x (callee.Value e) =
    record { callee = target.Value (value_code b e); arguments = argument_codes b (steps.parameters_of (steps.takes_by (env_in b) (kind_at b e).base)) x.arguments }

abbrev pub call_code : Bearings → CCall → Call
call_code b x = call_by b x x.callee

-- 3. Statements

abbrev pub taken : Env → Kind → Taken
taken env k = record { kind = k; cells = cells_of env k }

abbrev pub figure_of : ℤ → Figure
figure_of (pos n) = record { is_negative = false; size = n }
figure_of (negsuc n) = record { is_negative = true; size = suc n }

-- cases of a value of a kind, with the places of their labels
abbrev pub case_codes : Kind → List meaning.Statement → List CCase → List Case
case_codes k whole [] = []
case_codes k whole (c ∷ cs) = record { number = figure_of (wrap k (signed_value c.number)); target = steps.label_place 0 c.label.text whole } ∷ case_codes k whole cs

abbrev pub optional_code : Bearings → Kind → Option Expr → Option Code
optional_code b k None = None
optional_code b k (Some e) = Some (in_kind k (value_code b e))

-- THE CODE OF A STATEMENT in a function that gives a kind and has all these statements; `env` is what is declared at the unit's end
abbrev pub statement_code : Env → Kind → List meaning.Statement → Bearings → meaning.Act → Statement
statement_code env r whole b (meaning.Assign x y) = statement.Assign (place_code b x) (in_kind (kind_at b x) (value_code b y))
statement_code env r whole b (meaning.CallOf c) = statement.Call (call_code b c)
statement_code env r whole b (meaning.Store x c) = statement.Store (place_code b x) (taken env (kind_at b x)) (call_code b c)
statement_code env r whole b (meaning.Test x n) = statement.Test (value_code b x) n
statement_code env r whole b (meaning.TestGoto x l) = statement.TestJump (value_code b x) (steps.label_place 0 l whole)
statement_code env r whole b (meaning.Goto l) = statement.Jump (steps.label_place 0 l whole)
statement_code env r whole b (meaning.Label l) = statement.Onward
statement_code env r whole b (meaning.Switch x cs l) = statement.Switch (value_code b x) (case_codes (widened (kind_at b x)) whole cs) (steps.label_place 0 l whole)
statement_code env r whole b (meaning.Return e) = statement.Return (optional_code b r e)
statement_code env r whole b meaning.Open = statement.Onward
statement_code env r whole b (meaning.Pass n) = statement.Pass n

abbrev pub bearings : Tables → meaning.Scope → Bearings
bearings t sc = record { tables = t; scope = sc }

abbrev pub statements : Env → Tables → Kind → List meaning.Statement → List Statement
statements env t r whole = map (λ (x : meaning.Statement). statement_code env r whole (bearings t x.scope) x.act) whole

abbrev pub body_code : Env → Tables → Kind → meaning.Body → Body
body_code env t r b = record { parameters = map (taken env) b.parameters; cells = b.cells; statements = statements env t r b.code }

abbrev pub optional_body : Env → Tables → Kind → Option meaning.Body → Option Body
optional_body env t r None = None
optional_body env t r (Some b) = Some (body_code env t r b)

abbrev pub routine_code : Env → Tables → meaning.Routine → Routine
routine_code env t r = record { is_void = is_void r.result; body = optional_body env t r.result r.body }

-- THE CODE OF A UNIT'S FUNCTIONS, which cells name by their numbers
abbrev pub routine_codes : Env → Tables → List Routine
routine_codes env t = map (routine_code env t) t.routines

-- 4. What has code

-- each function of the library that is called has code, or does not exist
abbrev pub has_code : CCallee → Bool
has_code (callee.Row n) = is_some (function_named n.text)
has_code (callee.Value e) = true

abbrev pub act_has_code : meaning.Act → Bool
act_has_code (meaning.CallOf c) = has_code c.callee
act_has_code (meaning.Store x c) = has_code c.callee
act_has_code a = true

abbrev pub all_have_code : List meaning.Statement → Bool
all_have_code [] = true
all_have_code (s ∷ ss) = if act_has_code s.act then all_have_code ss else false

abbrev pub body_has_code : Option meaning.Body → Bool
body_has_code None = true
body_has_code (Some b) = all_have_code b.code

-- THE FUNCTIONS call no function of the library that has no code
abbrev pub have_code : List meaning.Routine → Bool
have_code [] = true
have_code (r ∷ rs) = if body_has_code r.body then have_code rs else false
