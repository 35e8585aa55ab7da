-- The faults of calls, statements, items and units.
use Rattle.std.specs.Prelude.{ℕ, zero, suc, ◌==◌, ◌&&◌, Bool, true, false, if◌then◌else◌, List, [], ◌∷◌, ◌++◌, length, Option, Some, None}
use Rattle.std.specs.Option.{option_map}
use Rattle.c_lexer.specs.declared.token.Constant.{Constant}
use Rattle.c_lexer.specs.declared.token.Constant.TheVariants as constant
use Rattle.c_tree.specs.declared.names.Name.{Name}
use Rattle.c_tree.specs.declared.names.Span.{Span}
use Rattle.c_tree.specs.declared.names.CType.{CType}
use Rattle.c_tree.specs.declared.code.Expr.{Expr}
use Rattle.c_tree.specs.declared.code.Local.{Local}
use Rattle.c_tree.specs.declared.code.Call.{Call}
use Rattle.c_tree.specs.declared.code.Callee.{Callee}
use Rattle.c_tree.specs.declared.code.Callee.TheVariants as callee
use Rattle.c_tree.specs.declared.code.Case.{Case}
use Rattle.c_tree.specs.declared.code.Stmt.TheOpen.{Stmt-F, Block-F}
use Rattle.c_tree.specs.declared.code.Stmt.TheFolds.{fold-Block}
use Rattle.c_tree.specs.declared.code.Block.{Block}
use Rattle.c_tree.specs.declared.kinds.KindBase.{KindBase}
use Rattle.c_tree.specs.declared.kinds.KindBase.TheVariants.{Function}
use Rattle.c_tree.specs.declared.kinds.Kind.{Kind}
use Rattle.c_tree.specs.declared.kinds.Sort.{Sort}
use Rattle.c_tree.specs.declared.kinds.Sort.TheVariants as sort
use Rattle.c_tree.specs.declared.kinds.Cause.TheVariants.{Misfit}
use Rattle.c_tree.specs.declared.kinds.Fault.{Fault}
use Rattle.c_tree.specs.Make.{span_of}
use Rattle.c_tree.specs.Kinds.{fits, is_integer, is_function, is_scalar, is_void, is_argument, is_pointer_or_function, same_bool}
use Rattle.c_tree.specs.Library.{Takes, Literal, Figure, RowParameter, Number, Pointer, Exactly, Any, Pairs, Row, present_rows, row_at}
use Rattle.c_tree.specs.Library.{Word as WordOf}
use Rattle.c_tree.specs.Env.{Env, found, found_in, innermost, declare, opened, laid_out, kind_of, signature_at}
use Rattle.c_tree.specs.Faults.{fault, twice, misfit, unless, behind_first}
use Rattle.c_tree.specs.Checks.{Known, is_null, type_faults, undeclared_if}

-- how values are checked
abbrev pub Checker : Type 0
Checker = Expr → Known

-- 1. Fits

-- a value of a kind goes to a place of a kind
abbrev pub fit_by : Option Kind → Option Kind → Bool → Span → List Fault
fit_by (Some p) (Some k) null s = unless (fits p k null) (misfit s)
fit_by p k null s = []

-- a value that goes to a place of a kind
abbrev pub fit : Env → Option Kind → Known → List Fault
fit env place a = fit_by place (a.value.kind env) (is_null a) a.span

-- a value that must be of a class of kinds
abbrev pub class_by : (Kind → Bool) → Option Kind → Span → List Fault
class_by p None s = []
class_by p (Some k) s = unless (p k) (misfit s)

-- a value is of a class of kinds
abbrev pub must_be : Env → (Kind → Bool) → Known → List Fault
must_be env p a = class_by p (a.value.kind env) a.span

-- 2. Calls

-- whether two capital names are one, of those that a function wants
abbrev pub same_word : Constant → Constant → Bool
same_word constant.Null constant.Null = true
same_word constant.False constant.False = true
same_word constant.SignalRunLast constant.SignalRunLast = true
same_word constant.TypeNone constant.TypeNone = true
same_word a b = false

-- whether a literal is the one that is wanted
abbrev pub same_literal : Literal → Option Literal → Bool
same_literal (WordOf a) (Some (WordOf b)) = same_word a b
same_literal (Figure s n) (Some (Figure t m)) = same_bool s t && n == m
same_literal a b = false

-- as many arguments as a row takes
abbrev pub takes_count : List RowParameter → ℕ → Bool
takes_count [] zero = true
takes_count [] (suc n) = false
takes_count (Any ∷ ps) n = true
takes_count (Pairs ∷ ps) zero = false
takes_count (Pairs ∷ ps) (suc zero) = true
takes_count (Pairs ∷ ps) (suc (suc n)) = takes_count (Pairs ∷ ps) n
takes_count (p ∷ ps) zero = false
takes_count (p ∷ ps) (suc n) = takes_count ps n

-- any number of integers, pointers and functions
abbrev pub any_faults : Env → List Known → List Fault
any_faults env [] = []
any_faults env (a ∷ xs) = must_be env is_argument a ++ any_faults env xs

-- names and values, and then `NULL`
abbrev pub pair_faults : Env → List Known → List Fault
pair_faults env [] = []
pair_faults env (a ∷ []) = unless (is_null a) (misfit a.span)
pair_faults env (a ∷ b ∷ xs) = must_be env is_pointer_or_function a ++ must_be env is_argument b ++ pair_faults env xs

-- the faults of the arguments of a function of the library
abbrev pub argument_faults : Env → List RowParameter → List Known → List Fault
argument_faults env [] xs = []
argument_faults env (p ∷ ps) [] = []
argument_faults env (Number k ∷ ps) (a ∷ xs) = must_be env is_integer a ++ argument_faults env ps xs
argument_faults env (Pointer ∷ ps) (a ∷ xs) = must_be env is_pointer_or_function a ++ argument_faults env ps xs
argument_faults env (Exactly l ∷ ps) (a ∷ xs) = unless (same_literal l a.value.literal) (misfit a.span) ++ argument_faults env ps xs
argument_faults env (Any ∷ ps) xs = any_faults env xs
argument_faults env (Pairs ∷ ps) xs = pair_faults env xs

-- the arguments of a function of the unit
abbrev pub fit_all : Env → List (Option Kind) → List Known → List Fault
fit_all env [] xs = []
fit_all env (p ∷ ps) [] = []
fit_all env (p ∷ ps) (a ∷ xs) = fit env p a ++ fit_all env ps xs

-- values by a checker
abbrev pub all_checked : Checker → List Expr → List Known
all_checked known [] = []
all_checked known (e ∷ es) = known e ∷ all_checked known es

-- the faults in values
abbrev pub own_faults : Env → List Known → List Fault
own_faults env [] = []
own_faults env (a ∷ xs) = a.value.faults env ++ own_faults env xs

-- what a call gives, where it has the right number of arguments
pub record Called : Type 0 where
  pub result : Option Kind
  pub faults : List Fault

-- a call with the right number of arguments, or one with a wrong one
abbrev pub called_if : Bool → Span → Option Kind → List Fault → Called
called_if true s r fs = record { result = r; faults = fs }
called_if false s r fs = record { result = None; faults = misfit s ++ fs }

-- a type that a row takes is laid out
abbrev pub laid_out_if : Env → Option Kind → Bool
laid_out_if env None = true
laid_out_if env (Some k) = laid_out env k

-- a call of a function of the library
abbrev pub row_call : Env → Option Row → Span → Bool → List Known → Called
row_call env None s fine xs = record { result = None; faults = [] }
row_call env (Some r) s fine xs = called_if (fine && takes_count r.parameters (length xs)) s (Some r.result) (argument_faults env r.parameters xs)

-- a call of what has that signature
abbrev pub unit_call : Env → Option Takes → Span → List Known → Called
unit_call env None s xs = record { result = None; faults = misfit s }
unit_call env (Some t) s xs = called_if (length t.parameters == length xs) s t.result (fit_all env t.parameters xs)

-- the signature of a base
abbrev pub signature_by : Env → KindBase → Option Takes
signature_by env (Function n) = signature_at env.signatures n
signature_by env b = None

-- the signature of a function, and of no other value
abbrev pub signature_of : Env → Kind → Option Takes
signature_of env k = if is_function k then signature_by env k.base else None

-- a call of a value of a kind
abbrev pub value_call : Env → Option Kind → Span → List Known → Called
value_call env None s xs = record { result = None; faults = [] }
value_call env (Some k) s xs = unit_call env (signature_of env k) s xs

-- the function of the library that a name is
abbrev pub row_number : Option Sort → Option Row
row_number (Some (sort.Row n)) = row_at present_rows n
row_number s = None

-- the fault of a type that is taken
abbrev pub type_argument_faults : Env → Option CType → List Fault
type_argument_faults env None = []
type_argument_faults env (Some c) = type_faults env c

-- whether a type that is taken is laid out
abbrev pub type_argument_fine : Env → Option CType → Bool
type_argument_fine env None = true
type_argument_fine env (Some c) = laid_out_if env (kind_of env c)

-- with faults in front
abbrev pub with_faults : List Fault → Called → Called
with_faults fs c = record { result = c.result; faults = fs ++ c.faults }

-- A CALL: its result, and all its faults. A wrong number of arguments is a fault of the whole, a wrong argument of the argument.
abbrev pub call_by : Checker → Env → Callee → Call → List Known → Called
call_by known env (callee.Value f) c xs = with_faults ((known f).value.faults env ++ own_faults env xs) (value_call env ((known f).value.kind env) c.span xs)
call_by known env (callee.Row x) c xs =
    with_faults (undeclared_if (found env.scopes x.text) x ++ type_argument_faults env c.type_argument ++ own_faults env xs) (row_call env (row_number (found env.scopes x.text)) c.span (type_argument_fine env c.type_argument) xs)

-- a call by its parts
abbrev pub call : Checker → Env → Call → Called
call known env c = call_by known env c.callee c (all_checked known c.arguments)

-- 3. Declarations

-- a name that the innermost scope has
abbrev pub twice_if : Option Sort → Name → List Fault
twice_if None x = []
twice_if (Some s) x = twice x

-- a name that the innermost scope has already
abbrev pub twice_here : Env → Name → List Fault
twice_here env x = twice_if (found_in (innermost env.scopes) x.text) x

-- a variable of a kind whose cells are not known
abbrev pub not_laid_out : Env → Option Kind → Name → List Fault
not_laid_out env k x = unless (laid_out_if env k) (misfit x.span)

-- behind a declaration
abbrev pub with_local : Env → Local → Env
with_local env l = declare env l.name (sort.Variable (kind_of env l.declared))

-- the faults of a declaration
abbrev pub local_faults : Env → Local → List Fault
local_faults env l = behind_first l.declared.span.start (type_faults env l.declared ++ twice_here env l.name ++ not_laid_out env (kind_of env l.declared) l.name)

-- the faults of declarations, in order
abbrev pub locals_faults : Env → List Local → List Fault
locals_faults env [] = []
locals_faults env (l ∷ ls) = local_faults env l ++ locals_faults (with_local env l) ls

-- behind declarations
abbrev pub with_locals : Env → List Local → Env
with_locals env [] = env
with_locals env (l ∷ ls) = with_locals (with_local env l) ls

-- 4. Statements

-- What a statement is in: what is declared, and the result of its function.
pub record Context : Type 0 where
  pub env : Env
  pub result : Option Kind

-- what is known of statements: their faults, their labels, and the labels that they go to
pub record Body : Type 0 where
  pub faults : Context → List Fault
  pub labels : List Name
  pub targets : List Name

-- labels and what goes to labels
abbrev pub silent : List Name → List Name → Body
silent ls ts = record { faults = λ c. []; labels = ls; targets = ts }

-- a statement that has faults alone
abbrev pub says : (Env → List Fault) → Body
says f = record { faults = λ c. f c.env; labels = []; targets = [] }

-- a block in a scope of its own
abbrev pub inner : Body → Context → List Fault
inner b c = b.faults (record c { env = opened c.env })

-- what a condition must be
abbrev pub condition : Env → Known → List Fault
condition env a = a.value.faults env ++ must_be env is_scalar a

-- the labels that cases go to
abbrev pub case_targets : List Case → List Name
case_targets [] = []
case_targets (c ∷ cs) = c.label ∷ case_targets cs

-- `return value;` in a function with a result, and `return;` in a `void` one
abbrev pub return_by : Env → Option Kind → Span → Known → List Fault
return_by env None word a = []
return_by env (Some k) word a = if is_void k then fault Misfit word.start a.span.end else fit env (Some k) a

-- `return;`
abbrev pub return_empty : Option Kind → Span → List Fault
return_empty None word = []
return_empty (Some k) word = unless (is_void k) (misfit word)

-- the faults of a `return`
abbrev pub return_faults : Context → Span → Option Known → List Fault
return_faults c word None = return_empty c.result word
return_faults c word (Some a) = a.value.faults c.env ++ return_by c.env c.result word a

-- the result of a call goes to a place
abbrev pub result_fit : Option Kind → Option Kind → Span → List Fault
result_fit (Some p) (Some k) s = unless (fits p k false) (misfit s)
result_fit p k s = []

-- the faults behind `else`
abbrev pub else_faults : Option Body → Context → List Fault
else_faults None c = []
else_faults (Some b) c = inner b c

-- the labels behind `else`
abbrev pub else_labels : Option Body → List Name
else_labels None = []
else_labels (Some b) = b.labels

-- what goes to labels behind `else`
abbrev pub else_targets : Option Body → List Name
else_targets None = []
else_targets (Some b) = b.targets

-- one level of a statement
abbrev pub check_stmt : Checker → Stmt-F Body Body → Body
check_stmt known (Stmt-F.Assign a b) =
    says (λ env. behind_first (span_of a).start ((known a).value.faults env ++ (known b).value.faults env ++ fit env ((known a).value.kind env) (known b)))
check_stmt known (Stmt-F.Call c) = says (λ env. behind_first c.span.start (call known env c).faults)
check_stmt known (Stmt-F.Store a c) =
    says (λ env. behind_first (span_of a).start ((known a).value.faults env ++ (call known env c).faults ++ result_fit ((known a).value.kind env) (call known env c).result c.span))
check_stmt known (Stmt-F.If a b o) = record { faults = λ c. condition c.env (known a) ++ inner b c ++ else_faults o c; labels = b.labels ++ else_labels o; targets = b.targets ++ else_targets o }
check_stmt known (Stmt-F.IfGoto a x) = record { faults = λ c. condition c.env (known a); labels = []; targets = x ∷ [] }
check_stmt known (Stmt-F.Goto x) = silent [] (x ∷ [])
check_stmt known (Stmt-F.Label x) = silent (x ∷ []) []
check_stmt known (Stmt-F.Switch a cs x) = record { faults = λ c. (known a).value.faults c.env ++ must_be c.env is_integer (known a); labels = []; targets = case_targets cs ++ x ∷ [] }
check_stmt known (Stmt-F.Return s o) = record { faults = λ c. return_faults c s (option_map known o); labels = []; targets = [] }
check_stmt known (Stmt-F.Block b) = record { faults = inner b; labels = b.labels; targets = b.targets }

-- the faults of statements
abbrev pub all_faults : Context → List Body → List Fault
all_faults c [] = []
all_faults c (b ∷ bs) = b.faults c ++ all_faults c bs

-- the labels of statements
abbrev pub all_labels : List Body → List Name
all_labels [] = []
all_labels (b ∷ bs) = b.labels ++ all_labels bs

-- what goes to labels in statements
abbrev pub all_targets : List Body → List Name
all_targets [] = []
all_targets (b ∷ bs) = b.targets ++ all_targets bs

-- a block in a scope that is open already
abbrev pub check_block : Block-F Body Body → Body
check_block b = record { faults = λ c. locals_faults c.env b.locals ++ all_faults (record c { env = with_locals c.env b.locals }) b.body; labels = all_labels b.body; targets = all_targets b.body }

-- what is known of a block, by what is known of the values in it
abbrev pub checked_block : Checker → Block → Body
checked_block known = fold-Block Body Body (check_stmt known) check_block
