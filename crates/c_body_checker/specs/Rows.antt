-- What the checker's table of the library says, and what it keeps of arguments.
use Rattle.std.specs.Prelude.{ℕ, zero, suc, ◌%◌, not, Bool, true, false, ◌&&◌, ◌==◌, length, map, List, [], ◌∷◌, ◌++◌, Option, Some, None}
use Rattle.std.specs.Option.{option_map}
use Rattle.c_tree.specs.declared.kinds.Kind.{Kind}
use Rattle.c_tree.specs.declared.kinds.Fault.{Fault}
use Rattle.c_tree.specs.Faults.{unless, misfit}
use Rattle.c_tree.specs.Kinds.{is_integer, is_argument, is_pointer_or_function}
use Rattle.c_tree.specs.declared.names.Span.{Span}
use Rattle.c_tree.specs.Rules.{Called, called_if, class_by, fit_by, same_literal, signature_of, takes_count}
use Rattle.c_tree.specs.Library as rule
use Rattle.c_tree.specs.Env.{Env}
use Rattle.c_tree.specs.Checks.{Known}
use Rattle.c_value_checker.specs.declared.judged.Literal.{Literal}
use Rattle.c_value_checker.specs.declared.judged.Literal.TheVariants as literal
use Rattle.c_body_checker.specs.declared.calls.Argument.{Argument}
use Rattle.c_body_checker.specs.declared.library.RowParameter.{RowParameter}
use Rattle.c_body_checker.specs.declared.library.RowParameter.TheVariants as parameter
use Rattle.c_body_checker.specs.declared.library.LibraryRow.{LibraryRow}
use Rattle.c_value_checker.specs.Judgements.{is_null_told, judged}

-- a literal
abbrev pub literal_seen : Literal → rule.Literal
literal_seen (literal.Word c) = rule.Word c
literal_seen (literal.Figure s n) = rule.Figure s n

-- what an argument has to be
abbrev pub parameter_seen : RowParameter → rule.RowParameter
parameter_seen (parameter.Number k) = rule.Number k
parameter_seen parameter.Pointer = rule.Pointer
parameter_seen (parameter.Exactly l) = rule.Exactly (literal_seen l)
parameter_seen parameter.Any = rule.Any
parameter_seen parameter.Pairs = rule.Pairs

-- a function
abbrev pub row_seen : LibraryRow → rule.Row
row_seen r = record { name = r.name.now; takes_type = r.takes_type; parameters = map parameter_seen r.parameters.now; result = r.result }

-- an argument: where it stands, and what is known of it
abbrev pub argument : Env → Known → Argument
argument env a = record { span = a.span; found = judged env a.value }

-- the faults of any number of arguments
abbrev pub any_faults : List Argument → List Fault
any_faults [] = []
any_faults (a ∷ xs) = class_by is_argument a.found.kind a.span ++ any_faults xs

-- the fault of a name, of a value, or of the word `NULL` where a name is the last
abbrev pub part_fault : Bool → Bool → Argument → List Fault
part_fault false is_last a = class_by is_argument a.found.kind a.span
part_fault true true a = unless (is_null_told a.found.literal) (misfit a.span)
part_fault true false a = class_by is_pointer_or_function a.found.kind a.span

-- the faults of names and values by turns, from a name or from a value on
abbrev pub parts_faults : Bool → List Argument → List Fault
parts_faults is_name [] = []
parts_faults is_name (a ∷ []) = part_fault is_name true a
parts_faults is_name (a ∷ b ∷ xs) = part_fault is_name false a ++ parts_faults (not is_name) (b ∷ xs)

-- the fault of an argument that stands alone
abbrev pub one_fault : RowParameter → Argument → List Fault
one_fault (parameter.Number k) a = class_by is_integer a.found.kind a.span
one_fault parameter.Pointer a = class_by is_pointer_or_function a.found.kind a.span
one_fault (parameter.Exactly l) a = unless (same_literal (literal_seen l) (option_map literal_seen a.found.literal)) (misfit a.span)
one_fault p a = []

-- the faults of the arguments of a function of the library
abbrev pub row_faults : List RowParameter → List Argument → List Fault
row_faults [] xs = []
row_faults (p ∷ ps) [] = []
row_faults (parameter.Any ∷ ps) xs = any_faults xs
row_faults (parameter.Pairs ∷ ps) xs = parts_faults true xs
row_faults (p ∷ ps) (a ∷ xs) = one_fault p a ++ row_faults ps xs

-- whether a parameter takes all arguments from one on
abbrev pub takes_rest : RowParameter → Bool
takes_rest parameter.Any = true
takes_rest parameter.Pairs = true
takes_rest p = false

-- the faults of all arguments from one on
abbrev pub rest_faults : RowParameter → List Argument → List Fault
rest_faults parameter.Any xs = any_faults xs
rest_faults parameter.Pairs xs = parts_faults true xs
rest_faults p xs = []

-- whether a number of arguments is right where a parameter stands for one only
abbrev pub ends_one : ℕ → Option Bool
ends_one zero = Some false
ends_one (suc n) = None

-- what a parameter says of a number of arguments, if none behind it does
abbrev pub ends_at : RowParameter → ℕ → Option Bool
ends_at parameter.Any n = Some true
ends_at parameter.Pairs n = Some (n % 2 == 1)
ends_at p n = ends_one n

-- the faults of the arguments of a function of the unit
abbrev pub fit_faults : List (Option Kind) → List Argument → List Fault
fit_faults [] xs = []
fit_faults (p ∷ ps) [] = []
fit_faults (p ∷ ps) (a ∷ xs) = fit_by p a.found.kind (is_null_told a.found.literal) a.span ++ fit_faults ps xs

-- a call of a function of the library
abbrev pub row_called : Option LibraryRow → Span → Bool → List Argument → Called
row_called None s fine xs = record { result = None; faults = [] }
row_called (Some r) s fine xs = called_if (fine && takes_count (map parameter_seen r.parameters.now) (length xs)) s (Some r.result) (row_faults r.parameters.now xs)

-- a call of what has that signature
abbrev pub unit_called : Option rule.Takes → Span → List Argument → Called
unit_called None s xs = record { result = None; faults = misfit s }
unit_called (Some t) s xs = called_if (length t.parameters == length xs) s t.result (fit_faults t.parameters xs)

-- a call of a value of a kind
abbrev pub value_called : Env → Option Kind → Span → List Argument → Called
value_called env None s xs = record { result = None; faults = [] }
value_called env (Some k) s xs = unit_called (signature_of env k) s xs
