-- The faults of items and of a whole unit.
use Rattle.std.specs.Prelude.{ℕ, zero, suc, ◌+◌, ◌-◌, ◌==◌, ◌&&◌, ◌||◌, ◌^◌, min, not, Bool, true, false, if◌then◌else◌, List, [], ◌∷◌, ◌++◌, length, codes, Option, Some, None}
use Rattle.std.specs.List.{list_any}
use Rattle.std.specs.Str.{bytes_eq}
use Rattle.c_tree.specs.declared.names.Name.{Name}
use Rattle.c_tree.specs.declared.names.Span.{Span}
use Rattle.c_tree.specs.declared.code.Local.{Local}
use Rattle.c_tree.specs.declared.unit.Function.{Function as Definition}
use Rattle.c_tree.specs.declared.unit.Item.{Item}
use Rattle.c_tree.specs.declared.unit.Item.TheVariants as item
use Rattle.c_tree.specs.declared.unit.Member.{Member}
use Rattle.c_tree.specs.declared.unit.Parameter.{Parameter}
use Rattle.c_tree.specs.declared.unit.Signature.{Signature}
use Rattle.c_tree.specs.declared.unit.Unit.{Unit as CUnit}
use Rattle.c_tree.specs.declared.kinds.KindBase.TheVariants.{Struct, Function}
use Rattle.c_tree.specs.declared.kinds.Kind.{Kind}
use Rattle.c_tree.specs.declared.kinds.Sort.{Sort}
use Rattle.c_tree.specs.declared.kinds.Sort.TheVariants as sort
use Rattle.c_tree.specs.declared.kinds.Cause.TheVariants.{Undeclared, Misfit, Twice}
use Rattle.c_tree.specs.declared.kinds.Fault.{Fault}
use Rattle.c_tree.specs.declared.code.Block.{Block, out-Block}
use Rattle.c_tree.specs.Kinds.{plain, int, same_bool}
use Rattle.c_tree.specs.Constants.{Worth, Ends, member_value}
use Rattle.c_tree.specs.Library.{Takes, Structure}
use Rattle.c_tree.specs.Library.{Field as Declared}
use Rattle.c_tree.specs.Env.{Env, found, declare, opened, structure_named, fields_of, cells_of, kind_of, number_of, with_signature, type_sort, library}
use Rattle.c_tree.specs.Faults.{fault, undeclared, twice, misfit, unless}
use Rattle.c_tree.specs.Checks.{checked, type_faults}
use Rattle.c_tree.specs.Types.{is_object}
use Rattle.c_tree.specs.Names.{is_named_main}
use Rattle.c_tree.specs.Rules.{Checker, Body, checked_block, fit, laid_out_if, not_laid_out, twice_here}

-- 1. Functions

-- the kinds of parameters
abbrev pub parameter_kinds : Env → List Parameter → List (Option Kind)
parameter_kinds env [] = []
parameter_kinds env (p ∷ ps) = kind_of env p.declared ∷ parameter_kinds env ps

-- the signature of a function
abbrev pub takes_of : Env → Signature → Takes
takes_of env s = record { result = kind_of env s.result; parameters = parameter_kinds env s.parameters }

-- behind a name that may be missing
abbrev pub with_optional : Env → Option Name → Sort → Env
with_optional env None s = env
with_optional env (Some x) s = declare env x s

-- behind a parameter
abbrev pub with_parameter : Env → Parameter → Env
with_parameter env p = with_optional env p.name (sort.Variable (kind_of env p.declared))

-- behind parameters
abbrev pub with_parameters : Env → List Parameter → Env
with_parameters env [] = env
with_parameters env (p ∷ ps) = with_parameters (with_parameter env p) ps

-- a name that may be missing, and that the scope has already
abbrev pub twice_optional : Env → Option Name → List Fault
twice_optional env None = []
twice_optional env (Some x) = twice_here env x

-- the types and names of parameters, in a scope of their own
abbrev pub parameter_faults : Env → List Parameter → List Fault
parameter_faults env [] = []
parameter_faults env (p ∷ ps) = type_faults env p.declared ++ twice_optional env p.name ++ parameter_faults (with_parameter env p) ps

-- the faults in what a function takes and gives
abbrev pub signature_faults : Env → Signature → List Fault
signature_faults env s = type_faults env s.result ++ parameter_faults (opened env) s.parameters

-- where a function is defined, what it takes and gives is laid out; that it is defined is known behind the `)`
abbrev pub unlaid : Env → Span → Option Kind → Name → List Fault
unlaid env head k x = unless (laid_out_if env k) (fault Misfit x.span.start head.end)

-- the same of a name that may be missing
abbrev pub unlaid_optional : Env → Span → Option Kind → Option Name → List Fault
unlaid_optional env head k None = []
unlaid_optional env head k (Some x) = unlaid env head k x

-- the same of all parameters
abbrev pub unlaid_parameters : Env → Span → List Parameter → List Fault
unlaid_parameters env head [] = []
unlaid_parameters env head (p ∷ ps) = unlaid_optional env head (kind_of env p.declared) p.name ++ unlaid_parameters env head ps

-- whether a function gives nothing
abbrev pub is_void_result : Signature → Bool
is_void_result s = not (is_object s.result)

-- the same of the result, which may be `void`
abbrev pub unlaid_result : Env → Signature → List Fault
unlaid_result env s = if is_void_result s then [] else unlaid env s.span (kind_of env s.result) s.name

-- A function that is there already: another prototype may follow, of the same signature and equally static, and one definition.
abbrev pub again : Env → Signature → Bool → Option Sort → List Fault
again env s defines None = []
again env s defines (Some (sort.Function n is_static is_defined)) =
    unless (n == number_of env (takes_of env s) && same_bool is_static s.is_static && not (defines && is_defined)) (fault Twice s.name.span.start s.span.end)
again env s defines (Some other) = twice s.name

-- whether a function is defined before
abbrev pub is_defined_already : Option Sort → Bool
is_defined_already (Some (sort.Function n is_static is_defined)) = is_defined
is_defined_already s = false

-- behind a prototype or a definition
abbrev pub with_function : Env → Signature → Bool → Env
with_function env s defines =
    declare (with_signature env (takes_of env s)) s.name (sort.Function (number_of env (takes_of env s)) s.is_static (defines || is_defined_already (found env.scopes s.name.text)))

-- 2. Labels

-- whether a name is among these
abbrev pub has_name : List ℕ → List Name → Bool
has_name x [] = false
has_name x (y ∷ ys) = bytes_eq y.text x || has_name x ys

-- a label that stands twice
abbrev pub label_faults : List Name → List Name → List Fault
label_faults before [] = []
label_faults before (x ∷ xs) = unless (not (has_name x.text before)) (fault Twice x.span.start x.span.end) ++ label_faults (x ∷ before) xs

-- a label that is nowhere in the function, which is known at its end
abbrev pub target_faults : List Name → ℕ → List Name → List Fault
target_faults labels end [] = []
target_faults labels end (x ∷ xs) = unless (has_name x.text labels) (fault Undeclared x.span.start end) ++ target_faults labels end xs

-- the place of the bracket that ends a block
abbrev pub block_end : Block → ℕ
block_end b = (out-Block b).span.end - 1

-- the parameters and the outermost block of the body are one scope
abbrev pub body_faults : Env → Definition → Body → List Fault
body_faults env f b =
    b.faults (record { env = with_parameters (opened env) f.signature.parameters; result = kind_of env f.signature.result })
    ++ label_faults [] b.labels
    ++ target_faults b.labels (block_end f.body) b.targets

-- 3. Types

-- the fields of a struct with their kinds
abbrev pub fields_declared : Env → List Local → List Declared
fields_declared env [] = []
fields_declared env (l ∷ ls) = record { name = l.name.text; kind = kind_of env l.declared } ∷ fields_declared env ls

-- whether a field of that name is among these
abbrev pub has_field : List ℕ → List Local → Bool
has_field x [] = false
has_field x (l ∷ ls) = bytes_eq l.name.text x || has_field x ls

-- the fields of a struct, with those before them
abbrev pub field_faults : Env → List Local → List Local → List Fault
field_faults env before [] = []
field_faults env before (l ∷ ls) =
    type_faults env l.declared ++ unless (not (has_field l.name.text before)) (twice l.name) ++ not_laid_out env (kind_of env l.declared) l.name ++ field_faults env (l ∷ before) ls

-- the cells of a kind that may be unknown
abbrev pub known_cells : Env → Option Kind → ℕ
known_cells env None = 0
known_cells env (Some k) = cells_of env k

-- the cells of fields, in order
abbrev pub fields_cells : Env → List Declared → ℕ
fields_cells env [] = 0
fields_cells env (f ∷ fs) = known_cells env f.kind + fields_cells env fs

-- a number of cells as it is kept: 2^62 stands for all that are not fewer, since none of those is laid out
abbrev pub kept_cells : ℕ → ℕ
kept_cells n = min n (2 ^ 62)

-- the struct with that number has these fields and so many cells
abbrev pub with_fields : List Structure → ℕ → List Declared → ℕ → List Structure
with_fields [] n fs m = []
with_fields (s ∷ ss) zero fs m = record s { fields = Some fs; cells = m } ∷ ss
with_fields (s ∷ ss) (suc n) fs m = s ∷ with_fields ss n fs m

-- behind the definition of a struct
abbrev pub define_struct : Env → Option ℕ → List Local → Env
define_struct env None ls = env
define_struct env (Some n) ls = record env { structs = with_fields env.structs n (fields_declared env ls) (kept_cells (fields_cells env (fields_declared env ls))) }

-- a struct that has fields already
abbrev pub defined_twice : Option (List Declared) → Name → List Fault
defined_twice None x = []
defined_twice (Some fs) x = twice x

-- `struct _X` stands behind `typedef struct _X X;`, and once
abbrev pub struct_faults : Env → Option ℕ → Name → List Fault
struct_faults env None x = undeclared x
struct_faults env (Some n) x = defined_twice (fields_of env n) x

-- behind members
abbrev pub with_members : Env → List Member → Env
with_members env [] = env
with_members env (m ∷ ms) = with_members (declare env m.name (sort.Member (member_value m.number))) ms

-- the faults of members
abbrev pub member_faults : Env → List Member → List Fault
member_faults env [] = []
member_faults env (m ∷ ms) = twice_here env m.name ++ member_faults (declare env m.name (sort.Member (member_value m.number))) ms

-- 4. Items

-- behind a new struct
abbrev pub new_struct : Env → Name → Env
new_struct env x = declare (record env { structs = env.structs ++ record { name = x.text; fields = None; cells = 0 } ∷ [] }) x (sort.Type (plain (Struct (length env.structs))))

-- behind a new function type
abbrev pub new_function_type : Env → Signature → Env
new_function_type env s = declare (with_signature env (takes_of env s)) s.name (sort.Type (plain (Function (number_of env (takes_of env s)))))

-- what the type with that name means
abbrev pub kind_named : Env → List ℕ → Option Kind
kind_named env x = type_sort (found env.scopes x)

-- what is declared behind an item
abbrev pub with_item : Env → Item → Env
with_item env (item.Include f) = env
with_item env (item.StructType x) = new_struct env x
with_item env (item.Struct s) = define_struct env (structure_named 0 env.structs s.name.text) s.fields
with_item env (item.Enumeration e) = declare (with_members env e.members) e.name (sort.Type int)
with_item env (item.FunctionType s) = new_function_type env s
with_item env (item.Prototype s) = with_function env s false
with_item env (item.Variable v) = declare env v.name (sort.Variable (kind_of env v.declared))
with_item env (item.InterfaceTable t) = declare env t.name (sort.Variable (kind_named env (codes "GInterfaceInfo")))
with_item env (item.Function f) = with_function env f.signature true

-- A variable that has the name of a function: that it is no prototype is known behind its name.
abbrev pub variable_twice : Option Sort → Name → List Fault
variable_twice None x = []
variable_twice (Some (sort.Function n is_static is_defined)) x = fault Twice x.span.start x.span.end
variable_twice (Some s) x = twice x

-- a constant that would end the run; one that has no kind breaks another rule
abbrev pub ends_faults : Option Kind → Worth → Span → List Fault
ends_faults (Some k) Ends s = misfit s
ends_faults k w s = []

-- a name that is no function
abbrev pub function_faults : Option Sort → Name → List Fault
function_faults None x = undeclared x
function_faults (Some (sort.Function n is_static is_defined)) x = []
function_faults (Some s) x = misfit x.span

-- how the bodies of functions are checked
abbrev pub Bodies : Type 0
Bodies = Block → Body

-- the faults of an item, by what is known of its values and bodies
abbrev pub item_faults : Checker → Bodies → Env → Item → List Fault
item_faults known body env (item.Include f) = []
item_faults known body env (item.StructType x) = twice_here env x
item_faults known body env (item.Struct s) = struct_faults env (structure_named 0 env.structs s.name.text) s.name ++ field_faults env [] s.fields
item_faults known body env (item.Enumeration e) = member_faults env e.members ++ twice_here (with_members env e.members) e.name
item_faults known body env (item.FunctionType s) = twice_here env s.name ++ signature_faults env s
item_faults known body env (item.Prototype s) = again env s false (found env.scopes s.name.text) ++ signature_faults env s
item_faults known body env (item.Variable v) =
    type_faults env v.declared
    ++ variable_twice (found env.scopes v.name.text) v.name
    ++ not_laid_out env (kind_of env v.declared) v.name
    ++ (known v.value).value.faults env
    ++ fit env (kind_of env v.declared) (known v.value)
    ++ ends_faults ((known v.value).value.kind env) ((known v.value).value.worth env) (known v.value).span
item_faults known body env (item.InterfaceTable t) =
    variable_twice (found env.scopes t.name.text) t.name
    ++ not_laid_out env (kind_named env (codes "GInterfaceInfo")) t.name
    ++ function_faults (found env.scopes t.init.text) t.init
item_faults known body env (item.Function f) =
    again env f.signature true (found env.scopes f.signature.name.text)
    ++ signature_faults env f.signature
    ++ unlaid_result env f.signature
    ++ unlaid_parameters env f.signature.span f.signature.parameters
    ++ body_faults (with_function env f.signature true) f (body f.body)

-- the faults of items, each behind those before it
abbrev pub items_faults : Checker → Bodies → Env → List Item → List Fault
items_faults known body env [] = []
items_faults known body env (i ∷ is) = item_faults known body env i ++ items_faults known body (with_item env i) is

-- whether an item defines `main`
abbrev pub is_main : Item → Bool
is_main (item.Function f) = is_named_main f.signature
is_main i = false

-- ALL FAULTS of a unit, but for a `main` that is missing
abbrev pub unit_faults : CUnit → List Fault
unit_faults unit = items_faults checked (checked_block checked) library unit.items

-- whether a unit defines `main`
abbrev pub has_main : CUnit → Bool
has_main unit = list_any is_main unit.items
