-- Names that are functions of the library have code, in each scope of a unit.
use Rattle.std.proofs.Common.{◌≡◌, ℕ, Bool, true, false, if◌then◌else◌, List, [], ◌∷◌, ◌++◌, Option, Some, None, refl, subst}
use Rattle.std.specs.Option.{is_some}
use Rattle.std.specs.Str.{bytes_eq}
use Rattle.std.proofs.lemmas.Slice.Eq.{bytes_eq-Decides}
use Rattle.c_tree.specs.declared.names.Name.{Name}
use Rattle.c_tree.specs.declared.code.Local.{Local}
use Rattle.c_tree.specs.declared.unit.Item.{Item}
use Rattle.c_tree.specs.declared.unit.Item.TheVariants as item
use Rattle.c_tree.specs.declared.unit.Member.{Member}
use Rattle.c_tree.specs.declared.unit.Parameter.{Parameter}
use Rattle.c_tree.specs.Library.{TypeRow, Row, library_types, present_rows}
use Rattle.c_tree.specs.Names.{Another, AnInt, Declared, FunctionName, MemberName, Names, RowName, TypeName, VariableName, declared}
use Rattle.c_tree.specs.Names.{library_names, meaning_of, role_of, row_names, type_names, with_item, with_local, with_locals, with_members, with_name, with_parameters}
use Rattle.c_code.specs.Statements.{function_named}

-- each name that is a function of the library has code
abbrev pub Coded : Names → Type 0
Coded ns = (x : List ℕ) (b : Bool) → role_of ns x ≡ RowName b → is_some (function_named x) ≡ true

-- 1. One more name

-- a name in front that is no function of the library
put : (d : Declared) (ns : Names) → ((b : Bool) → d.role ≡ RowName b → ⊥) → Coded ns → Coded (d ∷ ns)
put d ns other h x b e = go (bytes_eq d.name x) e
  where
    go : (same : Bool) → (if same then d.role else role_of ns x) ≡ RowName b → is_some (function_named x) ≡ true
    go true e = absurd (other b e)
    go false e = h x b e

pub put_variable : (x : Name) (ns : Names) → Coded ns → Coded (declared x VariableName ∷ ns)
put_variable x ns = put (declared x VariableName) ns (λ b e. cc)

pub put_function : (x : Name) (ns : Names) → Coded ns → Coded (declared x FunctionName ∷ ns)
put_function x ns = put (declared x FunctionName) ns (λ b e. cc)

put_member : (x : Name) (ns : Names) → Coded ns → Coded (declared x MemberName ∷ ns)
put_member x ns = put (declared x MemberName) ns (λ b e. cc)

put_struct : (x : Name) (ns : Names) → Coded ns → Coded (declared x (TypeName Another) ∷ ns)
put_struct x ns = put (declared x (TypeName Another)) ns (λ b e. cc)

put_enumeration : (x : Name) (ns : Names) → Coded ns → Coded (declared x (TypeName AnInt) ∷ ns)
put_enumeration x ns = put (declared x (TypeName AnInt)) ns (λ b e. cc)

-- 2. The library

-- each of these functions has code
abbrev are_coded : List Row → Bool
are_coded [] = true
are_coded (r ∷ rs) = if is_some (function_named r.name) then are_coded rs else false

first_coded : (x y : Bool) → (if x then y else false) ≡ true → x ≡ true
first_coded true y h = refl
first_coded false y h = cc

rest_coded : (x y : Bool) → (if x then y else false) ≡ true → y ≡ true
rest_coded true y h = h
rest_coded false y h = cc

row_put : (r : Row) (rs : List Row) → is_some (function_named r.name) ≡ true → Coded (row_names rs) → Coded (row_names (r ∷ rs))
row_put r rs own h x b e = go (bytes_eq r.name x) refl e
  where
    go : (same : Bool) → bytes_eq r.name x ≡ same → (if same then RowName r.takes_type else role_of (row_names rs) x) ≡ RowName b
        → is_some (function_named x) ≡ true
    go true q e = subst (λ (y : List ℕ). is_some (function_named y) ≡ true) ((bytes_eq-Decides r.name x).0 q) own
    go false q e = h x b e

rows_coded : (rs : List Row) → are_coded rs ≡ true → Coded (row_names rs)
rows_coded [] h = λ x b e. cc
rows_coded (r ∷ rs) h =
    let own = first_coded (is_some (function_named r.name)) (are_coded rs) h in
    let rest = rest_coded (is_some (function_named r.name)) (are_coded rs) h in
    row_put r rs own (rows_coded rs rest)

types_coded : (ts : List TypeRow) (ns : Names) → Coded ns → Coded (type_names ts ++ ns)
types_coded [] ns h = h
types_coded (t ∷ ts) ns h = put (record { name = t.name; role = TypeName (meaning_of t.kind) }) (type_names ts ++ ns) (λ b e. cc) (types_coded ts ns h)

present_coded : are_coded present_rows ≡ true
present_coded = refl

pub library_coded : Coded library_names
library_coded = types_coded library_types (row_names present_rows) (rows_coded present_rows present_coded)

-- 3. Declarations

pub locals_coded : (ls : List Local) (ns : Names) → Coded ns → Coded (with_locals ns ls)
locals_coded [] ns h = h
locals_coded (l ∷ ls) ns h = locals_coded ls (with_local ns l) (put_variable l.name ns h)

name_coded : (o : Option Name) (ns : Names) → Coded ns → Coded (with_name ns o)
name_coded None ns h = h
name_coded (Some x) ns h = put_variable x ns h

pub parameters_coded : (ps : List Parameter) (ns : Names) → Coded ns → Coded (with_parameters ns ps)
parameters_coded [] ns h = h
parameters_coded (p ∷ ps) ns h = parameters_coded ps (with_name ns p.name) (name_coded p.name ns h)

members_coded : (ms : List Member) (ns : Names) → Coded ns → Coded (with_members ns ms)
members_coded [] ns h = h
members_coded (m ∷ ms) ns h = members_coded ms (declared m.name MemberName ∷ ns) (put_member m.name ns h)

pub item_behind : (i : Item) (ns : Names) → Coded ns → Coded (with_item ns i)
item_behind (item.Include f) ns h = h
item_behind (item.StructType x) ns h = put_struct x ns h
item_behind (item.Struct s) ns h = h
item_behind (item.Enumeration e) ns h = put_enumeration e.name (with_members ns e.members) (members_coded e.members ns h)
item_behind (item.FunctionType s) ns h = put_struct s.name ns h
item_behind (item.Prototype s) ns h = put_function s.name ns h
item_behind (item.Variable v) ns h = put_variable v.name ns h
item_behind (item.InterfaceTable t) ns h = put_variable t.name ns h
item_behind (item.Function f) ns h = put_function f.signature.name ns h
