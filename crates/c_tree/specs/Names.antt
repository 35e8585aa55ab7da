-- What the grammar must know of names: which are types, functions, variables and members in scope.
use Rattle.std.specs.Prelude.{ℕ, ◌==◌, ◌&&◌, Bool, true, false, if◌then◌else◌, List, [], ◌∷◌, ◌++◌, codes, Option, Some, None}
use Rattle.std.specs.Str.{bytes_eq}
use Rattle.c_tree.specs.declared.names.Name.{Name}
use Rattle.c_tree.specs.declared.names.Base.{Base}
use Rattle.c_tree.specs.declared.names.Base.TheVariants as base
use Rattle.c_tree.specs.declared.names.CType.{CType}
use Rattle.c_tree.specs.declared.code.Local.{Local}
use Rattle.c_tree.specs.declared.unit.Item.{Item}
use Rattle.c_tree.specs.declared.unit.Item.TheVariants as item
use Rattle.c_tree.specs.declared.unit.Member.{Member}
use Rattle.c_tree.specs.declared.unit.Parameter.{Parameter}
use Rattle.c_tree.specs.declared.unit.Signature.{Signature}
use Rattle.c_tree.specs.declared.kinds.Kind.{Kind}
use Rattle.c_tree.specs.Kinds.{same, int, char}
use Rattle.c_tree.specs.Library.{TypeRow, Row, library_types, present_rows}

-- which of the types that `main` is written with a type means
pub data Meaning : Type 0 where
  AnInt : Meaning
  AChar : Meaning
  Another : Meaning

-- what a name is to the grammar
pub data Role : Type 0 where
  TypeName : Meaning → Role
  -- a function of the library, and whether it takes a type first
  RowName : Bool → Role
  VariableName : Role
  FunctionName : Role
  MemberName : Role
  -- a name that nothing in scope declares
  Unknown : Role

-- a name, and what it is
pub record Declared : Type 0 where
  pub name : List ℕ
  pub role : Role

-- The names in scope, the last declared first.
abbrev pub Names : Type 0
Names = List Declared

-- what a name is: the last that was declared counts
abbrev pub role_of : Names → List ℕ → Role
role_of [] x = Unknown
role_of (d ∷ ns) x = if bytes_eq d.name x then d.role else role_of ns x

-- a name as it is declared
abbrev pub declared : Name → Role → Declared
declared x r = record { name = x.text; role = r }

-- 1. The library

-- which of the types of `main` a kind is
abbrev pub meaning_of : Kind → Meaning
meaning_of k = if same k int then AnInt else (if same k char then AChar else Another)

-- the types of the library
abbrev pub type_names : List TypeRow → Names
type_names [] = []
type_names (t ∷ ts) = record { name = t.name; role = TypeName (meaning_of t.kind) } ∷ type_names ts

-- the functions of the library
abbrev pub row_names : List Row → Names
row_names [] = []
row_names (r ∷ rs) = record { name = r.name; role = RowName r.takes_type } ∷ row_names rs

-- what is in scope in front of a unit
abbrev pub library_names : Names
library_names = type_names library_types ++ row_names present_rows

-- 2. Declarations

-- behind a declaration
abbrev pub with_local : Names → Local → Names
with_local ns l = declared l.name VariableName ∷ ns

-- behind declarations
abbrev pub with_locals : Names → List Local → Names
with_locals ns [] = ns
with_locals ns (l ∷ ls) = with_locals (with_local ns l) ls

-- behind a name that may be missing
abbrev pub with_name : Names → Option Name → Names
with_name ns None = ns
with_name ns (Some x) = declared x VariableName ∷ ns

-- behind parameters
abbrev pub with_parameters : Names → List Parameter → Names
with_parameters ns [] = ns
with_parameters ns (p ∷ ps) = with_parameters (with_name ns p.name) ps

-- behind members
abbrev pub with_members : Names → List Member → Names
with_members ns [] = ns
with_members ns (m ∷ ms) = with_members (declared m.name MemberName ∷ ns) ms

-- what is in scope behind an item
abbrev pub with_item : Names → Item → Names
with_item ns (item.Include f) = ns
with_item ns (item.StructType x) = declared x (TypeName Another) ∷ ns
with_item ns (item.Struct s) = ns
with_item ns (item.Enumeration e) = declared e.name (TypeName AnInt) ∷ with_members ns e.members
with_item ns (item.FunctionType s) = declared s.name (TypeName Another) ∷ ns
with_item ns (item.Prototype s) = declared s.name FunctionName ∷ ns
with_item ns (item.Variable v) = declared v.name VariableName ∷ ns
with_item ns (item.InterfaceTable t) = declared t.name VariableName ∷ ns
with_item ns (item.Function f) = declared f.signature.name FunctionName ∷ ns

-- 3. `main`

-- which of the types of `main` a name means
abbrev pub meaning_of_role : Role → Meaning
meaning_of_role (TypeName m) = m
meaning_of_role r = Another

-- which of them the base of a type means
abbrev pub meaning_of_base : Names → Base → Meaning
meaning_of_base ns base.Void = Another
meaning_of_base ns base.Int = AnInt
meaning_of_base ns base.Char = AChar
meaning_of_base ns (base.Named x) = meaning_of_role (role_of ns x.text)

-- whether it is the first
abbrev pub is_an_int : Meaning → Bool
is_an_int AnInt = true
is_an_int m = false

-- whether it is the second
abbrev pub is_a_char : Meaning → Bool
is_a_char AChar = true
is_a_char m = false

-- `int`, and `char **`, as any type that means it
abbrev pub is_int : Names → CType → Bool
is_int ns c = is_an_int (meaning_of_base ns c.base) && c.stars == 0

-- `char **`, as any type that means it
abbrev pub is_texts : Names → CType → Bool
is_texts ns c = is_a_char (meaning_of_base ns c.base) && c.stars == 2

-- the two parameters of `main`
abbrev pub are_arguments : Names → List Parameter → Bool
are_arguments ns (a ∷ b ∷ []) = is_int ns a.declared && is_texts ns b.declared
are_arguments ns ps = false

-- whether a function is named so
abbrev pub is_named_main : Signature → Bool
is_named_main s = bytes_eq s.name.text (codes "main")

-- not static
abbrev pub not_static : Bool → Bool
not_static true = false
not_static false = true

-- a function named `main` is `int main (int, char **)`
abbrev pub main_fits : Names → Signature → Bool
main_fits ns s = if is_named_main s then not_static s.is_static && is_int ns s.result && are_arguments ns s.parameters else true
