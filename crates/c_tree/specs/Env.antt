-- What is declared at a place of a unit.
use Rattle.std.specs.Prelude.{ℕ, zero, suc, ◌+◌, ◌-◌, ◌^◌, ◌&&◌, nat_lt, Bool, true, false, if◌then◌else◌, List, [], ◌∷◌, ◌++◌, length, is_some, Option, Some, None, option_and_then}
use Rattle.std.specs.Str.{bytes_eq}
use Rattle.std.specs.Option.{option_map}
use Rattle.c_tree.specs.declared.names.Name.{Name}
use Rattle.c_tree.specs.declared.names.Base.{Base}
use Rattle.c_tree.specs.declared.names.Base.TheVariants as base
use Rattle.c_tree.specs.declared.names.CType.{CType}
use Rattle.c_tree.specs.declared.kinds.KindBase.{KindBase}
use Rattle.c_tree.specs.declared.kinds.KindBase.TheVariants.{Void, Struct}
use Rattle.c_tree.specs.declared.kinds.Kind.{Kind}
use Rattle.c_tree.specs.declared.kinds.Sort.{Sort}
use Rattle.c_tree.specs.declared.kinds.Sort.TheVariants as sort
use Rattle.c_tree.specs.Kinds.{void, int, char, same_known, same_list, is_pointer}
use Rattle.c_tree.specs.Library.{Takes, Field, Structure, TypeRow, Row, library_types, library_structs, library_signatures, present_rows}

-- a name, and what it stands for
pub record Entry : Type 0 where
  pub name : List ℕ
  pub sort : Sort

-- The names in the scopes, the innermost scope first and in it the last name; the structs and the signatures, by their numbers.
pub record Env : Type 0 where
  pub scopes : List (List Entry)
  pub structs : List Structure
  pub signatures : List Takes

-- 1. Names

-- what a name stands for in a scope
abbrev pub found_in : List Entry → List ℕ → Option Sort
found_in [] x = None
found_in (e ∷ es) x = if bytes_eq e.name x then Some e.sort else found_in es x

-- the first of two that is there
abbrev pub or_else : Option Sort → Option Sort → Option Sort
or_else (Some s) o = Some s
or_else None o = o

-- what a name stands for: the innermost scope that has it decides
abbrev pub found : List (List Entry) → List ℕ → Option Sort
found [] x = None
found (es ∷ ess) x = or_else (found_in es x) (found ess x)

-- the innermost scope
abbrev pub innermost : List (List Entry) → List Entry
innermost [] = []
innermost (es ∷ ess) = es

-- one more name in the innermost scope
abbrev pub with_entry : List (List Entry) → Entry → List (List Entry)
with_entry [] e = (e ∷ []) ∷ []
with_entry (es ∷ ess) e = (e ∷ es) ∷ ess

-- one more name
abbrev pub declare : Env → Name → Sort → Env
declare env x s = record env { scopes = with_entry env.scopes (record { name = x.text; sort = s }) }

-- a new scope in all others
abbrev pub opened : Env → Env
opened env = record env { scopes = [] ∷ env.scopes }

-- 2. Structs

-- the struct with a number
abbrev pub structure_at : List Structure → ℕ → Option Structure
structure_at [] n = None
structure_at (s ∷ ss) zero = Some s
structure_at (s ∷ ss) (suc n) = structure_at ss n

-- the number of the struct with that name, counted from a number on
abbrev pub structure_named : ℕ → List Structure → List ℕ → Option ℕ
structure_named n [] x = None
structure_named n (s ∷ ss) x = if bytes_eq s.name x then Some n else structure_named (suc n) ss x

-- the fields of a struct that is defined
abbrev pub fields_of : Env → ℕ → Option (List Field)
fields_of env n = option_and_then (λ s. s.fields) (structure_at env.structs n)

-- the field with a name
abbrev pub field_named : List Field → List ℕ → Option Field
field_named [] x = None
field_named (f ∷ fs) x = if bytes_eq f.name x then Some f else field_named fs x

-- 3. Kinds

-- the cells of a struct
abbrev pub cells_in : Option Structure → ℕ
cells_in None = 0
cells_in (Some s) = s.cells

-- the cells of a base
abbrev pub base_cells : Env → KindBase → ℕ
base_cells env (Struct n) = cells_in (structure_at env.structs n)
base_cells env b = 1

-- how many cells a kind takes: a number, a pointer and a function one
abbrev pub cells_of : Env → Kind → ℕ
cells_of env k = if is_pointer k then 1 else base_cells env k.base

-- whether the cells of a base are known
abbrev pub laid_out_base : Env → KindBase → Bool
laid_out_base env Void = false
laid_out_base env (Struct n) = is_some (fields_of env n) && nat_lt (base_cells env (Struct n)) (2 ^ 62)
laid_out_base env b = true

-- whether the cells of a kind are known and fewer than 2^62: those of a struct are known behind its definition
abbrev pub laid_out : Env → Kind → Bool
laid_out env k = if is_pointer k then true else laid_out_base env k.base

-- what a pointer leads to
abbrev pub target : Kind → Kind
target k = record { base = k.base; stars = k.stars - 1 }

-- a pointer that leads to what is laid out
abbrev pub reaches : Env → Kind → Bool
reaches env k = is_pointer k && laid_out env (target k)

-- the kind of a type's name
abbrev pub type_sort : Option Sort → Option Kind
type_sort (Some (sort.Type k)) = Some k
type_sort s = None

-- what the base of a type means
abbrev pub base_kind : Env → Base → Option Kind
base_kind env base.Void = Some void
base_kind env base.Int = Some int
base_kind env base.Char = Some char
base_kind env (base.Named x) = type_sort (found env.scopes x.text)

-- what a type means; an undeclared one nothing
abbrev pub kind_of : Env → CType → Option Kind
kind_of env c = option_map (λ k. record { base = k.base; stars = k.stars + c.stars }) (base_kind env c.base)

-- 4. Signatures

-- signatures with equal parts
abbrev pub same_takes : Takes → Takes → Bool
same_takes a b = same_known a.result b.result && same_list a.parameters b.parameters

-- the number of a signature: the first that equals it by its parts, or the next one
abbrev pub signature_number : ℕ → List Takes → Takes → ℕ
signature_number n [] t = n
signature_number n (u ∷ us) t = if same_takes u t then n else signature_number (suc n) us t

-- the number of a signature
abbrev pub number_of : Env → Takes → ℕ
number_of env t = signature_number 0 env.signatures t

-- with a signature that may be new
abbrev pub with_signature : Env → Takes → Env
with_signature env t = if nat_lt (number_of env t) (length env.signatures) then env else record env { signatures = env.signatures ++ t ∷ [] }

-- the signature with a number
abbrev pub signature_at : List Takes → ℕ → Option Takes
signature_at [] n = None
signature_at (t ∷ ts) zero = Some t
signature_at (t ∷ ts) (suc n) = signature_at ts n

-- 5. The library

-- the types of the library
abbrev pub type_entries : List TypeRow → List Entry
type_entries [] = []
type_entries (t ∷ ts) = record { name = t.name; sort = sort.Type t.kind } ∷ type_entries ts

-- the functions of the library, from a number on
abbrev pub row_entries : ℕ → List Row → List Entry
row_entries n [] = []
row_entries n (r ∷ rs) = record { name = r.name; sort = sort.Row n } ∷ row_entries (suc n) rs

-- what is declared in front of a unit: the library stands in the same scope as the items
abbrev pub library : Env
library =
    record { scopes = (type_entries library_types ++ row_entries 0 present_rows) ∷ []; structs = library_structs; signatures = library_signatures }
