-- The table of declarations: what is known of each when all are known.
use Rattle.std.specs.Prelude.{ℕ, zero, suc, Bool, true, false, ◌&&◌, ◌||◌, ◌==◌, ◌+◌, nat_le, if◌then◌else◌, List, [], ◌∷◌, ◌++◌, length, map, Option, Some, None, slice_get}
use Rattle.std.specs.List.{list_any, filter_map, flat_map, count_by, enumerate_from}
use Rattle.vg_base.specs.declared.event.Span.{Span}
use Rattle.vala_tree.specs.declared.member.FileTree.{FileTree}
use Rattle.vala_tree.specs.declared.member.Modifier.{Modifier}
use Rattle.vala_tree.specs.declared.member.ModifierWord.{ModifierWord}
use Rattle.vala_tree.specs.declared.member.ModifierWord.TheVariants as word
use Rattle.vala_tree.specs.declared.names.Identifier.{Identifier}
use Rattle.vala_tree.specs.declared.names.NameTree.{NameTree}
use Rattle.vala_tree.specs.declared.names.TypeShape.{TypeShape}
use Rattle.vala_tree.specs.declared.names.TypeShape.TheVariants as shape
use Rattle.vala_tree.specs.declared.names.TypeTree.{TypeTree}
use Rattle.symbols.specs.declared.kinds.Access.{Access}
use Rattle.symbols.specs.declared.kinds.Access.TheVariants.{Public, Protected, Internal, Private}
use Rattle.symbols.specs.declared.kinds.SymbolKind.{SymbolKind}
use Rattle.symbols.specs.declared.kinds.SymbolKind.TheVariants as kind
use Rattle.symbols.specs.declared.table.Symbol.{Symbol}
use Rattle.symbols.specs.declared.table.Scope.{Scope}
use Rattle.symbols.specs.declared.table.Names.{Names}
use Rattle.symbols.specs.Outline.{Declared, Region, Held, Outline, and_then, or_else}
use Rattle.symbols.specs.Members.{scope_at_number, namespace_in, outline_of}
use Rattle.symbols.specs.Search.{named, is_inside}

-- 1. Access

abbrev pub access_word : ModifierWord → Option Access
access_word word.Public = Some Public
access_word word.Protected = Some Protected
access_word word.Internal = Some Internal
access_word word.Private = Some Private
access_word _ = None

abbrev pub written_access : List Modifier → Option Access
written_access [] = None
written_access (m ∷ ms) = or_else (access_word m.word) (written_access ms)

abbrev pub is_type_with_members : SymbolKind → Bool
is_type_with_members kind.Class = true
is_type_with_members kind.Interface = true
is_type_with_members kind.Struct = true
is_type_with_members _ = false

abbrev pub declared_at : Outline → Option ℕ → Option Declared
declared_at o None = None
declared_at o (Some n) = slice_get o.declared n

-- Without a word members of classes, interfaces and structs are private, and other declarations internal.
abbrev pub access_in : Option Declared → Access
access_in None = Internal
access_in (Some owner) = if is_type_with_members owner.kind then Private else Internal

abbrev pub access_or : Access → Option Access → Access
access_or default None = default
access_or default (Some a) = a

abbrev pub own_access : Outline → Declared → Access
own_access o d = access_or (access_in (declared_at o d.owner)) (written_access d.heading.modifiers)

abbrev pub owner_access : Outline → Option Declared → Access
owner_access o None = Internal
owner_access o (Some owner) = own_access o owner

-- WHO MAY USE a declaration. A member of an enum and an error code have the access of their type. Namespaces, parameters, locals and
-- built-in names are for all that see them.
abbrev pub access_of : Outline → Declared → Access
access_of o d = by d.kind
  where
    by : SymbolKind → Access
    by kind.Namespace = Public
    by kind.Parameter = Public
    by kind.Local = Public
    by (kind.BuiltIn n) = Public
    by kind.EnumMember = owner_access o (declared_at o d.owner)
    by kind.ErrorCode = owner_access o (declared_at o d.owner)
    by _ = own_access o d

-- 2. Namespaces in use

-- the scope of the namespace that names with dots name, from a scope on
abbrev pub namespace_named : Outline → ℕ → List Identifier → Option ℕ
namespace_named o scope [] = Some scope
namespace_named o scope (x ∷ xs) = and_then (namespace_in o scope x.text) (λ n. namespace_named o (scope_at_number o n) xs)

abbrev pub using_named : Outline → NameTree → Option ℕ
using_named o n = namespace_named o 0 n.words

-- `GLib`, whose scope is 1, and those that the `using`s of a file name
abbrev pub used_by : Outline → List NameTree → List ℕ
used_by o usings = 1 ∷ filter_map (using_named o) usings

-- 3. The table, for given bases

abbrev pub is_owned_by : ℕ → Option ℕ → Bool
is_owned_by n None = false
is_owned_by n (Some m) = m == n

abbrev pub owned : ℕ → ℕ × Declared → Option ℕ
owned n (m, d) = if is_owned_by n d.owner then Some m else None

-- the declarations in a declaration, in order
abbrev pub members_of : Outline → ℕ → List ℕ
members_of o n = filter_map (owned n) (enumerate_from 0 o.declared)

abbrev pub symbol_row : Outline → ℕ × Declared → Symbol
symbol_row o (n, d) =
    record { kind = d.kind; name = d.name; span = d.span; owner = d.owner; scope = d.scope; opened = d.opened; since = d.since; access = access_of o d; members = members_of o n }

abbrev pub bases_by : (ℕ → List ℕ) → Option ℕ → List ℕ
bases_by bases None = []
bases_by bases (Some n) = bases n

abbrev pub scope_row : (ℕ → List ℕ) → Region → Scope
scope_row bases r = record { outer = r.outer; symbol = r.symbol; bases = bases_by bases r.symbol }

-- the table where the declaration with a number has these scopes of bases
abbrev pub table_with : Outline → (ℕ → List ℕ) → Names
table_with o bases = record { symbols = map (symbol_row o) (enumerate_from 0 o.declared); scopes = map (scope_row bases) o.regions; uses = map (used_by o) o.usings }

-- 4. Bases

abbrev pub no_bases : ℕ → List ℕ
no_bases n = []

-- A base stands in a namespace, outside of classes, so the bases of others are not needed to find it.
abbrev pub plain_table : Outline → Names
plain_table o = table_with o no_bases

-- the declaration that a type names, where it is no array
abbrev pub type_named : Names → ℕ → TypeTree → Option ℕ
type_named ns scope t = by t.shape
  where
    by : TypeShape → Option ℕ
    by (shape.Single e) = named ns scope e.name.words
    by _ = None

-- the row of `Object`
abbrev pub object : ℕ
object = 22

-- behind the bases that it names an interface has `Object`
abbrev pub implied_bases : SymbolKind → List ℕ
implied_bases kind.Interface = object ∷ []
implied_bases _ = []

abbrev pub has_bases : SymbolKind → Bool
has_bases kind.Class = true
has_bases kind.Interface = true
has_bases _ = false

abbrev pub bases_in : Names → Option Declared → List ℕ
bases_in plain None = []
bases_in plain (Some d) = by (has_bases d.kind)
  where
    by : Bool → List ℕ
    by false = []
    by true = filter_map (type_named plain d.scope) d.heading.types ++ implied_bases d.kind

-- the direct bases of a declaration, in the order in which they are written
abbrev pub direct_bases : Names → Outline → ℕ → List ℕ
direct_bases plain o n = bases_in plain (slice_get o.declared n)

-- What one step leads to from these, level by level. There are no more levels than steps.
abbrev pub levels : (ℕ → List ℕ) → ℕ → List ℕ → List ℕ
levels step zero cs = []
levels step (suc steps) [] = []
levels step (suc steps) (c ∷ cs) = let next : List ℕ = flat_map step (c ∷ cs) in next ++ levels step steps next

-- a chain of bases without repetition has no more steps than there are classes and interfaces
abbrev pub steps_of : Outline → ℕ
steps_of o = count_by (λ d. has_bases d.kind) o.declared + 1

-- ALL BASES of a class or interface, the nearest first, and those equally near in the order in which they are written
abbrev pub all_bases : Names → Outline → ℕ → List ℕ
all_bases plain o n = levels (direct_bases plain o) (steps_of o) (n ∷ [])

abbrev pub all_base_scopes : Names → Outline → ℕ → List ℕ
all_base_scopes plain o n = map (scope_at_number o) (all_bases plain o n)

-- 5. The table of a program

abbrev pub table_of : Outline → Names
table_of o = table_with o (all_base_scopes (plain_table o) o)

-- THE DECLARATIONS of a program as they are looked up
abbrev pub names_of : List FileTree → Names
names_of files = table_of (outline_of files)

-- 6. Where a part of the text stands

abbrev pub covers : Span → Span → Bool
covers outer inner = outer.file == inner.file && nat_le outer.start inner.start && nat_le inner.«end» outer.«end»

abbrev pub holds : Outline → ℕ → Span → Bool
holds o scope s = list_any (λ h. h.scope == scope && covers h.text s) o.texts

-- an inner scope has the greater number
abbrev pub last_holding : Names → Outline → ℕ → Span → ℕ → ℕ → List Region → ℕ
last_holding ns o home s found n [] = found
last_holding ns o home s found n (r ∷ rs) = last_holding ns o home s (if is_inside ns n home && holds o n s then n else found) (suc n) rs

-- THE INNERMOST SCOPE whose text holds a part of the text, among a scope and those inside it; 0 where none does
abbrev pub scope_at : Names → Outline → ℕ → Span → ℕ
scope_at ns o home s = last_holding ns o home s 0 0 o.regions
