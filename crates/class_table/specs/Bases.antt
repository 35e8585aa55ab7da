-- What classes and interfaces are derived from.
use Rattle.std.specs.Prelude.{◌≡◌, ℕ, zero, suc, Bool, true, false, not, ◌&&◌, ◌||◌, ◌==◌, if◌then◌else◌, List, [], ◌∷◌, ◌++◌, length, map, Option, Some, None, Result, Ok, Err}
use Rattle.std.specs.List.{filter, filter_map, flat_map, enumerate_from}
use Rattle.vg_base.specs.declared.event.Span.{Span}
use Rattle.static_rules.specs.declared.rules.Refusal.{Refusal}
use Rattle.vala_tree.specs.declared.names.TypeTree.{TypeTree}
use Rattle.vala_types.specs.declared.ties.Ties.{Ties}
use Rattle.vala_types.specs.declared.types.Shape.{Shape}
use Rattle.vala_types.specs.declared.types.Shape.TheVariants as shape
use Rattle.vala_types.specs.declared.types.VType.{VType}
use Rattle.symbols.specs.declared.kinds.SymbolKind.{SymbolKind}
use Rattle.symbols.specs.declared.kinds.SymbolKind.TheVariants as kind
use Rattle.symbols.specs.declared.table.Symbol.{Symbol}
use Rattle.symbols.specs.Outline.{and_then}
use Rattle.symbols.specs.Table.{levels, object}
use Rattle.symbols.specs.Types.{type_of}
use Rattle.class_table.specs.Trees.{Program, Written, scope_around, symbol}

-- 1. What is written

abbrev pub is_class_kind : SymbolKind → Bool
is_class_kind kind.Class = true
is_class_kind k = false

abbrev pub is_interface_kind : SymbolKind → Bool
is_interface_kind kind.Interface = true
is_interface_kind k = false

abbrev pub has_kind : (SymbolKind → Bool) → Program → ℕ → Bool
has_kind test p n = by (symbol p n)
  where
    by : Option Symbol → Bool
    by None = false
    by (Some s) = test s.kind

-- a class, and an interface, of the program
abbrev pub is_class : Program → ℕ → Bool
is_class = has_kind is_class_kind

abbrev pub is_interface : Program → ℕ → Bool
is_interface = has_kind is_interface_kind

abbrev pub bases_by : Option Written → List TypeTree
bases_by None = []
bases_by (Some w) = w.bases

-- the bases that a class or interface writes, in order
abbrev pub written_bases : Program → ℕ → List TypeTree
written_bases p n = bases_by (p.written n)

-- 2. Which of them are bases

-- A written base is one, or is of the wrong kind. Where it is no type at all, nothing is told here.
pub data Standing : Type 0 where
  Base : ℕ → Standing
  Wrong : Span → Standing
  Untold : Standing

-- the row of `MainLoop`
abbrev pub main_loop : ℕ
main_loop = 28

-- A class may have one class as base, but not `MainLoop`. An interface may have no class but `Object`.
abbrev pub may_derive : Bool → Bool → ℕ → Bool
may_derive is_interface has_class base = not has_class && (if is_interface then base == object else not (base == main_loop))

abbrev pub standing_as : Bool → Bool → Span → Shape → Standing
standing_as is_interface has_class at (shape.Class n) = if may_derive is_interface has_class n then Base n else Wrong at
standing_as is_interface has_class at (shape.Interface n) = Base n
standing_as is_interface has_class at s = Wrong at

abbrev pub standing_of : Bool → Bool → Span → Result VType Refusal → Standing
standing_of is_interface has_class at (Err r) = Untold
standing_of is_interface has_class at (Ok t) = standing_as is_interface has_class at t.shape

-- a base that is no interface
abbrev pub is_base_class : Program → Standing → Bool
is_base_class p (Base n) = not (is_interface p n)
is_base_class p s = false

-- how written bases stand, behind a base class or not
abbrev pub standings : Program → ℕ → Bool → List TypeTree → List Standing
standings p n has_class [] = []
standings p n has_class (t ∷ ts) = let s : Standing = standing_of (is_interface p n) has_class t.span (type_of p.names (scope_around p n) t) in s ∷ standings p n (has_class || is_base_class p s) ts

abbrev pub standings_of : Program → ℕ → List Standing
standings_of p n = standings p n false (written_bases p n)

abbrev pub base_number : Standing → Option ℕ
base_number (Base n) = Some n
base_number s = None

-- THE DIRECT BASES of a class or interface, in the order in which they are written
abbrev pub direct_bases : Program → ℕ → List ℕ
direct_bases p n = filter_map base_number (standings_of p n)

-- all of them by number
abbrev pub ties_of : Program → Ties
ties_of p = record { object = object; rows = map (λ row. direct_bases p row.0) (enumerate_from 0 p.names.symbols) }

-- 3. The classes above a class

abbrev pub first_class : Program → List ℕ → Option ℕ
first_class p [] = None
first_class p (n ∷ ns) = if is_interface p n then first_class p ns else Some n

-- the class that a class is derived from
abbrev pub base_of : Program → ℕ → Option ℕ
base_of p n = first_class p (direct_bases p n)

-- a base class, where there is one, and what is above it
abbrev pub and_above : (ℕ → List ℕ) → Option ℕ → List ℕ
and_above above None = []
and_above above (Some b) = b ∷ above b

-- the base class, its base class and so on, so many at most
abbrev pub chain_within : Program → ℕ → ℕ → List ℕ
chain_within p zero n = []
chain_within p (suc steps) n = and_above (chain_within p steps) (base_of p n)

-- a chain without repetition has no more steps than there are declarations
abbrev pub steps_of : Program → ℕ
steps_of p = length p.names.symbols

-- THE BASE CLASSES of a class, the nearest first
abbrev pub chain : Program → ℕ → List ℕ
chain p n = chain_within p (steps_of p) n

-- a class and its base classes
abbrev pub lineage : Program → ℕ → List ℕ
lineage p n = n ∷ chain p n

-- 4. Interfaces

-- the interfaces that a class or interface lists as bases, and those that they are derived from in turn
abbrev pub listed_interfaces : Program → ℕ → List ℕ
listed_interfaces p n = let own : List ℕ = filter (is_interface p) (direct_bases p n) in own ++ filter (is_interface p) (levels (direct_bases p) (steps_of p) own)

-- THE INTERFACES of classes
abbrev pub interfaces_of : Program → List ℕ → List ℕ
interfaces_of p cs = flat_map (listed_interfaces p) cs

-- the types whose members a class or interface has: itself, its base classes and its interfaces
abbrev pub types_above : Program → ℕ → List ℕ
types_above p n = lineage p n ++ interfaces_of p (lineage p n)
