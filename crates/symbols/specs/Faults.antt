-- What breaks the rules of declarations: the second phase of refusals, as a list of all faults.
use Rattle.std.specs.Prelude.{◌≡◌, ℕ, zero, suc, Bool, true, false, not, ◌&&◌, ◌||◌, ◌==◌, ◌+◌, nat_lt, nat_le, if◌then◌else◌, List, [], ◌∷◌, ◌++◌, length, map, drop, codes, Option, Some, None, slice_get}
use Rattle.std.specs.Option.{option_map}
use Rattle.std.specs.List.{list_any, list_all, filter, filter_map, flat_map, enumerate_from, sum_by, count_by}
use Rattle.std.specs.Str.{bytes_eq}
use Rattle.vg_base.specs.declared.event.Span.{Span}
use Rattle.static_rules.specs.declared.rules.Refusal.{Refusal}
use Rattle.static_rules.specs.declared.rules.Rule.{Rule}
use Rattle.static_rules.specs.declared.rules.Rule.TheVariants.{M3, N2, N5, N6}
use Rattle.vala_tree.specs.declared.member.Modifier.{Modifier}
use Rattle.vala_tree.specs.declared.member.ModifierWord.{ModifierWord}
use Rattle.vala_tree.specs.declared.member.ModifierWord.TheVariants as word
use Rattle.vala_tree.specs.declared.member.FileTree.{FileTree}
use Rattle.vala_tree.specs.declared.names.TypeShape.{TypeShape}
use Rattle.vala_tree.specs.declared.names.TypeShape.TheVariants as shape
use Rattle.vala_tree.specs.declared.names.TypeTree.{TypeTree}
use Rattle.symbols.specs.declared.kinds.SymbolKind.{SymbolKind}
use Rattle.symbols.specs.declared.kinds.SymbolKind.TheVariants as kind
use Rattle.symbols.specs.BuiltIns.{built_in_names}
use Rattle.symbols.specs.Outline.{AccessPlace, AccessWord, Get, Set, Construct, Default, Declared, Outline}
use Rattle.symbols.specs.Members.{nowhere, outline_of, is_namespace}
use Rattle.symbols.specs.declared.table.Names.{Names}
use Rattle.symbols.specs.Search.{named, contains, base_scopes}
use Rattle.symbols.specs.Table.{declared_at, levels, table_of}
use Rattle.symbols.specs.Spelling.{CName, all_c_names}

-- a fault of a rule at a part of the text
abbrev pub fault : Rule → Span → Refusal
fault r s = record { rule = r; phase = 2; span = s }

-- the declarations with their numbers
abbrev pub numbered : Outline → List (ℕ × Declared)
numbered o = enumerate_from 0 o.declared

-- 1. Declared twice

abbrev pub same_number : Option ℕ → Option ℕ → Bool
same_number None None = true
same_number (Some a) (Some b) = a == b
same_number _ _ = false

-- two declarations of one name in one scope, or in one enum or error domain
abbrev pub is_same_name : Declared → Declared → Bool
is_same_name a b = a.scope == b.scope && same_number a.owner b.owner && bytes_eq a.name b.name

-- what stands in a list behind one of its like is a fault where it stands
abbrev pub repeated : {X : Type 0} → (X → X → Bool) → (X → Span) → List X → List X → List Refusal
repeated same at before [] = []
repeated same at before (x ∷ xs) = (if list_any (λ y. same y x) before then fault N2 (at x) ∷ [] else []) ++ repeated same at (x ∷ before) xs

abbrev pub span_of : Declared → Span
span_of s = s.span

abbrev pub same_c_name : CName → CName → Bool
same_c_name a b = bytes_eq a.text b.text

abbrev pub c_place : CName → Span
c_place c = c.at

abbrev pub same_word : AccessWord → AccessWord → Bool
same_word Get Get = true
same_word Set Set = true
same_word Construct Construct = true
same_word Default Default = true
same_word _ _ = false

abbrev pub same_access : AccessPlace → AccessPlace → Bool
same_access a b = same_word a.word b.word

abbrev pub access_place : AccessPlace → Span
access_place a = a.at

-- a word that stands twice among the accessors of a property
abbrev pub accessor_faults : Declared → List Refusal
accessor_faults s = repeated same_access access_place [] s.heading.accessors

-- DECLARED TWICE: a name in its scope, a C name in the program, or a word of a property; the later name is named
abbrev pub twice : Outline → List Refusal
twice o = repeated is_same_name span_of [] o.declared ++ (repeated same_c_name c_place [] (all_c_names o) ++ flat_map accessor_faults o.declared)

-- 2. `main`

abbrev pub is_method : SymbolKind → Bool
is_method kind.Method = true
is_method _ = false

abbrev pub is_main : Declared → Bool
is_main s = is_method s.kind && bytes_eq s.name (codes "main")

abbrev pub is_static_word : Modifier → Bool
is_static_word m = by m.word
  where
    by : ModifierWord → Bool
    by word.Static = true
    by _ = false

abbrev pub is_static : Declared → Bool
is_static s = list_any is_static_word s.heading.modifiers

-- a `main` outside of everything
abbrev pub is_outermost_main : Declared → Bool
is_outermost_main s = is_main s && s.scope == 0

abbrev pub may_hold_main : Declared → Option Declared → Bool
may_hold_main s None = false
may_hold_main s (Some owner) = by owner.kind
  where
    by : SymbolKind → Bool
    by kind.Class = is_static s
    by k = is_namespace k

-- one in a namespace, or a static one in a class
abbrev pub is_inner_main : Outline → Declared → Bool
is_inner_main o s = is_main s && may_hold_main s (declared_at o s.owner)

abbrev pub mains : Outline → List Declared
mains o = by (filter is_outermost_main o.declared)
  where
    by : List Declared → List Declared
    by [] = filter (is_inner_main o) o.declared
    by (s ∷ ss) = s ∷ ss

-- NO `main`, OR MORE THAN ONE: the first byte of the first file is named, or the second name
abbrev pub main_faults : List Declared → List Refusal
main_faults [] = fault N5 nowhere ∷ []
main_faults (s ∷ []) = []
main_faults (s ∷ t ∷ ss) = fault N5 t.span ∷ []

-- 3. Cycles

-- the struct that a field holds a value of: no array, and no type with `?`
abbrev pub held_type : Names → ℕ → TypeTree → Option ℕ
held_type ns scope t = by t.shape
  where
    by : TypeShape → Option ℕ
    by (shape.Single e) = if e.is_nullable then None else named ns scope e.name.words
    by _ = None

abbrev pub is_struct : Option Declared → Bool
is_struct None = false
is_struct (Some d) = by d.kind
  where
    by : SymbolKind → Bool
    by kind.Struct = true
    by _ = false

abbrev pub held_struct : Names → Outline → Declared → List ℕ
held_struct ns o d = by d.kind
  where
    by : SymbolKind → List ℕ
    by kind.Field = filter (λ n. is_struct (slice_get o.declared n)) (filter_map (held_type ns d.scope) d.heading.types)
    by _ = []

-- the fields that make up a value of a struct
abbrev pub is_part_of : ℕ → Declared → Bool
is_part_of n d = by d.kind
  where
    by : SymbolKind → Bool
    by kind.Field = same_number d.owner (Some n) && not (is_static d)
    by _ = false

abbrev pub fields_of : Outline → ℕ → List Declared
fields_of o n = filter (is_part_of n) o.declared

-- the structs of its fields
abbrev pub direct_parts : Names → Outline → ℕ → List ℕ
direct_parts ns o n = flat_map (held_struct ns o) (fields_of o n)

-- a chain of structs without repetition has no more steps than there are structs
abbrev pub struct_steps : Outline → ℕ
struct_steps o = count_by (λ d. is_struct (Some d)) o.declared + 1

-- the structs of its fields at any depth
abbrev pub all_parts : Names → Outline → ℕ → List ℕ
all_parts ns o n = levels (direct_parts ns o) (struct_steps o) (n ∷ [])

-- the scope that a declaration opens is among these
abbrev pub opens_one_of : List ℕ → Option ℕ → Bool
opens_one_of scopes None = false
opens_one_of scopes (Some scope) = contains scopes scope

abbrev pub opened_bases : Names → Option ℕ → List ℕ
opened_bases ns None = []
opened_bases ns (Some scope) = base_scopes ns scope

-- what a type leads to: a class or interface to its bases, a struct to the structs of its fields
abbrev pub leads : Names → Outline → ℕ × Declared → ℕ × Declared → Bool
leads ns o (n, d) (m, e) = by d.kind
  where
    by : SymbolKind → Bool
    by kind.Class = opens_one_of (opened_bases ns d.opened) e.opened
    by kind.Interface = opens_one_of (opened_bases ns d.opened) e.opened
    by kind.Struct = contains (all_parts ns o n) m
    by k = false

-- A TYPE THAT LEADS TO ITSELF, and comes before all others on its cycles
abbrev pub is_first_of_cycle : Names → Outline → ℕ × Declared → Bool
is_first_of_cycle ns o d = by (leads ns o d d)
  where
    by : Bool → Bool
    by false = false
    by true = list_all (λ e. not (nat_lt e.0 d.0 && leads ns o d e && leads ns o e d)) (numbered o)

abbrev pub cycle_fault : Names → Outline → ℕ × Declared → List Refusal
cycle_fault ns o d = if is_first_of_cycle ns o d then fault N6 d.1.span ∷ [] else []

abbrev pub cycles : Names → Outline → List Refusal
cycles ns o = flat_map (cycle_fault ns o) (numbered o)

-- 4. Too many symbols

-- How many fields a struct has, those of the structs of its fields with them, to a depth. A struct on a cycle has no meaning.
abbrev pub deep_fields : Names → Outline → ℕ → ℕ → ℕ
deep_fields ns o zero n = 0
deep_fields ns o (suc depth) n = if contains (all_parts ns o n) n then 0 else sum_by (λ f. 1 + sum_by (deep_fields ns o depth) (held_struct ns o f)) (fields_of o n)

-- a declaration counts once, and with a field of struct type the fields of the struct count again
abbrev pub weight : Names → Outline → Declared → ℕ
weight ns o d = 1 + sum_by (deep_fields ns o (struct_steps o)) (held_struct ns o d)

abbrev pub most_symbols : ℕ
most_symbols = 100000

-- the first declaration with which there are more than so many, behind a number of others
abbrev pub first_over : (Declared → ℕ) → ℕ → List Declared → List Refusal
first_over weight before [] = []
first_over weight before (d ∷ ds) = if nat_lt most_symbols (before + weight d) then fault M3 d.span ∷ [] else first_over weight (before + weight d) ds

-- the declarations of the program, without those that are built in
abbrev pub own_declared : Outline → List Declared
own_declared o = drop (length built_in_names) o.declared

abbrev pub too_many : Names → Outline → List Refusal
too_many ns o = first_over (weight ns o) 0 (own_declared o)

-- 5. All of them

-- ALL FAULTS of the declarations of an outline with its table
abbrev pub faults_in : Names → Outline → List Refusal
faults_in ns o = too_many ns o ++ (twice o ++ (main_faults (mains o) ++ cycles ns o))

abbrev pub faults_of : Outline → List Refusal
faults_of o = faults_in (table_of o) o

-- ALL FAULTS of the declarations of a program
abbrev pub declaration_faults : List FileTree → List Refusal
declaration_faults files = faults_of (outline_of files)
