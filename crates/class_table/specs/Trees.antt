-- A program as the phases behind the second see it: its table of declarations, and what is written of each.
use Rattle.std.specs.Prelude.{ℕ, Bool, true, false, ◌&&◌, ◌==◌, List, [], ◌∷◌, ◌++◌, map, Option, Some, None, is_some, slice_get}
use Rattle.std.specs.List.{list_any, filter, flat_map}
use Rattle.std.specs.Option.{option_map}
use Rattle.vg_base.specs.declared.event.Span.{Span}
use Rattle.vala_tree.specs.declared.names.NameTree.{NameTree}
use Rattle.vala_tree.specs.declared.names.TypeTree.{TypeTree}
use Rattle.vala_tree.specs.declared.member.Accessor.{Accessor}
use Rattle.vala_tree.specs.declared.member.Class.{Class, roll-Class, out-Class}
use Rattle.vala_tree.specs.declared.member.Declaration.{Declaration, roll-Declaration, out-Declaration}
use Rattle.vala_tree.specs.declared.member.Declaration.TheOpen.{Declaration-F, Class-F, Member-F}
use Rattle.vala_tree.specs.declared.member.Declaration.TheFolds.{fold-Member, map-Declaration}
use Rattle.vala_tree.specs.declared.member.FileTree.{FileTree}
use Rattle.vala_tree.specs.declared.member.Member.{Member, roll-Member, out-Member}
use Rattle.vala_tree.specs.declared.member.Modifier.{Modifier}
use Rattle.vala_tree.specs.declared.member.ModifierWord.{ModifierWord}
use Rattle.vala_tree.specs.declared.member.ModifierWord.TheVariants as word
use Rattle.vala_tree.specs.declared.member.Parameter.{Parameter}
use Rattle.symbols.specs.declared.kinds.SymbolKind.{SymbolKind}
use Rattle.symbols.specs.declared.kinds.SymbolKind.TheVariants as kind
use Rattle.symbols.specs.declared.table.Symbol.{Symbol}
use Rattle.symbols.specs.declared.table.Names.{Names}
use Rattle.symbols.specs.Outline.{and_then, first_at}
use Rattle.symbols.specs.Search.{scope_of}

-- 1. The members of a file

-- a part of a tree, and the members that stand in it at any depth
pub record Branch (X : Type 0) : Type 0 where
  pub itself : X
  pub members : List Member

abbrev pub itself_of : {X : Type 0} → Branch X → X
itself_of b = b.itself

abbrev pub members_of : {X : Type 0} → Branch X → List Member
members_of b = b.members

abbrev pub parts_inside : Declaration-F (Branch Declaration) (Branch Class) (Branch Member) → List Member
parts_inside (Declaration-F.Namespace n ms) = flat_map members_of ms
parts_inside (Declaration-F.Class c) = c.members
parts_inside (Declaration-F.Interface c) = c.members
parts_inside (Declaration-F.Struct n ms) = flat_map members_of ms
parts_inside d = []

abbrev pub declaration_branch : Declaration-F (Branch Declaration) (Branch Class) (Branch Member) → Branch Declaration
declaration_branch d = record { itself = roll-Declaration (map-Declaration (Branch Declaration) (Branch Class) (Branch Member) Declaration Class Member itself_of itself_of itself_of d); members = parts_inside d }

abbrev pub class_branch : Class-F (Branch Declaration) (Branch Class) (Branch Member) → Branch Class
class_branch c = record { itself = roll-Class (record { name = c.name; bases = c.bases; parts = map itself_of c.parts }); members = flat_map members_of c.parts }

abbrev pub with_declaration : Member-F (Branch Declaration) (Branch Class) (Branch Member) → Member
with_declaration m = roll-Member (record { attributes = m.attributes; modifiers = m.modifiers; declaration = m.declaration.itself; span = m.span })

abbrev pub member_branch : Member-F (Branch Declaration) (Branch Class) (Branch Member) → Branch Member
member_branch m = record { itself = with_declaration m; members = with_declaration m ∷ m.declaration.members }

-- a member, and behind it those that stand in it
abbrev pub with_inner : Member → List Member
with_inner m = (fold-Member (Branch Declaration) (Branch Class) (Branch Member) declaration_branch class_branch member_branch m).members

abbrev pub members_in : FileTree → List Member
members_in f = flat_map with_inner f.members

-- 2. The member that declares a symbol

abbrev pub declaration_of : Member → Declaration-F Declaration Class Member
declaration_of m = out-Declaration (out-Member m).declaration

-- where the name stands that a member declares; a namespace is declared by all its parts, and a `construct` block has no name
abbrev pub name_of : Declaration-F Declaration Class Member → Option Span
name_of (Declaration-F.Namespace n ms) = None
name_of (Declaration-F.Class c) = Some (out-Class c).name.span
name_of (Declaration-F.Interface c) = Some (out-Class c).name.span
name_of (Declaration-F.Struct n ms) = Some n.span
name_of (Declaration-F.Enum e) = Some e.name.span
name_of (Declaration-F.Errors e) = Some e.name.span
name_of (Declaration-F.Delegate s) = Some s.name.span
name_of (Declaration-F.Constant c) = Some c.name.span
name_of (Declaration-F.Field x) = Some x.name.span
name_of (Declaration-F.Method m) = Some m.signature.name.span
name_of (Declaration-F.Creation c) = Some c.name.span
name_of (Declaration-F.Destructor d) = Some d.name.span
name_of (Declaration-F.Property p) = Some p.name.span
name_of (Declaration-F.Signal s) = Some s.name.span
name_of (Declaration-F.Construct c) = None

abbrev pub same_span : Span → Span → Bool
same_span a b = a.file == b.file && a.start == b.start && a.«end» == b.«end»

abbrev pub is_at : Span → Option Span → Bool
is_at s None = false
is_at s (Some t) = same_span s t

-- the first of some things that passes a test
abbrev pub first_that : {X : Type 0} → (X → Bool) → List X → Option X
first_that test xs = and_then (first_at test xs) (slice_get xs)

-- namespaces, what stands in other members, and what is built in are declared by no member of their own
abbrev pub has_member : SymbolKind → Bool
has_member kind.Namespace = false
has_member kind.Parameter = false
has_member kind.Local = false
has_member kind.EnumMember = false
has_member kind.ErrorCode = false
has_member (kind.BuiltIn n) = false
has_member k = true

abbrev pub member_at : List Member → Symbol → Option Member
member_at ms s = by (has_member s.kind)
  where
    by : Bool → Option Member
    by false = None
    by true = first_that (λ m. is_at s.span (name_of (declaration_of m))) ms

-- THE MEMBER THAT DECLARES a symbol: the one whose name stands where the symbol's does
abbrev pub tree_of : Names → List FileTree → ℕ → Option Member
tree_of ns files n = and_then (slice_get ns.symbols n) (member_at (flat_map members_in files))

-- 3. What a member says

-- What is called has a result, if it has one, parameters and errors; a property has a type and accessors; what else there is can neither be
-- overridden nor override.
pub data Content : Type 0 where
  Called : Option TypeTree → List Parameter → List TypeTree → Content
  Valued : TypeTree → List Accessor → Content
  Other : Content

-- the words before a declaration, the bases of a class or interface, and what a member takes and gives
pub record Written : Type 0 where
  pub modifiers : List Modifier
  pub bases : List TypeTree
  pub content : Content

-- a signal is called by its emission, and gives nothing back
abbrev pub content_of : Declaration-F Declaration Class Member → Content
content_of (Declaration-F.Method m) = Called (Some m.signature.result) m.signature.parameters m.signature.throws
content_of (Declaration-F.Signal s) = Called None s.parameters []
content_of (Declaration-F.Property x) = Valued x.declared x.accessors
content_of d = Other

abbrev pub bases_of : Declaration-F Declaration Class Member → List TypeTree
bases_of (Declaration-F.Class c) = (out-Class c).bases
bases_of (Declaration-F.Interface c) = (out-Class c).bases
bases_of d = []

abbrev pub written_of : Member → Written
written_of m = record { modifiers = (out-Member m).modifiers; bases = bases_of (declaration_of m); content = content_of (declaration_of m) }

-- 4. A program

-- its table of declarations, and what is written of each that a member declares
pub record Program : Type 0 where
  pub names : Names
  pub written : ℕ → Option Written

abbrev pub program_of : Names → List FileTree → Program
program_of ns files = record { names = ns; written = λ n. option_map written_of (tree_of ns files n) }

-- what is known of a declaration by its number
abbrev pub symbol : Program → ℕ → Option Symbol
symbol p n = slice_get p.names.symbols n

-- the scope in which a declaration stands, and the scope that it opens
abbrev pub scope_around : Program → ℕ → ℕ
scope_around p n = by (symbol p n)
  where
    by : Option Symbol → ℕ
    by None = 0
    by (Some s) = s.scope

abbrev pub scope_inside : Program → ℕ → ℕ
scope_inside p n = by (symbol p n)
  where
    by : Option Symbol → ℕ
    by None = 0
    by (Some s) = scope_of s

abbrev pub name_at : Program → ℕ → List ℕ
name_at p n = by (symbol p n)
  where
    by : Option Symbol → List ℕ
    by None = []
    by (Some s) = s.name

-- where the name of a declaration stands
abbrev pub place_of : Program → ℕ → Span
place_of p n = by (symbol p n)
  where
    by : Option Symbol → Span
    by None = record { file = 0; start = 0; «end» = 0 }
    by (Some s) = s.span

-- the declaration around a declaration
abbrev pub owner_of : Program → ℕ → Option ℕ
owner_of p n = and_then (symbol p n) (λ s. s.owner)

-- the declarations in a declaration that a member declares, in order
abbrev pub declared_in : Program → ℕ → List ℕ
declared_in p n = by (symbol p n)
  where
    is_declared : ℕ → Bool
    is_declared m = is_some (p.written m)

    by : Option Symbol → List ℕ
    by None = []
    by (Some s) = filter is_declared s.members

-- 5. Words before a declaration

abbrev pub modifiers_at : Program → ℕ → List Modifier
modifiers_at p n = by (p.written n)
  where
    by : Option Written → List Modifier
    by None = []
    by (Some w) = w.modifiers

abbrev pub has_word : (ModifierWord → Bool) → List Modifier → Bool
has_word test ms = list_any (λ m. test m.word) ms

abbrev pub abstract_word : ModifierWord → Bool
abstract_word word.Abstract = true
abstract_word w = false

abbrev pub virtual_word : ModifierWord → Bool
virtual_word word.Virtual = true
virtual_word w = false

abbrev pub override_word : ModifierWord → Bool
override_word word.Override = true
override_word w = false

abbrev pub static_or_async_word : ModifierWord → Bool
static_or_async_word word.Static = true
static_or_async_word word.Async = true
static_or_async_word w = false

abbrev pub is_abstract : Program → ℕ → Bool
is_abstract p n = has_word abstract_word (modifiers_at p n)

abbrev pub is_virtual : Program → ℕ → Bool
is_virtual p n = has_word virtual_word (modifiers_at p n)

abbrev pub is_override : Program → ℕ → Bool
is_override p n = has_word override_word (modifiers_at p n)

-- called without an instance, or not to its end
abbrev pub is_static_or_async : Program → ℕ → Bool
is_static_or_async p n = has_word static_or_async_word (modifiers_at p n)
