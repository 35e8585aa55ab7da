-- What the members of a file declare, and the declarations of a whole program.
use Rattle.std.specs.Prelude.{ℕ, zero, suc, Bool, true, false, ◌&&◌, ◌||◌, ◌==◌, List, [], ◌∷◌, ◌++◌, map, Option, Some, None, slice_get, codes}
use Rattle.std.specs.Option.{option_map}
use Rattle.std.specs.List.{flat_map, enumerate_from}
use Rattle.std.specs.Str.{bytes_eq}
use Rattle.vg_base.specs.declared.event.Span.{Span}
use Rattle.vala_tree.specs.declared.names.Identifier.{Identifier}
use Rattle.vala_tree.specs.declared.names.NameTree.{NameTree}
use Rattle.vala_tree.specs.declared.names.TypeTree.{TypeTree}
use Rattle.vala_tree.specs.declared.code.Expr.{Expr}
use Rattle.vala_tree.specs.declared.code.Block.{Block, out-Block}
use Rattle.vala_tree.specs.declared.member.Accessor.{Accessor}
use Rattle.vala_tree.specs.declared.member.Accessor.TheVariants as accessor
use Rattle.vala_tree.specs.declared.member.Attribute.{Attribute}
use Rattle.vala_tree.specs.declared.member.EnumMember.{EnumMember}
use Rattle.vala_tree.specs.declared.member.FileTree.{FileTree}
use Rattle.vala_tree.specs.declared.member.Member.{Member}
use Rattle.vala_tree.specs.declared.member.Modifier.{Modifier}
use Rattle.vala_tree.specs.declared.member.Parameter.{Parameter}
use Rattle.vala_tree.specs.declared.member.Setter.{Setter}
use Rattle.vala_tree.specs.declared.member.SetterWords.{SetterWords}
use Rattle.vala_tree.specs.declared.member.SetterWords.TheVariants as words
use Rattle.vala_tree.specs.declared.member.Declaration.TheOpen.{Declaration-F, Class-F, Member-F}
use Rattle.vala_tree.specs.declared.member.Declaration.TheFolds.{fold-Member}
use Rattle.symbols.specs.declared.kinds.SymbolKind.{SymbolKind}
use Rattle.symbols.specs.declared.kinds.SymbolKind.TheVariants as kind
use Rattle.symbols.specs.declared.built_in.BuiltInSort.{BuiltInSort}
use Rattle.symbols.specs.declared.built_in.BuiltInSort.TheVariants as sort
use Rattle.symbols.specs.BuiltIns.{Row, built_in_names}
use Rattle.symbols.specs.Outline.{AccessPlace, Get, Set, Construct, Default, Heading, Declared, Region, Outline, Piece, Head, Around, first_at, nothing, both, all, maybe, declares, opens, scoped, holding, outside, no_heading}
use Rattle.symbols.specs.Code.{Part, parts, optional, block, parameter, expression_part, block_of}

-- 1. Namespaces

abbrev pub is_grouping : BuiltInSort → Bool
is_grouping sort.Namespace = true
is_grouping _ = false

abbrev pub groups : Option Row → Bool
groups None = false
groups (Some r) = is_grouping r.sort

-- a namespace of the program, or one that is built in
abbrev pub is_namespace : SymbolKind → Bool
is_namespace kind.Namespace = true
is_namespace (kind.BuiltIn n) = groups (slice_get built_in_names n)
is_namespace _ = false

-- the namespace of that name in that scope
abbrev pub namespace_in : Outline → ℕ → List ℕ → Option ℕ
namespace_in o scope name = first_at (λ s. s.scope == scope && is_namespace s.kind && bytes_eq s.name name) o.declared

-- the scope that a declaration opens or, where it opens none, the scope that it stands in
abbrev pub scope_of : Declared → ℕ
scope_of s = by s.opened
  where
    by : Option ℕ → ℕ
    by None = s.scope
    by (Some scope) = scope

abbrev pub scope_at_number : Outline → ℕ → ℕ
scope_at_number o n = by (slice_get o.declared n)
  where
    by : Option Declared → ℕ
    by None = 0
    by (Some s) = scope_of s

-- All parts of a namespace are one scope: a part goes on with it where it is there, and else opens it.
abbrev pub enter : Span → Identifier → Piece → Piece
enter name x inside around o = by (namespace_in o around.scope x.text)
  where
    by : Option ℕ → Outline
    by None = opens (record { kind = kind.Namespace; name = x.text; span = name; heading = no_heading }) [] inside around o
    by (Some n) = inside (record { scope = scope_at_number o n; owner = Some n }) o

-- from the first byte of one to the last of another
abbrev pub join : Span → Span → Span
join a b = record { file = a.file; start = a.start; «end» = b.«end» }

-- namespaces, one in the other
abbrev pub within : Span → List Identifier → Piece → Piece
within name [] inside = inside
within name (x ∷ xs) inside = enter (join name x.span) x (within name xs inside)

-- 2. Outline with dots: the words before the last are namespaces around the declaration

abbrev pub front : List Identifier → List Identifier
front [] = []
front (x ∷ []) = []
front (x ∷ y ∷ xs) = x ∷ front (y ∷ xs)

abbrev pub last_word : List Identifier → List ℕ
last_word [] = []
last_word (x ∷ []) = x.text
last_word (x ∷ y ∷ xs) = last_word (y ∷ xs)

abbrev pub under : NameTree → Span → List Identifier → Piece → Piece
under n text [] inside = inside
under n text (x ∷ xs) inside = within n.span (x ∷ xs) (holding (text ∷ []) inside)

-- 3. Members

-- what stands around a declaration in its member: the attributes, the modifiers, and the text of it all
pub record Front : Type 0 where
  pub attributes : List Attribute
  pub modifiers : List Modifier
  pub text : Span

-- a class or interface, with its parts as pieces
pub record Body : Type 0 where
  pub name : NameTree
  pub bases : List TypeTree
  pub parts : List Part

abbrev pub heading_of : Front → List TypeTree → Heading
heading_of f types = record { attributes = f.attributes; modifiers = f.modifiers; types = types; accessors = [] }

abbrev pub head : SymbolKind → List ℕ → Span → Heading → Head
head k name span h = record { kind = k; name = name; span = span; heading = h }

-- a declaration that is named by one word
abbrev pub plain_head : SymbolKind → Identifier → Front → Head
plain_head k x f = head k x.text x.span (heading_of f [])

abbrev pub text_of : Part → Span
text_of p = p.text

-- A namespace opens a scope, or goes on with it, and the scope holds the members.
abbrev pub namespace_piece : NameTree → List Part → Piece
namespace_piece n ps = within n.span n.words (holding (map text_of ps) (parts ps))

-- A class, interface or struct opens a scope, which holds its members.
abbrev pub type_piece : SymbolKind → NameTree → List TypeTree → List Part → Front → Piece
type_piece k n bases ps f = under n f.text (front n.words) (opens (head k (last_word n.words) n.span (heading_of f bases)) (map text_of ps) (parts ps))

-- an enum or an error domain opens none
abbrev pub list_piece : SymbolKind → NameTree → List Piece → Front → Piece
list_piece k n members f = under n f.text (front n.words) (declares (head k (last_word n.words) n.span (heading_of f [])) 0 (all members))

abbrev pub enum_member : Identifier → Option Part → Piece
enum_member x v = declares (head kind.EnumMember x.text x.span no_heading) 0 (optional v)

abbrev pub error_code : Identifier → Piece
error_code x = declares (head kind.ErrorCode x.text x.span no_heading) 0 nothing

-- a constant, and a field with its type
abbrev pub constant_piece : Identifier → Part → Front → Piece
constant_piece x v f = declares (plain_head kind.Constant x f) 0 v.piece

abbrev pub field_piece : Identifier → TypeTree → Option Part → Front → Piece
field_piece x t v f = declares (head kind.Field x.text x.span (heading_of f (t ∷ []))) 0 (optional v)

-- a parameter; its default stands outside of the scope of the parameters
abbrev pub parameter_piece : Identifier → Option Part → Piece
parameter_piece x v = both (parameter x) (outside (optional v))

abbrev pub body_text : Option Part → List Span
body_text None = []
body_text (Some b) = b.text ∷ []

-- What is called opens a scope for its parameters and the locals of its outermost block. It holds the block.
abbrev pub callable : Head → List Piece → Option Part → Piece
callable h ps b = opens h (body_text b) (both (all ps) (optional b))

-- the own name of a creation method: what stands behind the dot, or nothing
abbrev pub own_name : List Identifier → List ℕ
own_name [] = []
own_name (x ∷ xs) = last_word xs

abbrev pub creation_head : NameTree → Front → Head
creation_head n f = head kind.Creation (own_name n.words) n.span (heading_of f [])

-- a destructor has the name of its class with `~` in front
abbrev pub destructor_head : Identifier → Front → Head
destructor_head x f = head kind.Destructor (126 ∷ x.text) x.span (heading_of f [])

-- where `value` counts as standing: at `set` or, where there is none, at `construct`
abbrev pub value_place : SetterWords → Span
value_place (words.Set s) = s
value_place (words.Construct s) = s
value_place (words.SetConstruct s c) = s
value_place (words.ConstructSet c s) = s

abbrev pub value_parameter : SetterWords → Piece
value_parameter w = declares (head kind.Parameter (codes "value") (value_place w) no_heading) 0 nothing

-- the block of an accessor opens a scope; where it writes, `value` stands in it first
abbrev pub accessor_block : Piece → Option Part → Piece
accessor_block before None = nothing
accessor_block before (Some b) = scoped b.text (both before b.piece)

-- the words of an accessor that writes
abbrev pub setter_places : SetterWords → List AccessPlace
setter_places (words.Set s) = record { word = Set; at = s } ∷ []
setter_places (words.Construct c) = record { word = Construct; at = c } ∷ []
setter_places (words.SetConstruct s c) = record { word = Set; at = s } ∷ record { word = Construct; at = c } ∷ []
setter_places (words.ConstructSet c s) = record { word = Construct; at = c } ∷ record { word = Set; at = s } ∷ []

-- an accessor: its words, and what its block or its value declares
pub record Accessing : Type 0 where
  pub places : List AccessPlace
  pub piece : Piece

abbrev pub get_access : Span → Option Part → Accessing
get_access s b = record { places = record { word = Get; at = s } ∷ []; piece = accessor_block nothing b }

abbrev pub set_access : SetterWords → Option Part → Accessing
set_access w b = record { places = setter_places w; piece = accessor_block (value_parameter w) b }

abbrev pub default_access : Span → Part → Accessing
default_access s v = record { places = record { word = Default; at = s } ∷ []; piece = v.piece }

abbrev pub places_of : Accessing → List AccessPlace
places_of a = a.places

abbrev pub access_piece : Accessing → Piece
access_piece a = a.piece

-- A property opens no scope.
abbrev pub property_piece : Identifier → List Accessing → Front → Piece
property_piece x xs f = declares (head kind.Property x.text x.span (record { attributes = f.attributes; modifiers = f.modifiers; types = []; accessors = flat_map places_of xs })) 0 (all (map access_piece xs))

-- 4. Members as trees

abbrev pub value_of : Option Expr → Option Part
value_of o = option_map expression_part o

abbrev pub body_of : Option Block → Option Part
body_of o = option_map block_of o

abbrev pub enum_member_piece : EnumMember → Piece
enum_member_piece m = enum_member m.name (value_of m.value)

abbrev pub one_parameter : Parameter → Piece
one_parameter p = parameter_piece p.name (value_of p.default)

abbrev pub parameters : List Parameter → List Piece
parameters ps = map one_parameter ps

abbrev pub access_of : Accessor → Accessing
access_of (accessor.Get g s) = get_access g.word (body_of g.body)
access_of (accessor.Set x s) = set_access x.words (body_of x.body)
access_of (accessor.Default w e s) = default_access w (expression_part e)

-- one level of a declaration
abbrev pub declaration : Declaration-F (Front → Piece) Body Part → Front → Piece
declaration (Declaration-F.Namespace n ps) f = namespace_piece n ps
declaration (Declaration-F.Class c) f = type_piece kind.Class c.name c.bases c.parts f
declaration (Declaration-F.Interface c) f = type_piece kind.Interface c.name c.bases c.parts f
declaration (Declaration-F.Struct n ps) f = type_piece kind.Struct n [] ps f
declaration (Declaration-F.Enum e) f = list_piece kind.Enum e.name (map enum_member_piece e.members) f
declaration (Declaration-F.Errors d) f = list_piece kind.ErrorDomain d.name (map error_code d.codes) f
declaration (Declaration-F.Delegate s) f = callable (plain_head kind.Delegate s.name f) (parameters s.parameters) None
declaration (Declaration-F.Constant c) f = constant_piece c.name (expression_part c.value) f
declaration (Declaration-F.Field x) f = field_piece x.name x.declared (value_of x.value) f
declaration (Declaration-F.Method m) f = callable (plain_head kind.Method m.signature.name f) (parameters m.signature.parameters) (body_of m.body)
declaration (Declaration-F.Creation c) f = callable (creation_head c.name f) (parameters c.parameters) (body_of c.body)
declaration (Declaration-F.Destructor d) f = callable (destructor_head d.name f) [] (Some (block_of d.body))
declaration (Declaration-F.Property p) f = property_piece p.name (map access_of p.accessors) f
declaration (Declaration-F.Signal s) f = callable (plain_head kind.Signal s.name f) (parameters s.parameters) (body_of s.body)
declaration (Declaration-F.Construct c) f = block (block_of c.body)

abbrev pub class_body : Class-F (Front → Piece) Body Part → Body
class_body c = record { name = c.name; bases = c.bases; parts = c.parts }

abbrev pub member_part : Member-F (Front → Piece) Body Part → Part
member_part m = record { text = m.span; piece = m.declaration (record { attributes = m.attributes; modifiers = m.modifiers; text = m.span }) }

-- what a member declares
abbrev pub part_of : Member → Part
part_of = fold-Member (Front → Piece) Body Part declaration class_body member_part

-- 5. A program

-- where nothing is declared but the built-in names: each opens a scope, and row n opens scope n + 1
abbrev pub scope_of_row : Option ℕ → ℕ
scope_of_row None = 0
scope_of_row (Some n) = suc n

abbrev pub nowhere : Span
nowhere = record { file = 0; start = 0; «end» = 0 }

abbrev pub built_in_symbol : ℕ × Row → Declared
built_in_symbol (n, r) =
    record { kind = kind.BuiltIn n; name = r.name; span = nowhere; heading = no_heading; owner = r.owner; scope = scope_of_row r.owner; opened = Some (suc n); since = 0 }

abbrev pub built_in_scope : ℕ × Row → Region
built_in_scope (n, r) = record { outer = scope_of_row r.owner; symbol = Some n }

abbrev pub at_first : Outline
at_first =
    record {
      declared = map built_in_symbol (enumerate_from 0 built_in_names);
      regions = (record { outer = 0; symbol = None }) ∷ map built_in_scope (enumerate_from 0 built_in_names);
      texts = [];
      usings = [];
    }

-- what the members of the files declare, in their order, behind the built-in names
abbrev pub program : List Piece → List (List NameTree) → Outline
program files usings = record (all files (record { scope = 0; owner = None }) at_first) { usings = usings }

abbrev pub file_piece : FileTree → Piece
file_piece f = parts (map part_of f.members)

abbrev pub usings_of : FileTree → List NameTree
usings_of f = f.usings

-- THE DECLARATIONS of a program, in the order of its files
abbrev pub outline_of : List FileTree → Outline
outline_of files = program (map file_piece files) (map usings_of files)
