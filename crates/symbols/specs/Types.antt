-- The type that is written, by the table of declarations.
use Rattle.std.specs.Prelude.{ℕ, Bool, true, false, ◌&&◌, if◌then◌else◌, List, [], ◌∷◌, Option, Some, None, slice_get, Result, Ok, Err}
use Rattle.vg_base.specs.declared.event.Span.{Span}
use Rattle.static_rules.specs.declared.rules.Refusal.{Refusal}
use Rattle.static_rules.specs.declared.rules.Rule.{Rule}
use Rattle.static_rules.specs.declared.rules.Rule.TheVariants.{N1, T4, U1}
use Rattle.vala_tree.specs.declared.names.Element.{Element}
use Rattle.vala_tree.specs.declared.names.Identifier.{Identifier}
use Rattle.vala_tree.specs.declared.names.NameTree.{NameTree}
use Rattle.vala_tree.specs.declared.names.TypeShape.{TypeShape}
use Rattle.vala_tree.specs.declared.names.TypeShape.TheVariants as tree
use Rattle.vala_tree.specs.declared.names.TypeTree.{TypeTree}
use Rattle.vala_tree.specs.declared.operators.Ownership.{Ownership}
use Rattle.vala_tree.specs.declared.operators.Ownership.TheVariants.{Owned}
use Rattle.vala_types.specs.declared.types.IntKind.{IntKind}
use Rattle.vala_types.specs.declared.types.IntKind.TheVariants as int
use Rattle.vala_types.specs.declared.types.Item.{Item}
use Rattle.vala_types.specs.declared.types.ItemShape.{ItemShape}
use Rattle.vala_types.specs.declared.types.ItemShape.TheVariants as item
use Rattle.vala_types.specs.declared.types.Shape.{Shape}
use Rattle.vala_types.specs.declared.types.Shape.TheVariants as shape
use Rattle.vala_types.specs.declared.types.VType.{VType}
use Rattle.symbols.specs.declared.kinds.SymbolKind.{SymbolKind}
use Rattle.symbols.specs.declared.kinds.SymbolKind.TheVariants as kind
use Rattle.symbols.specs.declared.table.Symbol.{Symbol}
use Rattle.symbols.specs.declared.table.Names.{Names}
use Rattle.symbols.specs.Outline.{and_then}
use Rattle.symbols.specs.Search.{answer, member_answer, as_refusal}

-- a rule that a part of the text breaks
abbrev pub refused : Rule → Span → Refusal
refused r s = record { rule = r; phase = 4; span = s }

-- 1. Names with dots: the rule that a word breaks is told at the word

abbrev pub members_told : Names → ℕ → List Identifier → Result ℕ Refusal → Result ℕ Refusal
members_told ns scope xs (Err f) = Err f
members_told ns scope [] (Ok n) = Ok n
members_told ns scope (x ∷ xs) (Ok n) = members_told ns scope xs (as_refusal x.span (member_answer ns scope x (slice_get ns.symbols n)))

abbrev pub name_told : Names → ℕ → NameTree → Result ℕ Refusal
name_told ns scope n = by n.words
  where
    by : List Identifier → Result ℕ Refusal
    by [] = Err (refused N1 n.span)
    by (x ∷ xs) = members_told ns scope xs (as_refusal x.span (answer ns scope x.text x.span))

-- 2. Which declarations are types

abbrev pub integer : IntKind → Option Shape
integer k = Some (shape.Int k)

-- the types among the built-in names, by their rows
abbrev pub built_in_shapes : List (Option Shape)
built_in_shapes =
    None
    ∷ Some shape.Bool
    ∷ Some shape.Text
    ∷ integer int.Int8
    ∷ integer int.Char
    ∷ integer int.Uint8
    ∷ integer int.Uint8
    ∷ integer int.Int16
    ∷ integer int.Int16
    ∷ integer int.Uint16
    ∷ integer int.Uint16
    ∷ integer int.Int32
    ∷ integer int.Int32
    ∷ integer int.Uint32
    ∷ integer int.Uint32
    ∷ integer int.Long
    ∷ integer int.Long
    ∷ integer int.Ulong
    ∷ integer int.Ulong
    ∷ integer int.Int64
    ∷ integer int.Uint64
    ∷ None
    -- 22: `Object`, `ParamSpec`, `Error`, `AsyncResult`, `SourceFunc`, `AsyncReadyCallback` and `MainLoop`
    ∷ Some (shape.Class 22)
    ∷ Some shape.ParamSpec
    ∷ Some (shape.Error None)
    ∷ Some shape.AsyncResult
    ∷ Some (shape.Delegate 26)
    ∷ Some (shape.Delegate 27)
    ∷ Some (shape.Class 28)
    ∷ []

abbrev pub listed : Option (Option Shape) → Option Shape
listed None = None
listed (Some o) = o

abbrev pub built_in_shape : ℕ → Option Shape
built_in_shape row = listed (slice_get built_in_shapes row)

-- the type that a declaration is, if it is one
abbrev pub shape_of : ℕ → Symbol → Option Shape
shape_of n s = by s.kind
  where
    by : SymbolKind → Option Shape
    by kind.Class = Some (shape.Class n)
    by kind.Interface = Some (shape.Interface n)
    by kind.Struct = Some (shape.Struct n)
    by kind.Enum = Some (shape.Enum n)
    by kind.ErrorDomain = Some (shape.Error (Some n))
    by kind.Delegate = Some (shape.Delegate n)
    by (kind.BuiltIn row) = built_in_shape row
    by k = None

-- 3. The marks

-- what has no null: numbers, `bool`, enums and structs
abbrev pub is_value : Shape → Bool
is_value shape.Bool = true
is_value (shape.Int k) = true
is_value (shape.Enum n) = true
is_value (shape.Struct n) = true
is_value s = false

-- what an array may hold
abbrev pub item_of : Shape → Option ItemShape
item_of shape.Bool = Some item.Bool
item_of (shape.Int k) = Some (item.Int k)
item_of shape.Text = Some item.Text
item_of (shape.Enum n) = Some (item.Enum n)
item_of (shape.Struct n) = Some (item.Struct n)
item_of (shape.Class n) = Some (item.Class n)
item_of (shape.Interface n) = Some (item.Interface n)
item_of (shape.Delegate n) = Some (item.Delegate n)
item_of (shape.Error d) = Some (item.Error d)
item_of s = None

-- whether a type owns by how it is written: it does but where `unowned` or `weak` stands
abbrev pub owns_as_written : Option Ownership → Bool
owns_as_written None = true
owns_as_written (Some Owned) = true
owns_as_written (Some o) = false

-- 4. The type

abbrev pub if_type : Element → Option Shape → Result Shape Refusal
if_type e None = Err (refused T4 e.name.span)
if_type e (Some s) = if e.is_nullable && is_value s then Err (refused U1 e.span) else Ok s

abbrev pub shape_at : Names → Element → Result ℕ Refusal → Result Shape Refusal
shape_at ns e (Err f) = Err f
shape_at ns e (Ok n) = if_type e (and_then (slice_get ns.symbols n) (shape_of n))

-- a name with its mark
abbrev pub element_shape : Names → ℕ → Element → Result Shape Refusal
element_shape ns scope e = shape_at ns e (name_told ns scope e.name)

abbrev pub single : Bool → Bool → Result Shape Refusal → Result VType Refusal
single owned nullable (Err f) = Err f
single owned nullable (Ok s) = Ok (record { shape = s; owned = owned; nullable = nullable })

abbrev pub if_item : Span → Bool → Bool → Bool → Option ItemShape → Result VType Refusal
if_item s item_nullable owned nullable None = Err (refused U1 s)
if_item s item_nullable owned nullable (Some i) = Ok (record { shape = shape.Array (record { shape = i; nullable = item_nullable }); owned = owned; nullable = nullable })

abbrev pub array : Span → Bool → Bool → Bool → Result Shape Refusal → Result VType Refusal
array s item_nullable owned nullable (Err f) = Err f
array s item_nullable owned nullable (Ok x) = if_item s item_nullable owned nullable (item_of x)

-- THE TYPE that is written in a scope, or the rule that it breaks: a name in it is unknown, ambiguous or not to be used (N1, N3, N4, at the
-- word), is no type (T4, at the name), or is left out (U1): a value with `?`, or an array of what is only passed on
abbrev pub type_of : Names → ℕ → TypeTree → Result VType Refusal
type_of ns scope t = by t.shape
  where
    owned : Bool
    owned = owns_as_written t.ownership

    by : TypeShape → Result VType Refusal
    by tree.Void = Ok (record { shape = shape.Void; owned = owned; nullable = false })
    by (tree.Single e) = single owned e.is_nullable (element_shape ns scope e)
    by (tree.Array e nullable) = array t.span e.is_nullable owned nullable (element_shape ns scope e)
