-- The outline of a program: its declarations and scopes as they are met, and the pieces that add to them.
use Rattle.std.specs.Prelude.{ℕ, zero, suc, Bool, true, false, ◌&&◌, ◌==◌, nat_le, if◌then◌else◌, List, [], ◌∷◌, ◌++◌, length, map, Option, Some, None, slice_get}
use Rattle.std.specs.Option.{option_map}
use Rattle.std.specs.Str.{bytes_eq}
use Rattle.vg_base.specs.declared.event.Span.{Span}
use Rattle.vala_tree.specs.declared.member.Attribute.{Attribute}
use Rattle.vala_tree.specs.declared.member.Modifier.{Modifier}
use Rattle.vala_tree.specs.declared.names.Identifier.{Identifier}
use Rattle.vala_tree.specs.declared.names.NameTree.{NameTree}
use Rattle.vala_tree.specs.declared.names.TypeTree.{TypeTree}
use Rattle.symbols.specs.declared.kinds.SymbolKind.{SymbolKind}
use Rattle.symbols.specs.declared.kinds.SymbolKind.TheVariants.{Namespace, BuiltIn}
use Rattle.symbols.specs.BuiltIns.{Row, built_in_names}

-- what a second step makes of the value of a first, where there is one
abbrev pub and_then : {X Y : Type 0} → Option X → (X → Option Y) → Option Y
and_then None f = None
and_then (Some x) f = f x

-- the first of two that is there
abbrev pub or_else : {X : Type 0} → Option X → Option X → Option X
or_else None b = b
or_else (Some x) b = Some x

-- 1. What is kept

-- a word of an accessor
pub data AccessWord : Type 0 where
  Get : AccessWord
  Set : AccessWord
  Construct : AccessWord
  Default : AccessWord

-- and where it stands
pub record AccessPlace : Type 0 where
  pub word : AccessWord
  pub at : Span

-- What is written around a name: the attributes and words before it, the bases of a class or interface or the type of a field, and
-- the words of a property's accessors.
pub record Heading : Type 0 where
  pub attributes : List Attribute
  pub modifiers : List Modifier
  pub types : List TypeTree
  pub accessors : List AccessPlace

abbrev pub no_heading : Heading
no_heading = record { attributes = []; modifiers = []; types = []; accessors = [] }

-- A declaration: what it is, its name and where that stands, the declaration around it, the scope that it stands in, the scope that
-- it opens if it opens one, and the place from which it counts.
pub record Declared : Type 0 where
  pub kind : SymbolKind
  pub name : List ℕ
  pub span : Span
  pub heading : Heading
  pub owner : Option ℕ
  pub scope : ℕ
  pub opened : Option ℕ
  pub since : ℕ

-- a scope: the scope around it, and the declaration that opens it; a block has none
pub record Region : Type 0 where
  pub outer : ℕ
  pub symbol : Option ℕ

-- a stretch of text that a scope holds
pub record Held : Type 0 where
  pub scope : ℕ
  pub text : Span

-- The declarations of a program in the order of its files, its scopes, the text that each holds, and the `using`s of each file.
-- Declarations and scopes are numbered by their places. Scope 0 is outside of everything.
pub record Outline : Type 0 where
  pub declared : List Declared
  pub regions : List Region
  pub texts : List Held
  pub usings : List (List NameTree)

-- 2. Pieces

-- where a piece of the program stands: in a scope, and in a declaration
pub record Around : Type 0 where
  pub scope : ℕ
  pub owner : Option ℕ

-- a piece of the program adds its declarations and scopes behind those that came before
abbrev pub Piece : Type 0
Piece = Around → Outline → Outline

-- what declares nothing
abbrev pub nothing : Piece
nothing around o = o

-- one piece and then another
abbrev pub both : Piece → Piece → Piece
both a b around o = b around (a around o)

-- pieces in their order
abbrev pub all : List Piece → Piece
all [] = nothing
all (p ∷ ps) = both p (all ps)

-- a piece that may be left out
abbrev pub maybe : Option Piece → Piece
maybe None = nothing
maybe (Some p) = p

-- what a declaration says of itself
pub record Head : Type 0 where
  pub kind : SymbolKind
  pub name : List ℕ
  pub span : Span
  pub heading : Heading

abbrev pub symbol_of : Head → Around → Option ℕ → ℕ → Declared
symbol_of h around opened since = record { kind = h.kind; name = h.name; span = h.span; heading = h.heading; owner = around.owner; scope = around.scope; opened = opened; since = since }

abbrev pub with_symbol : Declared → Outline → Outline
with_symbol s o = record o { declared = o.declared ++ s ∷ [] }

abbrev pub with_scope : Region → Outline → Outline
with_scope s o = record o { regions = o.regions ++ s ∷ [] }

-- a scope holds stretches of text
abbrev pub with_texts : ℕ → List Span → Outline → Outline
with_texts scope spans o = record o { texts = o.texts ++ map (λ s. let held : Held = record { scope = scope; text = s } in held) spans }

-- a declaration that opens no scope and counts from a place on; what stands in it belongs to it
abbrev pub declares : Head → ℕ → Piece → Piece
declares h since inside around o = inside (record around { owner = Some (length o.declared) }) (with_symbol (symbol_of h around None since) o)

-- a declaration that opens a scope, in which what belongs to it stands
abbrev pub opens : Head → List Span → Piece → Piece
opens h texts inside around o =
    inside (record { scope = length o.regions; owner = Some (length o.declared) })
    (with_texts (length o.regions) texts (with_scope (record { outer = around.scope; symbol = Some (length o.declared) }) (with_symbol (symbol_of h around (Some (length o.regions)) 0) o)))

-- a scope that no declaration opens
abbrev pub scoped : Span → Piece → Piece
scoped text inside around o =
    inside (record around { scope = length o.regions }) (with_texts (length o.regions) (text ∷ []) (with_scope (record { outer = around.scope; symbol = None }) o))

-- text that the scope around holds
abbrev pub holding : List Span → Piece → Piece
holding texts inside around o = inside around (with_texts around.scope texts o)

-- the scope around a scope
abbrev pub outer_of : Outline → ℕ → ℕ
outer_of o scope = outer_in (slice_get o.regions scope)
  where
    outer_in : Option Region → ℕ
    outer_in None = 0
    outer_in (Some s) = s.outer

-- what is written in a scope and stands outside of it
abbrev pub outside : Piece → Piece
outside inside around o = inside (record around { scope = outer_of o around.scope }) o

-- 3. Looking into lists

-- the first place in a list at which a test passes
abbrev pub first_at : {X : Type 0} → (X → Bool) → List X → Option ℕ
first_at test [] = None
first_at test (x ∷ xs) = if test x then Some 0 else option_map suc (first_at test xs)
