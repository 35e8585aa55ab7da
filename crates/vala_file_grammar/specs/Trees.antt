-- Nodes of the tree from their parts: what each stands on, and what its tokens say.
use Rattle.std.specs.Prelude.{ℕ, Bool, true, false, List, [], ◌∷◌, Option, Some, None}
use Rattle.vg_base.specs.declared.event.Span.{Span}
use Rattle.vala_lexer.specs.declared.token.TokenKind.{TokenKind}
use Rattle.vala_lexer.specs.declared.token.TokenKind.TheVariants as k
use Rattle.vala_lexer.specs.Tokens.{Lexeme}
use Rattle.vala_lexer.specs.Texts.{text_value}
use Rattle.vala_tree.specs.declared.names.Identifier.{Identifier}
use Rattle.vala_tree.specs.declared.names.NameTree.{NameTree}
use Rattle.vala_tree.specs.declared.names.TypeTree.{TypeTree}
use Rattle.vala_tree.specs.declared.code.Expr.{Expr}
use Rattle.vala_tree.specs.declared.code.Block.{Block}
use Rattle.vala_tree.specs.declared.member.AttributeArgument.{AttributeArgument}
use Rattle.vala_tree.specs.declared.member.Attribute.{Attribute}
use Rattle.vala_tree.specs.declared.member.ModifierWord.{ModifierWord}
use Rattle.vala_tree.specs.declared.member.ModifierWord.TheVariants as w
use Rattle.vala_tree.specs.declared.member.Modifier.{Modifier}
use Rattle.vala_tree.specs.declared.member.Direction.{Direction}
use Rattle.vala_tree.specs.declared.member.Direction.TheVariants as direction
use Rattle.vala_tree.specs.declared.member.Parameter.{Parameter}
use Rattle.vala_tree.specs.declared.member.Signature.{Signature}
use Rattle.vala_tree.specs.declared.member.EnumMember.{EnumMember}
use Rattle.vala_tree.specs.declared.member.SetterWords.{SetterWords}
use Rattle.vala_tree.specs.declared.member.Accessor.{Accessor}
use Rattle.vala_tree.specs.declared.member.Accessor.TheVariants as accessor
use Rattle.vala_tree.specs.declared.member.Declaration.{Declaration}
use Rattle.vala_tree.specs.declared.member.Declaration.TheVariants as d
use Rattle.vala_tree.specs.declared.member.Class.{roll-Class}
use Rattle.vala_tree.specs.declared.member.Member.{Member, roll-Member}
use Rattle.vala_grammar.specs.Trees.{join, identifier, same_bytes}
use Rattle.vala_tree.specs.Spans.{expr_span}

-- A list in brackets or braces, and the place of the closing one.
pub record Closed (A : Type 0) : Type 0 where
  pub list : List A
  pub close : Span

-- A block or the `;` in its place, and where it ends.
pub record Ending : Type 0 where
  pub block : Option Block
  pub last : Span

-- A declaration without what stands in front of it, from its first token to its last.
pub record Declared : Type 0 where
  pub declaration : Declaration
  pub span : Span

-- A file without the number of its tokens.
pub record FileText : Type 0 where
  pub usings : List NameTree
  pub members : List Member

abbrev pub closed : {A : Type 0} → List A → Lexeme → Closed A
closed xs t = record { list = xs; close = t.span }

abbrev pub declared : Declaration → Span → Span → Declared
declared x first last = record { declaration = x; span = join first last }

-- ---- attributes and modifiers

abbrev pub attribute_argument : Lexeme → Lexeme → AttributeArgument
attribute_argument n t = record { name = identifier n; value = record { bytes = text_value t.text; span = t.span } }

abbrev pub attribute : Lexeme → List AttributeArgument → Lexeme → Attribute
attribute o xs c = record { arguments = xs; span = join o.span c.span }

abbrev pub modifier_word : TokenKind → ModifierWord
modifier_word k.Public = w.Public
modifier_word k.Protected = w.Protected
modifier_word k.Internal = w.Internal
modifier_word k.Private = w.Private
modifier_word k.Static = w.Static
modifier_word k.Abstract = w.Abstract
modifier_word k.Virtual = w.Virtual
modifier_word k.Override = w.Override
modifier_word k.Async = w.Async
modifier_word _ = w.Inline

abbrev pub modifier : Lexeme → Modifier
modifier t = record { word = modifier_word t.kind; span = t.span }

-- where a declaration begins: at its first attribute, else at its first modifier, else at its first token
abbrev pub beginning : List Attribute → List Modifier → Span → Span
beginning (a ∷ xs) ms x = a.span
beginning [] (m ∷ ms) x = m.span
beginning [] [] x = x

abbrev pub member : List Attribute → List Modifier → Declared → Member
member xs ms x = roll-Member (record { attributes = xs; modifiers = ms; declaration = x.declaration; span = join (beginning xs ms x.span) x.span })

-- ---- parameters

abbrev pub direction_of : Lexeme → Direction
direction_of t = by t.kind
  where
    by : TokenKind → Direction
    by k.Out = direction.Out
    by _ = direction.Ref

abbrev pub passed : Option Lexeme → Option Direction
passed None = None
passed (Some t) = Some (direction_of t)

abbrev pub first_of_two : Option Lexeme → Span → Span
first_of_two None x = x
first_of_two (Some t) x = t.span

abbrev pub parameter : Option Lexeme → TypeTree → Lexeme → Parameter
parameter o y n = record { direction = passed o; declared = y; name = identifier n; default = None; span = join (first_of_two o y.span) n.span }

abbrev pub parameter_with : Option Lexeme → TypeTree → Lexeme → Expr → Parameter
parameter_with o y n v = record { direction = passed o; declared = y; name = identifier n; default = Some v; span = join (first_of_two o y.span) (expr_span v) }

abbrev pub signature : TypeTree → Lexeme → List Parameter → List TypeTree → Signature
signature y n ps ts = record { result = y; name = identifier n; parameters = ps; throws = ts }

-- ---- declarations

abbrev pub namespace : Lexeme → NameTree → Closed Member → Declared
namespace t n ms = declared (d.Namespace n ms.list) t.span ms.close

abbrev pub class : Lexeme → NameTree → List TypeTree → Closed Member → Declared
class t n bs ms = declared (d.Class (roll-Class (record { name = n; bases = bs; parts = ms.list }))) t.span ms.close

abbrev pub interface : Lexeme → NameTree → List TypeTree → Closed Member → Declared
interface t n bs ms = declared (d.Interface (roll-Class (record { name = n; bases = bs; parts = ms.list }))) t.span ms.close

abbrev pub structure : Lexeme → NameTree → Closed Member → Declared
structure t n ms = declared (d.Struct n ms.list) t.span ms.close

abbrev pub enumeration : Lexeme → NameTree → Closed EnumMember → Declared
enumeration t n xs = declared (d.Enum (record { name = n; members = xs.list })) t.span xs.close

abbrev pub enum_member : Lexeme → EnumMember
enum_member t = record { name = identifier t; value = None; span = t.span }

abbrev pub enum_member_with : Lexeme → Expr → EnumMember
enum_member_with t v = record { name = identifier t; value = Some v; span = join t.span (expr_span v) }

abbrev pub error_domain : Lexeme → NameTree → Closed Identifier → Declared
error_domain t n xs = declared (d.Errors (record { name = n; codes = xs.list })) t.span xs.close

abbrev pub delegate : Lexeme → Signature → Lexeme → Declared
delegate t x c = declared (d.Delegate x) t.span c.span

abbrev pub constant : Lexeme → TypeTree → Lexeme → Expr → Lexeme → Declared
constant t y n v c = declared (d.Constant (record { declared = y; name = identifier n; value = v })) t.span c.span

abbrev pub field : TypeTree → Lexeme → Option Expr → Lexeme → Declared
field y n v c = declared (d.Field (record { declared = y; name = identifier n; value = v })) y.span c.span

abbrev pub method : TypeTree → Lexeme → List Parameter → List TypeTree → Ending → Declared
method y n ps ts b = declared (d.Method (record { signature = signature y n ps ts; body = b.block })) y.span b.last

abbrev pub creation : NameTree → List Parameter → List TypeTree → Ending → Declared
creation n ps ts b = declared (d.Creation (record { name = n; parameters = ps; throws = ts; body = b.block })) n.span b.last

abbrev pub destructor : Lexeme → Lexeme → Block → Declared
destructor t n b = declared (d.Destructor (record { name = identifier n; body = b })) t.span b.span

abbrev pub construction : Lexeme → Block → Declared
construction t b = declared (d.Construct (record { word = t.span; body = b })) t.span b.span

abbrev pub property : TypeTree → Lexeme → Closed Accessor → Declared
property y n xs = declared (d.Property (record { declared = y; name = identifier n; accessors = xs.list })) y.span xs.close

abbrev pub signal : Lexeme → Lexeme → List Parameter → Ending → Declared
signal t n ps b = declared (d.Signal (record { name = identifier n; parameters = ps; body = b.block })) t.span b.last

-- ---- accessors

abbrev pub as_modifier : Option Lexeme → Option Modifier
as_modifier None = None
as_modifier (Some t) = Some (modifier t)

-- the place of `owned`, if it stands there, else that of the word
abbrev pub getter : Option Lexeme → Option Lexeme → Lexeme → Ending → Accessor
getter m o t b =
    accessor.Get (record { modifier = as_modifier m; is_owned = is_there o; word = t.span; body = b.block }) (join (first_of_two m (first_of_two o t.span)) b.last)
  where
    is_there : Option Lexeme → Bool
    is_there None = false
    is_there (Some t) = true

abbrev pub setter : Option Lexeme → Lexeme → SetterWords → Ending → Accessor
setter m t ws b = accessor.Set (record { modifier = as_modifier m; words = ws; body = b.block }) (join (first_of_two m t.span) b.last)

abbrev pub default_value : Lexeme → Expr → Lexeme → Accessor
default_value t v c = accessor.Default t.span v (join t.span c.span)

-- ---- the last word of a name

abbrev pub last_word : NameTree → List ℕ
last_word n = by n.words
  where
    by : List Identifier → List ℕ
    by [] = []
    by (x ∷ []) = x.text
    by (x ∷ y ∷ xs) = by (y ∷ xs)

-- the name of a creation method of the class whose name ends with this word: the word alone, or it, a dot and a word
abbrev pub names_creation : List ℕ → NameTree → Bool
names_creation c n = by n.words
  where
    by : List Identifier → Bool
    by (x ∷ []) = same_bytes c x.text
    by (x ∷ y ∷ []) = same_bytes c x.text
    by _ = false
