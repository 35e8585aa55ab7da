-- The names that declarations have in C.
use Rattle.std.specs.Prelude.{ℕ, zero, suc, Bool, true, false, not, ◌&&◌, ◌||◌, ◌==◌, ◌+◌, ◌-◌, nat_le, if◌then◌else◌, List, [], ◌∷◌, ◌++◌, length, map, codes, Option, Some, None, slice_get}
use Rattle.std.specs.List.{list_any, filter_map, flat_map, join_with_byte, enumerate_from}
use Rattle.std.specs.Str.{bytes_eq}
use Rattle.vg_base.specs.declared.event.Span.{Span}
use Rattle.c_lexer.specs.declared.token.TokenKind.{TokenKind}
use Rattle.c_lexer.specs.declared.token.TokenKind.TheVariants as token
use Rattle.c_lexer.specs.Words.{word_kind}
use Rattle.c_tree.specs.Library.{TypeRow, Row, library_types, present_rows, later_rows}
use Rattle.vala_tree.specs.declared.member.Attribute.{Attribute}
use Rattle.vala_tree.specs.declared.member.AttributeArgument.{AttributeArgument}
use Rattle.symbols.specs.declared.kinds.SymbolKind.{SymbolKind}
use Rattle.symbols.specs.declared.kinds.SymbolKind.TheVariants as kind
use Rattle.symbols.specs.Outline.{AccessPlace, AccessWord, Get, Set, Construct, Declared, Outline}

-- 1. Words of a name

abbrev pub is_capital : ℕ → Bool
is_capital b = nat_le 65 b && nat_le b 90

abbrev pub is_small : ℕ → Bool
is_small b = nat_le 97 b && nat_le b 122

abbrev pub is_digit : ℕ → Bool
is_digit b = nat_le 48 b && nat_le b 57

abbrev pub begins_small : List ℕ → Bool
begins_small [] = false
begins_small (b ∷ bs) = is_small b

-- A word begins at a capital behind a small letter or a digit, and at a capital behind a capital and before a small letter.
abbrev pub begins_word : ℕ → ℕ → List ℕ → Bool
begins_word before b after = is_capital b && (is_small before || is_digit before || (is_capital before && begins_small after))

-- a letter as a small one, and as a capital
abbrev pub small : ℕ → ℕ
small b = if is_capital b then b + 32 else b

abbrev pub capital : ℕ → ℕ
capital b = if is_small b then b - 32 else b

-- the rest of a name behind a byte, with `_` before each word that begins in it
abbrev pub cut_behind : ℕ → List ℕ → List ℕ
cut_behind before [] = []
cut_behind before (b ∷ bs) = (if begins_word before b bs then 95 ∷ [] else []) ++ b ∷ cut_behind b bs

-- the words of a name with `_` between, in small letters; nothing stands in front
abbrev pub joined_words : List ℕ → List ℕ
joined_words name = map small (cut_behind 0 name)

-- 2. Full names

-- a declaration's name behind the path to the one around it
abbrev pub behind_owner : (Option ℕ → List (List ℕ)) → Option Declared → List (List ℕ)
behind_owner path None = []
behind_owner path (Some x) = path x.owner ++ x.name ∷ []

-- the names of the declarations around a declaration and its own, the outermost first; each stands behind the one around it
abbrev pub path_within : Outline → ℕ → Option ℕ → List (List ℕ)
path_within o zero x = []
path_within o (suc n) None = []
path_within o (suc n) (Some s) = behind_owner (path_within o n) (slice_get o.declared s)

abbrev pub path_to : Outline → Option ℕ → List (List ℕ)
path_to o x = path_within o (length o.declared) x

abbrev pub path_of : Outline → Declared → List (List ℕ)
path_of o s = path_to o s.owner ++ s.name ∷ []

-- the names as they are written, without anything between
abbrev pub as_written : List (List ℕ) → List ℕ
as_written [] = []
as_written (x ∷ xs) = x ++ as_written xs

-- the words of the names, joined
abbrev pub in_words : List (List ℕ) → List ℕ
in_words path = join_with_byte 95 (map joined_words path)

-- 3. Outline that C has already

abbrev pub is_c_word : TokenKind → Bool
is_c_word token.Identifier = false
is_c_word _ = true

abbrev pub names_type : List ℕ → TypeRow → Bool
names_type name t = bytes_eq t.name name

abbrev pub names_row : List ℕ → Row → Bool
names_row name r = bytes_eq r.name name

-- keywords and literals, the types and functions of the library, and `main`
abbrev pub is_reserved : List ℕ → Bool
is_reserved name =
    is_c_word (word_kind name) || list_any (names_type name) library_types || list_any (names_row name) (present_rows ++ later_rows) || bytes_eq name (codes "main")

-- a name that C has already gets `_vala_` in front
abbrev pub free_name : List ℕ → List ℕ
free_name name = if is_reserved name then codes "_vala_" ++ name else name

-- 4. C names

abbrev pub names_c : AttributeArgument → Option (List ℕ)
names_c a = if bytes_eq a.name.text (codes "cname") then Some a.value.bytes else None

abbrev pub arguments_of : Attribute → List AttributeArgument
arguments_of a = a.arguments

-- the first of some, or another
abbrev pub first_or : List ℕ → List (List ℕ) → List ℕ
first_or default [] = default
first_or default (x ∷ xs) = x

-- what is written as `cname` stands in place of the name
abbrev pub chosen : Declared → List ℕ → List ℕ
chosen s name = first_or name (filter_map names_c (flat_map arguments_of s.heading.attributes))

-- the name of a function that stands beside a type: the type's words, and what it does, with the words of an own name behind
abbrev pub beside : List (List ℕ) → List ℕ → List ℕ → List ℕ
beside type what [] = in_words type ++ 95 ∷ what
beside type what (b ∷ bs) = in_words type ++ 95 ∷ what ++ 95 ∷ joined_words (b ∷ bs)

abbrev pub is_creation_of : ℕ → Declared → Bool
is_creation_of n s = by s.kind s.owner
  where
    by : SymbolKind → Option ℕ → Bool
    by kind.Creation (Some m) = m == n
    by k o = false

-- a class without a creation method has one that is supplied
abbrev pub supplied : Outline → ℕ → List (List ℕ) → List (List ℕ)
supplied o n type = if list_any (is_creation_of n) o.declared then [] else beside type (codes "new") [] ∷ beside type (codes "construct") [] ∷ []

abbrev pub is_get : AccessPlace → Bool
is_get p = by p.word
  where
    by : AccessWord → Bool
    by Get = true
    by _ = false

-- `set`, `construct`, or both
abbrev pub is_set : AccessPlace → Bool
is_set p = by p.word
  where
    by : AccessWord → Bool
    by Set = true
    by Construct = true
    by _ = false

abbrev pub if_is : Bool → List ℕ → List (List ℕ)
if_is true x = x ∷ []
if_is false x = []

-- THE C NAMES of a declaration, before those that C has already are changed. Namespaces, constants, fields, signals, destructors,
-- parameters and locals have none.
abbrev pub bare_c_names : Outline → ℕ → Declared → List (List ℕ)
bare_c_names o n s = by s.kind
  where
    -- of what belongs to a type, the type
    type : List (List ℕ)
    type = path_to o s.owner

    -- of a type, the type itself
    whole : List (List ℕ)
    whole = path_of o s

    by : SymbolKind → List (List ℕ)
    by kind.Method = chosen s (in_words whole) ∷ []
    by kind.Class = chosen s (as_written whole) ∷ beside whole (codes "get_type") [] ∷ supplied o n whole
    by kind.Interface = chosen s (as_written whole) ∷ beside whole (codes "get_type") [] ∷ []
    by kind.Struct = chosen s (as_written whole) ∷ []
    by kind.Enum = chosen s (as_written whole) ∷ []
    by kind.ErrorDomain = chosen s (as_written whole) ∷ []
    by kind.Delegate = chosen s (as_written whole) ∷ []
    by kind.EnumMember = chosen s (map capital (in_words whole)) ∷ []
    by kind.ErrorCode = chosen s (map capital (in_words whole)) ∷ []
    by kind.Creation = chosen s (beside type (codes "new") s.name) ∷ beside type (codes "construct") s.name ∷ []
    by kind.Property = if_is (list_any is_get s.heading.accessors) (beside type (codes "get") s.name) ++ if_is (list_any is_set s.heading.accessors) (beside type (codes "set") s.name)
    by _ = []

-- the C names of a declaration
abbrev pub c_names_of : Outline → ℕ × Declared → List (List ℕ)
c_names_of o (n, s) = map free_name (bare_c_names o n s)

-- a C name, and the name of the declaration that has it
pub record CName : Type 0 where
  pub text : List ℕ
  pub at : Span

abbrev pub named_at : Span → List ℕ → CName
named_at s x = record { text = x; at = s }

abbrev pub c_entries : Outline → ℕ × Declared → List CName
c_entries o (n, s) = map (named_at s.span) (c_names_of o (n, s))

-- all C names of a program, in the order of its declarations
abbrev pub all_c_names : Outline → List CName
all_c_names o = flat_map (c_entries o) (enumerate_from 0 o.declared)
