-- The sets of tokens by which forms decide, by their classes.
use Rattle.std.specs.Prelude.{ℕ, ◌==◌, nat_le, not, Bool, true, false, ◌&&◌, ◌||◌, List, [], ◌∷◌, Option, Some, None, codes}
use Rattle.std.specs.Str.{bytes_eq}
use Rattle.c_lexer.specs.declared.token.Keyword.{Keyword}
use Rattle.c_lexer.specs.declared.token.Keyword.TheVariants as keyword
use Rattle.c_lexer.specs.declared.token.Sign.{Sign}
use Rattle.c_lexer.specs.declared.token.Sign.TheVariants as sign
use Rattle.c_tree.specs.declared.operators.BinaryOperator.{BinaryOperator}
use Rattle.c_tree.specs.declared.operators.Level.{Level}
use Rattle.c_tree.specs.declared.operators.Level.TheVariants as level
use Rattle.c_tree.specs.Kinds.{level_of}
use Rattle.c_tree.specs.Names.{Names, Role, RowName, FunctionName, MemberName, meaning_of_role, is_an_int, is_a_char}
use Rattle.c_tree.specs.Types.{can_be_type}
use Rattle.c_tree.specs.Values.{binary_of, prefix_of, is_variable}
use Rattle.c_grammar.specs.Sorts.{Sort, Kind, on, Name, Number, Character, Text, Null, Capital, OfSign, OfWord, Class, same}

-- a set of classes
abbrev pub Set : Type 0
Set = Class → Bool

-- a sort
abbrev pub is : Sort → Set
is x c = same x c.sort

-- a sign, and a keyword
abbrev pub sign_is : Sign → Set
sign_is s = is (OfSign s)

-- a keyword
abbrev pub word_is : Keyword → Set
word_is w = is (OfWord w)

-- a name of a role that passes the test
abbrev pub name_with : (Role → Bool) → Set
name_with test c = is Name c && test c.role

-- the tokens of either set
abbrev pub or_else : Set → Set → Set
or_else f g c = f c || g c

-- 1. Types

-- the base of a type
abbrev pub is_base : Bool → Set
is_base anyhow c = word_is keyword.Void c || word_is keyword.Int c || word_is keyword.Char c || name_with (can_be_type anyhow) c

-- what begins a type
abbrev pub begins_type : Bool → Set
begins_type anyhow c = word_is keyword.Const c || is_base anyhow c

-- 2. Operators

-- levels by number, the tightest first
abbrev pub level_number : Level → ℕ
level_number level.Product = 0
level_number level.Sum = 1
level_number level.Shift = 2
level_number level.Relation = 3
level_number level.Equality = 4
level_number level.BitAnd = 5
level_number level.BitXor = 6
level_number level.BitOr = 7
level_number level.And = 8
level_number level.Or = 9

-- an operator of a level
abbrev pub is_of_level : Level → Option BinaryOperator → Bool
is_of_level l None = false
is_of_level l (Some o) = level_number (level_of o) == level_number l

-- an operator of a level that is no looser
abbrev pub is_up_to_level : Level → Option BinaryOperator → Bool
is_up_to_level l None = false
is_up_to_level l (Some o) = nat_le (level_number (level_of o)) (level_number l)

-- a sign that passes the test
abbrev pub sign_with : (Sign → Bool) → Sort → Bool
sign_with test (OfSign s) = test s
sign_with test x = false

-- a sign between operands of a level
abbrev pub links : Level → Set
links l c = sign_with (λ s. is_of_level l (binary_of s)) c.sort

-- a sign between operands of a level or a tighter one
abbrev pub links_up_to : Level → Set
links_up_to l c = sign_with (λ s. is_up_to_level l (binary_of s)) c.sort

-- whether there is one
abbrev pub is_there : {A : Type 0} → Option A → Bool
is_there None = false
is_there (Some a) = true

-- a sign before an operand, but for `&`
abbrev pub is_prefix : Bool → Set
is_prefix constant c = sign_with (λ s. is_there (prefix_of constant s)) c.sort && not (sign_is sign.Ampersand c)

-- 3. Operands

-- the name of a value
abbrev pub is_value_role : Bool → Role → Bool
is_value_role constant FunctionName = true
is_value_role constant MemberName = true
is_value_role constant r = is_variable constant r

-- a number, a character, a text or a capital name
abbrev pub is_literal : Set
is_literal c = is Number c || is Character c || is Text c || is Null c || is Capital c

-- what a value begins with that has no operator and no bracket in front and is no name
abbrev pub begins_unnamed : Set
begins_unnamed c = is_literal c || word_is keyword.Sizeof c || word_is keyword.StructOffset c

-- the same, or a name
abbrev pub begins_primary : Bool → Set
begins_primary constant c = name_with (is_value_role constant) c || begins_unnamed c

-- what an operand with operators before it begins with
abbrev pub begins_prefixed : Bool → Set
begins_prefixed constant c = is_prefix constant c || (not constant && sign_is sign.Ampersand c) || sign_is sign.OpenParen c || begins_primary constant c

-- what a place begins with
abbrev pub begins_place : Set
begins_place c = sign_is sign.Star c || sign_is sign.OpenParen c || begins_primary false c

-- `->`, and `.` where it may stand
abbrev pub is_field : Bool → Set
is_field dot c = sign_is sign.Arrow c || (dot && sign_is sign.Dot c)

-- what suffixes begin with
abbrev pub begins_suffix : Bool → Set
begins_suffix dot c = sign_is sign.OpenBracket c || is_field dot c

-- 4. Statements

-- the name of a value, or of a function of the library
abbrev pub is_callee_role : Role → Bool
is_callee_role (RowName takes_type) = true
is_callee_role r = is_value_role false r

-- what a type begins with that begins with a word of its own
abbrev pub begins_key_type : Set
begins_key_type c = word_is keyword.Const c || word_is keyword.Void c || word_is keyword.Int c || word_is keyword.Char c

-- a base that is a word of its own
abbrev pub is_key_base : Set
is_key_base c = word_is keyword.Void c || word_is keyword.Int c || word_is keyword.Char c

-- what follows the base of a type
abbrev pub goes_on_type : Set
goes_on_type c = sign_is sign.Star c || word_is keyword.Const c

-- what follows a name that is the base of the type of a declaration
abbrev pub goes_on_local : Set
goes_on_local c = goes_on_type c || is Name c

-- what a statement begins with that begins with no name
abbrev pub begins_plain : Set
begins_plain c =
    sign_is sign.Star c || sign_is sign.OpenParen c || sign_is sign.OpenBrace c || begins_unnamed c || word_is keyword.If c || word_is keyword.Goto c || word_is keyword.Switch c || word_is keyword.Return c

-- what a statement begins with
abbrev pub begins_statement : Set
begins_statement c = is Name c || begins_plain c

-- what a declaration or a statement begins with
abbrev pub begins_body : Set
begins_body c = begins_key_type c || begins_statement c

-- what follows an operand that a statement begins with
abbrev pub goes_on_statement : Set
goes_on_statement c = begins_suffix true c || sign_is sign.Assign c || sign_is sign.OpenParen c

-- what a value or a call begins with
abbrev pub begins_assigned : Set
begins_assigned c = name_with is_callee_role c || is_prefix false c || sign_is sign.Ampersand c || sign_is sign.OpenParen c || begins_unnamed c

-- 5. Items

-- the same at the beginning of a line, where it must stand there
abbrev pub on_line : Bool → Set → Set
on_line line test c = test c && (not line || c.begins_line)

-- the `#` that begins a line
abbrev pub begins_include : Set
begins_include c = sign_is sign.Hash c && c.begins_line

-- what an item begins with
abbrev pub begins_item : Bool → Set
begins_item line c =
    begins_include c || on_line line (word_is keyword.Typedef) c || on_line line (word_is keyword.Struct) c || on_line line (word_is keyword.Static) c || on_line line (begins_type true) c

-- the base of a type that means `int`, and of one that means `char`
abbrev pub is_int_base : Set
is_int_base c = word_is keyword.Int c || name_with (λ r. is_an_int (meaning_of_role r)) c

abbrev pub is_char_base : Set
is_char_base c = word_is keyword.Char c || name_with (λ r. is_a_char (meaning_of_role r)) c

-- a base that is not `void`
abbrev pub is_other_base : Set
is_other_base c = word_is keyword.Int c || word_is keyword.Char c || name_with (can_be_type true) c

-- what parameters begin with
abbrev pub begins_parameters : Set
begins_parameters c = begins_type true c

-- whether these letters are `main`
abbrev pub is_main : List ℕ → Bool
is_main w = bytes_eq w (codes "main")

-- a name; one with these letters
abbrev pub is_any_name : Kind → Bool
is_any_name x = on [] (is Name) x

-- one with these letters
abbrev pub is_name_of : List ℕ → Kind → Bool
is_name_of w x = is_any_name x && bytes_eq x.bytes w

-- the word `include` on the line of its `#`
abbrev pub is_include_word : Kind → Bool
is_include_word x = is_name_of (codes "include") x && not x.begins_line

-- whether letters begin with `_`
abbrev pub begins_low : List ℕ → Bool
begins_low [] = false
begins_low (b ∷ w) = b == 95

-- the tag of a struct
abbrev pub is_tag : Kind → Bool
is_tag x = is_any_name x && begins_low x.bytes

-- a name that is `main` only where that may be
abbrev pub is_free_name : Bool → Kind → Bool
is_free_name may_be_main x = is_any_name x && (not (is_main x.bytes) || may_be_main)

-- the name of a type, or `GInterfaceInfo`
abbrev pub is_info_or_type : Names → Kind → Bool
is_info_or_type ns x = is_any_name x && (bytes_eq x.bytes (codes "GInterfaceInfo") || on ns (name_with (can_be_type true)) x)
