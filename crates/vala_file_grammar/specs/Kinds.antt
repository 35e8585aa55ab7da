-- What a token is to the grammar of declarations: its sort, and for some words and texts what they are written by.
use Rattle.std.specs.Prelude.{ℕ, ◌==◌, Bool, true, false, ◌&&◌, ◌||◌, if◌then◌else◌, List, [], ◌∷◌, Option, Some, None, codes}
use Rattle.std.specs.List.{list_all}
use Rattle.vala_lexer.specs.Tokens.{Lexeme}
use Rattle.vala_lexer.specs.Texts.{text_value}
use Rattle.vala_lexer.specs.Bytes.{is_letter, is_digit}
use Rattle.vala_grammar.specs.declared.sort.Sort.{Sort}
use Rattle.vala_grammar.specs.declared.sort.Sort.TheVariants as s
use Rattle.vala_grammar.specs.Sorts.{sort}
use Rattle.vala_grammar.specs.Tests.{is, among}
use Rattle.vala_grammar.specs.Trees as code
use Rattle.vala_grammar.specs.Trees.{same_bytes}
use Rattle.vala_file_grammar.specs.declared.kind.Special.{Special}
use Rattle.vala_file_grammar.specs.declared.kind.Special.TheVariants as special

pub data Base : Type 0 where
  Of : Sort → Base
  -- a name that is one of the words
  Word : Special → Base
  -- a text that is a C identifier
  CText : Base

-- That, and the letters that it is written by, without the `@` that makes a keyword a name.
pub record Kind : Type 0 where
  pub base : Base
  pub text : List ℕ

-- a letter or `_`, and then letters, digits and `_`
abbrev pub is_c_identifier : List ℕ → Bool
is_c_identifier [] = false
is_c_identifier (b ∷ w) = is_letter b && list_all (λ b. is_letter b || is_digit b) w

abbrev pub base_of_name : List ℕ → Base
base_of_name w =
    if same_bytes w (codes "get") then Word special.Get
    else if same_bytes w (codes "set") then Word special.Set
    else if same_bytes w (codes "CCode") then Word special.CCode
    else if same_bytes w (codes "cheader_filename") then Word special.HeaderFilename
    else if same_bytes w (codes "cname") then Word special.CName else Of s.Identifier

-- that of a name which is this word, or none of them
abbrev pub base_told : Option Special → Base
base_told None = Of s.Identifier
base_told (Some w) = Word w

abbrev pub base_of : Sort → List ℕ → Base
base_of s.Identifier w = base_of_name w
base_of s.Text w = if is_c_identifier (text_value w) then CText else Of s.Text
base_of x w = Of x

abbrev pub kind : Lexeme → Kind
kind t = record { base = base_of (sort t.kind) t.text; text = code.word t.text }

abbrev pub sort_of_base : Base → Sort
sort_of_base (Of x) = x
sort_of_base (Word w) = s.Identifier
sort_of_base CText = s.Text

abbrev pub sort_in : Kind → Sort
sort_in x = sort_of_base x.base

-- ---- sets of kinds

-- a set of sorts, as one of kinds
abbrev pub of_sort : (Sort → Bool) → Kind → Bool
of_sort test x = test (sort_in x)

abbrev pub sorted : Sort → Kind → Bool
sorted y x = is y (sort_in x)

abbrev pub one_of : List Sort → Kind → Bool
one_of ys x = among ys (sort_in x)

abbrev pub number : Special → ℕ
number special.Get = 0
number special.Set = 1
number special.CCode = 2
number special.HeaderFilename = 3
number special.CName = 4

abbrev pub is_word : Special → Base → Bool
is_word w (Word v) = number w == number v
is_word w _ = false

abbrev pub word : Special → Kind → Bool
word w x = is_word w x.base

abbrev pub is_c_text_base : Base → Bool
is_c_text_base CText = true
is_c_text_base _ = false

abbrev pub is_c_text : Kind → Bool
is_c_text x = is_c_text_base x.base

-- a name with these letters
abbrev pub named : List ℕ → Kind → Bool
named w x = sorted s.Identifier x && same_bytes w x.text
