-- What is said of all classes is computed: of each sort, for names of each role, at a line's beginning and elsewhere. And a token of some classes.
use Rattle.std.proofs.Common.{◌≡◌, ℕ, zero, suc, ◌==◌, Bool, true, false, ◌&&◌, List, [], ◌∷◌, refl, sym, ap, ◌∙◌, eqb-true, true≢false}
use Rattle.predictive_grammar.proofs.Sets.{Finite, all, any, all_of, implies, implied, and_first, and_second}
use Rattle.c_lexer.specs.declared.token.Constant.{Constant}
use Rattle.c_lexer.specs.declared.token.Constant.TheVariants as constant
use Rattle.c_lexer.specs.declared.token.TokenKind.TheVariants as k
use Rattle.c_lexer.specs.declared.token.Keyword.{Keyword}
use Rattle.c_lexer.specs.declared.token.Keyword.TheVariants as keyword
use Rattle.c_lexer.specs.declared.token.Sign.{Sign}
use Rattle.c_lexer.specs.declared.token.Sign.TheVariants as sign
use Rattle.c_tree.specs.Words.{Terminal, Of, Header}
use Rattle.c_tree.specs.Names.{Names, Role, TypeName, RowName, VariableName, FunctionName, MemberName, Unknown, AnInt, AChar, Another}
use Rattle.c_grammar.specs.Sorts.{Kind, Sort, Name, Number, Character, Text, Null, Capital, OfSign, OfWord, Unused, File, Class, class, sort_of, sort_of_constant, role_in, on, sign_number, word_number}
use Rattle.c_grammar.specs.Tests.{Set}

-- 1. Signs, keywords and roles, each by its number

abbrev pub all_signs : List Sign
all_signs =
    sign.OpenBrace ∷ sign.CloseBrace ∷ sign.OpenParen ∷ sign.CloseParen ∷ sign.OpenBracket ∷ sign.CloseBracket ∷ sign.Comma ∷ sign.Semicolon ∷ sign.Colon ∷ sign.Dot ∷ sign.Question ∷ sign.Assign ∷
    sign.Less ∷ sign.Greater ∷ sign.Plus ∷ sign.Minus ∷ sign.Star ∷ sign.Slash ∷ sign.Percent ∷ sign.Ampersand ∷ sign.Bar ∷ sign.Caret ∷ sign.Not ∷ sign.Tilde ∷
    sign.Hash ∷ sign.Equal ∷ sign.NotEqual ∷ sign.LessEqual ∷ sign.GreaterEqual ∷ sign.PlusAssign ∷ sign.MinusAssign ∷ sign.StarAssign ∷ sign.SlashAssign ∷ sign.PercentAssign ∷ sign.AndAssign ∷ sign.OrAssign ∷
    sign.XorAssign ∷ sign.AndAnd ∷ sign.OrOr ∷ sign.ShiftLeft ∷ sign.ShiftRight ∷ sign.Increment ∷ sign.Decrement ∷ sign.Paste ∷ sign.Arrow ∷ sign.ShiftLeftAssign ∷ sign.ShiftRightAssign ∷ sign.Ellipsis ∷ []

abbrev pub all_words : List Keyword
all_words =
    keyword.Case ∷ keyword.Char ∷ keyword.Const ∷ keyword.Default ∷ keyword.Else ∷ keyword.Enum ∷ keyword.Goto ∷ keyword.If ∷ keyword.Int ∷ keyword.Return ∷ keyword.Sizeof ∷ keyword.Static ∷
    keyword.Struct ∷ keyword.Switch ∷ keyword.Typedef ∷ keyword.Void ∷ keyword.StructOffset ∷ []

abbrev pub all_roles : List Role
all_roles = TypeName AnInt ∷ TypeName AChar ∷ TypeName Another ∷ RowName true ∷ RowName false ∷ VariableName ∷ FunctionName ∷ MemberName ∷ Unknown ∷ []

abbrev pub role_number : Role → ℕ
role_number (TypeName AnInt) = 0
role_number (TypeName AChar) = 1
role_number (TypeName Another) = 2
role_number (RowName true) = 3
role_number (RowName false) = 4
role_number VariableName = 5
role_number FunctionName = 6
role_number MemberName = 7
role_number Unknown = 8

-- the item at a place, or this
abbrev pub item_at : {A : Type 0} → A → List A → ℕ → A
item_at d [] n = d
item_at d (x ∷ xs) zero = x
item_at d (x ∷ xs) (suc n) = item_at d xs n

module _ {A : Type 0} (number : A → ℕ) (d : A) (xs : List A) (at_number : (x : A) → item_at d xs (number x) ≡ x) where
  -- items of one number are one
  pub by_number : (x y : A) → (number x == number y) ≡ true → x ≡ y
  by_number x y e = sym (at_number x) ∙ ap (item_at d xs) (eqb-true (number x) (number y) e) ∙ at_number y

at_sign_number : (x : Sign) → item_at sign.OpenBrace all_signs (sign_number x) ≡ x
at_sign_number sign.OpenBrace = refl
at_sign_number _ = refl

at_word_number : (x : Keyword) → item_at keyword.Case all_words (word_number x) ≡ x
at_word_number keyword.Case = refl
at_word_number _ = refl

pub at_role_number : (x : Role) → item_at Unknown all_roles (role_number x) ≡ x
at_role_number (TypeName AnInt) = refl
at_role_number (TypeName AChar) = refl
at_role_number (TypeName Another) = refl
at_role_number (RowName true) = refl
at_role_number (RowName false) = refl
at_role_number VariableName = refl
at_role_number _ = refl

pub same_sign : (x y : Sign) → (sign_number x == sign_number y) ≡ true → x ≡ y
same_sign = by_number sign_number sign.OpenBrace all_signs at_sign_number

pub same_word : (x y : Keyword) → (word_number x == word_number y) ≡ true → x ≡ y
same_word = by_number word_number keyword.Case all_words at_word_number

pub every_sign : (x : Sign) → any (λ y. sign_number x == sign_number y) all_signs ≡ true
every_sign sign.OpenBrace = refl
every_sign _ = refl

pub every_word : (x : Keyword) → any (λ y. word_number x == word_number y) all_words ≡ true
every_word keyword.Case = refl
every_word _ = refl

pub every_role : (x : Role) → any (λ y. role_number x == role_number y) all_roles ≡ true
every_role (TypeName AnInt) = refl
every_role (TypeName AChar) = refl
every_role (TypeName Another) = refl
every_role (RowName true) = refl
every_role (RowName false) = refl
every_role VariableName = refl
every_role _ = refl

abbrev pub signs : Finite Sign
signs = record { kinds = all_signs; same = λ x y. sign_number x == sign_number y; same_is = same_sign; every = every_sign }

abbrev pub keywords : Finite Keyword
keywords = record { kinds = all_words; same = λ x y. word_number x == word_number y; same_is = same_word; every = every_word }

abbrev pub roles : Finite Role
roles = record { kinds = all_roles; same = λ x y. role_number x == role_number y; same_is = by_number role_number Unknown all_roles at_role_number; every = every_role }

-- 2. Classes

-- a class that is no name's
abbrev pub plain : Sort → Bool → Class
plain x b = record { sort = x; role = Unknown; begins_line = b }

-- a name's
abbrev pub named : Role → Bool → Class
named r b = record { sort = Name; role = r; begins_line = b }

-- of the sorts that are neither names nor signs nor keywords
abbrev pub of_others : Set → Bool → Bool
of_others p b = p (plain Number b) && (p (plain Character b) && (p (plain Text b) && (p (plain Null b) && (p (plain Capital b) && (p (plain Unused b) && p (plain File b))))))

-- of all classes, at a line's beginning or elsewhere
abbrev pub of_line : Set → Bool → Bool
of_line p b = all (λ s. p (plain (OfSign s) b)) all_signs && (all (λ w. p (plain (OfWord w) b)) all_words && (all (λ r. p (named r b)) all_roles && of_others p b))

-- of all classes
abbrev pub everywhere : Set → Bool
everywhere p = of_line p false && of_line p true

abbrev pub is_within : Set → Set → Bool
is_within f g = everywhere (λ c. implies (f c) (g c))

abbrev pub not_both : Bool → Bool → Bool
not_both true true = false
not_both a b = true

abbrev pub is_apart : Set → Set → Bool
is_apart f g = everywhere (λ c. not_both (f c) (g c))

module _ (p : Set) (b : Bool) (e : of_line p b ≡ true) where
  behind_signs : (all (λ w. p (plain (OfWord w) b)) all_words && (all (λ r. p (named r b)) all_roles && of_others p b)) ≡ true
  behind_signs = and_second (all (λ s. p (plain (OfSign s) b)) all_signs) _ e

  behind_words : (all (λ r. p (named r b)) all_roles && of_others p b) ≡ true
  behind_words = and_second (all (λ w. p (plain (OfWord w) b)) all_words) _ behind_signs

  others : of_others p b ≡ true
  others = and_second (all (λ r. p (named r b)) all_roles) _ behind_words

  from1 : (p (plain Character b) && (p (plain Text b) && (p (plain Null b) && (p (plain Capital b) && (p (plain Unused b) && p (plain File b)))))) ≡ true
  from1 = and_second (p (plain Number b)) _ others

  from2 : (p (plain Text b) && (p (plain Null b) && (p (plain Capital b) && (p (plain Unused b) && p (plain File b))))) ≡ true
  from2 = and_second (p (plain Character b)) _ from1

  from3 : (p (plain Null b) && (p (plain Capital b) && (p (plain Unused b) && p (plain File b)))) ≡ true
  from3 = and_second (p (plain Text b)) _ from2

  from4 : (p (plain Capital b) && (p (plain Unused b) && p (plain File b))) ≡ true
  from4 = and_second (p (plain Null b)) _ from3

  from5 : (p (plain Unused b) && p (plain File b)) ≡ true
  from5 = and_second (p (plain Capital b)) _ from4

  at_constant : (c : Constant) → p (plain (sort_of_constant c) b) ≡ true
  at_constant constant.Null = and_first (p (plain Null b)) _ from3
  at_constant _ = and_first (p (plain Capital b)) _ from4

  at_terminal : (ns : Names) (t : Terminal) (w : List ℕ) → p (record { sort = sort_of t; role = role_in ns t w; begins_line = b }) ≡ true
  at_terminal ns (Of k.Identifier) w = all_of roles (λ r. p (named r b)) (and_first (all (λ r. p (named r b)) all_roles) (of_others p b) behind_words) (role_in ns (Of k.Identifier) w)
  at_terminal ns (Of (k.Number n y)) w = and_first (p (plain Number b)) _ others
  at_terminal ns (Of (k.Character c)) w = and_first (p (plain Character b)) _ from1
  at_terminal ns (Of k.Text) w = and_first (p (plain Text b)) _ from2
  at_terminal ns (Of (k.Constant c)) w = at_constant c
  at_terminal ns (Of (k.Sign s)) w = all_of signs (λ s. p (plain (OfSign s) b)) (and_first (all (λ s. p (plain (OfSign s) b)) all_signs) _ e) s
  at_terminal ns (Of (k.Keyword x)) w = all_of keywords (λ w. p (plain (OfWord w) b)) (and_first (all (λ w. p (plain (OfWord w) b)) all_words) _ behind_signs) x
  at_terminal ns (Of k.UnusedKeyword) w = and_first (p (plain Unused b)) _ from5
  at_terminal ns (Header f) w = and_second (p (plain Unused b)) (p (plain File b)) from5

at_line : (p : Set) → everywhere p ≡ true → (b : Bool) → of_line p b ≡ true
at_line p e false = and_first (of_line p false) (of_line p true) e
at_line p e true = and_second (of_line p false) (of_line p true) e

-- what holds of all classes, holds of each kind's
pub sound : (p : Set) → everywhere p ≡ true → (ns : Names) (x : Kind) → p (class ns x) ≡ true
sound p e ns x = at_terminal p x.begins_line (at_line p e x.begins_line) ns x.terminal x.bytes

pub within : (ns : Names) (f g : Set) → is_within f g ≡ true → (x : Kind) → on ns f x ≡ true → on ns g x ≡ true
within ns f g e x i = implied (f (class ns x)) (g (class ns x)) (sound (λ c. implies (f c) (g c)) e ns x) i

not_second : (a b : Bool) → not_both a b ≡ true → a ≡ true → b ≡ false
not_second true false e i = refl
not_second true true e i = absurd (true≢false (sym e))
not_second false b e i = absurd (true≢false (sym i))

pub apart : (ns : Names) (f g : Set) → is_apart f g ≡ true → (x : Kind) → on ns f x ≡ true → on ns g x ≡ false
apart ns f g e x i = not_second (f (class ns x)) (g (class ns x)) (sound (λ c. not_both (f c) (g c)) e ns x) i
