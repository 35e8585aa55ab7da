-- Letters, digits and `_`.
use Rattle.std.proofs.Common.{◌≡◌, ℕ, Bool, true, false, ◌&&◌, ◌||◌, ◌==◌, not, nat_le, List, ◌∷◌, length, refl, sym, ap, subst, ◌∙◌}
use Rattle.std.specs.List.{list_all}
use Rattle.std.proofs.lemmas.Bool.{eqb-true}
use Rattle.std.specs.Char.{is_ascii_alphabetic, is_ascii_alphanumeric}
use Rattle.c_lexer.specs.Bytes.{is_letter, is_digit}
use Rattle.c_tree.specs.Words.{is_file_name}

without : (u v t : Bool) → (t ≡ true → (u || v) ≡ false) → (u || v) ≡ ((u || t || v) && not t)
without true v true none = none refl
without false v true none = none refl
without true v false none = refl
without false true false none = refl
without false false false none = refl

-- a letter other than `_`
pub letter_is : (b : ℕ) → is_ascii_alphabetic b ≡ (is_letter b && not (b == 95))
letter_is b = without (nat_le 65 b && nat_le b 90) (nat_le 97 b && nat_le b 122) (b == 95)
    (λ e. subst (λ (x : ℕ). is_ascii_alphabetic x ≡ false) (sym (eqb-true b 95 e)) refl)

or_true : (x : Bool) → true ≡ (x || true)
or_true true = refl
or_true false = refl

reordered : (d u v t : Bool) → (((d || u) || v) || t) ≡ ((u || t || v) || d)
reordered true u v t = or_true (u || t || v)
reordered false true v t = refl
reordered false false true true = refl
reordered false false true false = refl
reordered false false false true = refl
reordered false false false false = refl

-- a byte of a word
pub word_byte_is : (b : ℕ) → (is_ascii_alphanumeric b || b == 95) ≡ (is_letter b || is_digit b)
word_byte_is b = reordered (nat_le 48 b && nat_le b 57) (nat_le 65 b && nat_le b 90) (nat_le 97 b && nat_le b 122) (b == 95)

pub word_byte_is_letter : (b : ℕ) → is_ascii_alphanumeric b ≡ true → true ≡ (is_letter b || is_digit b)
word_byte_is_letter b e = sym (ap (λ (x : Bool). x || b == 95) e) ∙ word_byte_is b

pub word_byte_is_other : (b : ℕ) → is_ascii_alphanumeric b ≡ false → (b == 95) ≡ (is_letter b || is_digit b)
word_byte_is_other b e = sym (ap (λ (x : Bool). x || b == 95) e) ∙ word_byte_is b

both_parts : (a b c d : Bool) → (a && b) ≡ true → (c && d) ≡ (a && b && c && d)
both_parts true true c d e = refl
both_parts true false c d e = absurd cc
both_parts false b c d e = absurd cc

-- the name of a file
pub name_begins : (b : ℕ) (bs : List ℕ) → (is_letter b && not (b == 95)) ≡ true
    → (nat_le (length bs) 99 && list_all (λ c. is_letter c || is_digit c) bs) ≡ is_file_name (b ∷ bs)
name_begins b bs e = both_parts (is_letter b) (not (b == 95)) (nat_le (length bs) 99) (list_all (λ c. is_letter c || is_digit c) bs) e

pub ruleset byte_laws = (letter_is, word_byte_is, word_byte_is_letter, word_byte_is_other)

pub ruleset name_laws = (name_begins)
