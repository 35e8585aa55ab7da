-- Types that are written are read.
use Rattle.std.proofs.Common.{◌≡◌, ◌∙◌, refl, sym, ap, subst, ℕ, zero, suc, Bool, true, false, ◌||◌, [], ◌∷◌, ◌++◌, append_assoc}
use Rattle.c_tree.specs.declared.names.Base.{Base}
use Rattle.c_tree.specs.declared.names.Base.TheVariants as base
use Rattle.c_tree.specs.declared.names.CType.{CType}
use Rattle.c_tree.specs.Words.{Token, Word, start_of, end_of, extent}
use Rattle.c_tree.specs.Names.{Names}
use Rattle.c_tree.specs.Types.{Consts, no_const, more_const, Stars, no_star, more_stars, BaseIs, void_is, int_is, char_is, named_is, ReadsType, type_is, is_object}
use Rattle.c_tree.specs.Bare.{bare_base, bare_type, nowhere}
use Rattle.c_printer.specs.Marks.{Marks, Name, AKeyword, AConstant, Number, Chars, Character, ASign, Space, Line, mark_word, word}
use Rattle.c_printer.specs.PutValues.{const_marks, base_marks, stars, star_marks, type_marks}

pub word_append : (a b : Marks) → word (a ++ b) ≡ word a ++ word b
word_append [] b = refl
word_append (m ∷ a) b = ap (λ w. mark_word m ++ w) (word_append a b) ∙ sym (append_assoc (mark_word m) (word a) (word b))

pub starts_nowhere : (ms : Marks) → start_of 0 (word ms) ≡ 0
starts_nowhere [] = refl
starts_nowhere (Name w ∷ ms) = refl
starts_nowhere (AKeyword w ∷ ms) = refl
starts_nowhere (AConstant w ∷ ms) = refl
starts_nowhere (Number n y ∷ ms) = refl
starts_nowhere (Chars z ∷ ms) = refl
starts_nowhere (Character b ∷ ms) = refl
starts_nowhere (ASign s ∷ ms) = refl
starts_nowhere (Space ∷ ms) = starts_nowhere ms
starts_nowhere (Line n ∷ ms) = starts_nowhere ms

pub ends_nowhere : (ms : Marks) → end_of 0 (word ms) ≡ 0
ends_nowhere [] = refl
ends_nowhere (Name w ∷ ms) = ends_nowhere ms
ends_nowhere (AKeyword w ∷ ms) = ends_nowhere ms
ends_nowhere (AConstant w ∷ ms) = ends_nowhere ms
ends_nowhere (Number n y ∷ ms) = ends_nowhere ms
ends_nowhere (Chars z ∷ ms) = ends_nowhere ms
ends_nowhere (Character b ∷ ms) = ends_nowhere ms
ends_nowhere (ASign s ∷ ms) = ends_nowhere ms
ends_nowhere (Space ∷ ms) = ends_nowhere ms
ends_nowhere (Line n ∷ ms) = ends_nowhere ms

pub extends_nowhere : (ms : Marks) → extent (word ms) ≡ nowhere
extends_nowhere ms = λ i. record { start = starts_nowhere ms i; end = ends_nowhere ms i }

consts_read : (b : Bool) → Consts (word (const_marks b)) b
consts_read true = more_const refl no_const
consts_read false = no_const

all_stars : (n : ℕ) → Stars (word (stars n)) n
all_stars zero = no_star
all_stars (suc n) = more_stars {u = []} refl no_const (all_stars n)

stars_read : (n : ℕ) → Stars (word (star_marks n)) n
stars_read zero = no_star
stars_read (suc n) = all_stars (suc n)

or_false : (b : Bool) → (b || false) ≡ b
or_false true = refl
or_false false = refl

module _ (ns : Names) (anyhow : Bool) where
  one_base : {t : Token} {x : Base} → BaseIs ns anyhow t x → (s : Token) × (word (base_marks x) ≡ s ∷ []) × BaseIs ns anyhow s (bare_base x)
  one_base (void_is e) = (_, refl, void_is refl)
  one_base (int_is e) = (_, refl, int_is refl)
  one_base (char_is e) = (_, refl, char_is refl)
  one_base (named_is {t} e h) = (_, refl, named_is refl h)

  written : (b : Bool) (x : Base) (n : ℕ) (s : Token) → word (base_marks x) ≡ s ∷ [] → BaseIs ns anyhow s (bare_base x)
      → (ms : Marks) → ms ≡ const_marks b ++ base_marks x ++ star_marks n
      → ReadsType ns anyhow (word ms) (record { base = bare_base x; is_const = b; stars = n; span = nowhere })
  written b x n s e is ms given =
      subst (λ o. ReadsType ns anyhow (word ms) (record { base = bare_base x; is_const = b; stars = n; span = o })) (extends_nowhere ms)
      (subst (λ o. ReadsType ns anyhow (word ms) (record { base = bare_base x; is_const = o; stars = n; span = extent (word ms) })) (or_false b)
      (subst (λ w. ReadsType ns anyhow w (record { base = bare_base x; is_const = b || false; stars = n; span = extent w })) (sym flat) (type_is (consts_read b) is no_const (stars_read n))))
    where
      flat : word ms ≡ word (const_marks b) ++ s ∷ [] ++ word (star_marks n)
      flat = ap word given ∙ word_append (const_marks b ++ base_marks x) (star_marks n) ∙ ap (λ w. w ++ word (star_marks n)) (word_append (const_marks b) (base_marks x) ∙ ap (λ w. word (const_marks b) ++ w) e)

  pub type_read : {w : Word} {c : CType} → ReadsType ns anyhow w c → ReadsType ns anyhow (word (type_marks c)) (bare_type c)
  type_read (type_is {b} {c} {n} {x} cs is ds ss) = let (s, e, one) = one_base is in written (b || c) x n s e one _ refl

pub object_bare : (c : CType) → is_object (bare_type c) ≡ is_object c
object_bare c = go c.base
  where
    go : (b : Base) → is_object (record { base = bare_base b; is_const = c.is_const; stars = c.stars; span = nowhere }) ≡ is_object (record { base = b; is_const = c.is_const; stars = c.stars; span = c.span })
    go base.Void = refl
    go base.Int = refl
    go base.Char = refl
    go (base.Named x) = refl
