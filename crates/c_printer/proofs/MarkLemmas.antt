-- Marks that are put one after another.
use Rattle.std.proofs.Math.Seq.{drop-cons}
use Rattle.std.proofs.Common.{Result, Ok, Err, OnOk, ◌≡◌, ◌∙◌, refl, sym, ap, ℕ, zero, suc, ◌+◌, ◌<◌, length, get_or, drop, arith, List, [], ◌∷◌, ◌++◌}
use Rattle.c_lexer.specs.declared.token.Sign.TheVariants as sign
use Rattle.c_printer.specs.Text.{Text}
use Rattle.c_printer.specs.Marks.{Mark, Marks, ASign, put_mark, put_marks}
use Rattle.c_printer.specs.PutValues.{stars}

pub put_append : (t : Text) (a b : Marks) → put_marks t (a ++ b) ≡ put_marks (put_marks t a) b
put_append t [] b = refl
put_append t (m ∷ a) b = put_append (put_mark t m) a b

pub put_both : (t u w : Text) (a b : Marks) → u ≡ put_marks t a → w ≡ put_marks u b → w ≡ put_marks t (a ++ b)
put_both t u w a b p q = q ∙ ap (λ x. put_marks x b) p ∙ sym (put_append t a b)

pub one_star : (n : ℕ) → stars n ++ ASign sign.Star ∷ [] ≡ ASign sign.Star ∷ stars n
one_star zero = refl
one_star (suc n) = ap (λ z. ASign sign.Star ∷ z) (one_star n)

pub star_more : (t : Text) (n : ℕ) → put_mark (put_marks t (stars n)) (ASign sign.Star) ≡ put_marks t (stars (n + 1))
star_more t n = sym (put_append t (stars n) (ASign sign.Star ∷ [])) ∙ ap (put_marks t) (one_star n ∙ ap stars (let e : suc n ≡ n + 1 = omega arith in e))

pub two_put : (t u w : Text) (a b c : Marks) → u ≡ put_marks t a → w ≡ put_marks u b → a ++ b ≡ c → w ≡ put_marks t c
two_put t u w a b c p q r = put_both t u w a b p q ∙ ap (put_marks t) r

pub wrapped : (t u w z : Text) (before after : Mark) (ms c : Marks) → u ≡ put_mark t before → w ≡ put_marks u ms → z ≡ put_mark w after → before ∷ ms ++ after ∷ [] ≡ c → z ≡ put_marks t c
wrapped t u w z before after ms c p q r e = put_both u w z ms (after ∷ []) q r ∙ ap (λ x. put_marks x (ms ++ after ∷ [])) p ∙ ap (put_marks t) e

-- one more of a list of which each is put
pub row_step : {A : Type 0} (f : A → Marks) (all : List A → Marks) → ((x : A) (l : List A) → all (x ∷ l) ≡ f x ++ all l) → (xs : List A) (i : ℕ) (x : A) (t u z : Text)
    → i < length xs → x ≡ get_or xs i x → u ≡ put_marks t (f x) → put_marks t (all (drop i xs)) ≡ z → put_marks u (all (drop (i + 1) xs)) ≡ z
row_step {A} f all step xs i x t u z h is e given =
    ap (λ y. put_marks y (all (drop (i + 1) xs))) e ∙ sym (put_append t (f x) (all (drop (i + 1) xs))) ∙ ap (put_marks t) (sym (step x (drop (i + 1) xs))) ∙ ap (λ l. put_marks t (all l)) (sym dropped) ∙ given
  where
    dropped : drop i xs ≡ x ∷ drop (i + 1) xs
    dropped = drop-cons xs i x h ∙ (λ k. sym is k ∷ drop ((let e : suc i ≡ i + 1 = omega arith in e) k) xs)

-- what follows where a call went well
pub on_ok : {T E A B : Type 0} (r : Result T E) → OnOk r A → (A → B) → OnOk r B
on_ok (Ok x) h f = f h
on_ok (Err e) h f = h
