-- Lists of kinds, one by one.
use Rattle.std.proofs.Common.{◌≡◌, ◌∙◌, refl, sym, ap, arith, ℕ, zero, suc, ◌+◌, ◌-◌, ◌==◌, ◌<◌, ◌≤◌, ◌&&◌, Bool, true, false, length, get_or, slice_get, drop, drop-cons, List, [], ◌∷◌, Option, Some, None}
use Rattle.std.proofs.lemmas.List.{drop_all, length-drop}
use Rattle.std.proofs.lemmas.List.Sums.{fold-append}
use Rattle.std.specs.List.{flat_map, fold}
use Rattle.c_tree.specs.declared.kinds.Kind.{Kind}
use Rattle.c_tree.specs.Kinds.{same_known, same_list}
use Rattle.c_value_checker.specs.Takes.{kind_fed}

and_true : (b c : Bool) → b ≡ true → (b && c) ≡ c
and_true true c e = refl
and_true false c e = absurd (let x : ⊥ = cc in x)

and_false : (b c : Bool) → b ≡ false → (b && c) ≡ false
and_false true c e = absurd (let x : ⊥ = cc in x)
and_false false c e = refl

got_some : {A : Type 0} (xs : List A) (i : ℕ) (x : A) → slice_get xs i ≡ Some x → drop i xs ≡ x ∷ drop (i + 1) xs
got_some [] i x e = absurd (let n : ⊥ = cc in n)
got_some (y ∷ xs) zero x e = ap (λ z. z ∷ xs) (let h : y ≡ x = cc in h)
got_some (y ∷ xs) (suc i) x e = got_some xs i x e ∙ (λ k. x ∷ drop ((let h : suc (i + 1) ≡ suc i + 1 = omega arith in h) k) (y ∷ xs))

got_none : {A : Type 0} (xs : List A) (i : ℕ) → slice_get xs i ≡ None → drop i xs ≡ []
got_none [] zero e = refl
got_none [] (suc i) e = refl
got_none (y ∷ xs) zero e = absurd (let n : ⊥ = cc in n)
got_none (y ∷ xs) (suc i) e = got_none xs i e

pub at_place : {A : Type 0} (xs : List A) (i : ℕ) (d : A) → i < length xs → drop i xs ≡ get_or xs i d ∷ drop (i + 1) xs
at_place xs i d h = drop-cons xs i d h ∙ (λ k. get_or xs i d ∷ drop ((let e : suc i ≡ i + 1 = omega arith in e) k) xs)

-- one more kind is the same
pub same_turn : (a b : List (Option Kind)) (i : ℕ) (k o : Option Kind) → drop i a ≡ k ∷ drop (i + 1) a → slice_get b i ≡ Some o → same_known k o ≡ true
    → same_list (drop (i + 1) a) (drop (i + 1) b) ≡ same_list (drop i a) (drop i b)
same_turn a b i k o h g e = sym ((λ n. same_list (h n) (got_some b i o g n)) ∙ and_true (same_known k o) (same_list (drop (i + 1) a) (drop (i + 1) b)) e)

-- a kind is another
pub same_not : (a b : List (Option Kind)) (i : ℕ) (k o : Option Kind) → drop i a ≡ k ∷ drop (i + 1) a → slice_get b i ≡ Some o → same_known k o ≡ false → false ≡ same_list (drop i a) (drop i b)
same_not a b i k o h g e = sym ((λ n. same_list (h n) (got_some b i o g n)) ∙ and_false (same_known k o) (same_list (drop (i + 1) a) (drop (i + 1) b)) e)

-- the second list is shorter
pub same_short : (a b : List (Option Kind)) (i : ℕ) (k : Option Kind) → drop i a ≡ k ∷ drop (i + 1) a → slice_get b i ≡ None → false ≡ same_list (drop i a) (drop i b)
same_short a b i k h g = sym (λ n. same_list (h n) (got_none b i g n))

pub got_within : {A : Type 0} (xs : List A) (i : ℕ) (x : A) → slice_get xs i ≡ Some x → i + 1 ≤ length xs
got_within [] i x e = absurd (let n : ⊥ = cc in n)
got_within (y ∷ xs) zero x e = grind arith
got_within (y ∷ xs) (suc i) x e = let h : i + 1 ≤ length xs = got_within xs i x e in omega (arith, h)

no_more : (n m i : ℕ) → n ≡ i → i ≤ m → 0 ≡ m - i → (n == m) ≡ true
no_more n m i e h z = grind arith

some_more : (n m i k : ℕ) → n ≡ i → suc k ≡ m - i → (n == m) ≡ false
some_more n m i k e z = grind arith

rest_is : (r : List (Option Kind)) (n m i : ℕ) → n ≡ i → i ≤ m → length r ≡ m - i → (n == m) ≡ same_list [] r
rest_is [] n m i e h z = no_more n m i e h z
rest_is (x ∷ r) n m i e h z = some_more n m i (length r) e z

-- the first list is at its end
pub same_done : (a b : List (Option Kind)) (i n : ℕ) → n ≡ i → length a ≤ i → i ≤ length b → (n == length b) ≡ same_list (drop i a) (drop i b)
same_done a b i n e h w = rest_is (drop i b) n (length b) i e w (length-drop i b) ∙ ap (λ l. same_list l (drop i b)) (sym (drop_all i a h))

-- what a hasher is fed of one more kind
pub fed_turn : {S : Type 0} (write : S → List ℕ → S) (s t : S) (ks : List (Option Kind)) (i : ℕ) (k : Option Kind) → drop i ks ≡ k ∷ drop (i + 1) ks → t ≡ fold write s (kind_fed k)
    → fold write t (flat_map kind_fed (drop (i + 1) ks)) ≡ fold write s (flat_map kind_fed (drop i ks))
fed_turn write s t ks i k h e =
    ap (λ r. fold write r (flat_map kind_fed (drop (i + 1) ks))) e ∙ sym (ap (λ l. fold write s (flat_map kind_fed l)) h ∙ fold-append write s (kind_fed k) (flat_map kind_fed (drop (i + 1) ks)))

pub fed_done : {S : Type 0} (write : S → List ℕ → S) (s : S) (ks : List (Option Kind)) (i : ℕ) → length ks ≤ i → s ≡ fold write s (flat_map kind_fed (drop i ks))
fed_done write s ks i h = sym (ap (λ l. fold write s (flat_map kind_fed l)) (drop_all i ks h))
