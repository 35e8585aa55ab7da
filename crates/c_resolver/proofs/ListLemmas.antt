-- One item more of a list.
use Rattle.std.proofs.Common.{◌≡◌, ◌∙◌, refl, sym, ap, arith, ℕ, ◌+◌, ◌-◌, ◌<◌, ◌≤◌, length, get_or, drop, take, map, List, [], ◌∷◌, ◌++◌, append_assoc}
use Rattle.std.proofs.lemmas.List.{map-append, take_more}
use Rattle.c_value_checker.proofs.NotedLemmas.{dropped}

-- what is kept of each item stands behind what was kept
pub kept_step : {A B : Type 0} (f : A → List B) (all : List A → List B) → ((x : A) (l : List A) → all (x ∷ l) ≡ f x ++ all l)
    → (xs : List A) (i : ℕ) (x : A) (old new : List B)
    → i < length xs → x ≡ get_or xs i x → new ≡ old ++ f x → new ++ all (drop (i + 1) xs) ≡ old ++ all (drop i xs)
kept_step f all step xs i x old new h is e =
    ap (λ z. z ++ all (drop (i + 1) xs)) e ∙ append_assoc old (f x) (all (drop (i + 1) xs))
    ∙ ap (λ z. old ++ z) (sym (step x (drop (i + 1) xs))) ∙ ap (λ l. old ++ all l) (sym (dropped xs i x h is))

-- what follows an item goes on behind it
pub passed_step : {A S : Type 0} (behind : S → A → S) (all : S → List A → S) → ((s : S) (x : A) (l : List A) → all s (x ∷ l) ≡ all (behind s x) l)
    → (xs : List A) (i : ℕ) (x : A) (s t : S)
    → i < length xs → x ≡ get_or xs i x → t ≡ behind s x → all t (drop (i + 1) xs) ≡ all s (drop i xs)
passed_step behind all step xs i x s t h is e =
    ap (λ z. all z (drop (i + 1) xs)) e ∙ sym (step s x (drop (i + 1) xs)) ∙ ap (all s) (sym (dropped xs i x h is))

-- one item more of what is seen
pub seen_step : {A B C : Type 0} (g : A → B) (f : C → B) (xs : List C) (i : ℕ) (x : C) (old : List A) (a : A) (new : List A)
    → i < length xs → x ≡ get_or xs i x → g a ≡ f x → new ≡ old ++ a ∷ [] → map g new ++ map f (drop (i + 1) xs) ≡ map g old ++ map f (drop i xs)
seen_step g f xs i x old a new h is e en =
    kept_step (λ y. f y ∷ []) (map f) (λ y l. refl) xs i x (map g old) (map g new) h is
    (ap (map g) en ∙ map-append g old (a ∷ []) ∙ ap (λ z. map g old ++ z ∷ []) e)

-- the front of a list, and the last of it
pub back : {A : Type 0} (xs : List A) (n : ℕ) (x : A) → 0 < n → n ≤ length xs → x ≡ get_or xs (n - 1) x → take n xs ≡ take (n - 1) xs ++ x ∷ []
back xs n x p h is =
    ap (λ m. take m xs) (let e : n ≡ n - 1 + 1 = omega (arith, p) in e)
    ∙ take_more xs (n - 1) x (omega (arith, p, h))
    ∙ ap (λ y. take (n - 1) xs ++ y ∷ []) (sym is)

pub map_last : {A B : Type 0} (f : A → B) (xs rest : List A) (x : A) → xs ≡ rest ++ x ∷ [] → map f xs ≡ map f rest ++ f x ∷ []
map_last f xs rest x is = ap (map f) is ∙ map-append f rest (x ∷ [])
