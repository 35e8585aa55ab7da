-- Lists one after another: what is kept of each, what each declares, and the faults of each.
use Rattle.std.proofs.Common.{◌≡◌, ◌∙◌, sym, ap, ℕ, ◌+◌, ◌<◌, length, get_or, drop, map, List, [], ◌∷◌, ◌++◌, append_assoc}
use Rattle.std.proofs.lemmas.List.{map-append}
use Rattle.c_tree.specs.declared.kinds.Fault.{Fault}
use Rattle.c_tree.specs.Env.{Env}
use Rattle.c_value_checker.specs.declared.faults.Findings.{Findings}
use Rattle.c_value_checker.specs.Noted.{noted}
use Rattle.c_value_checker.proofs.NotedLemmas.{dropped, noted_append}

-- one more is kept, seen as the definitions see it
pub kept_step : {A B C : Type 0} (see : B → C) (f : A → C) (all : List A → List C) → ((x : A) (l : List A) → all (x ∷ l) ≡ f x ∷ all l) → (xs : List A) (i : ℕ) (x : A) (ys zs : List B) (y : B) (w : List C)
    → drop i xs ≡ x ∷ drop (i + 1) xs → see y ≡ f x → zs ≡ ys ++ y ∷ [] → map see ys ++ all (drop i xs) ≡ w → map see zs ++ all (drop (i + 1) xs) ≡ w
kept_step {A} {B} {C} see f all step xs i x ys zs y w is e n given =
    ap (λ z. map see z ++ all (drop (i + 1) xs)) n
    ∙ ap (λ z. z ++ all (drop (i + 1) xs)) (map-append see ys (y ∷ []))
    ∙ append_assoc (map see ys) (see y ∷ []) (all (drop (i + 1) xs))
    ∙ ap (λ z. map see ys ++ z ∷ all (drop (i + 1) xs)) e
    ∙ ap (λ z. map see ys ++ z) (sym (ap all is ∙ step x (drop (i + 1) xs)))
    ∙ given

-- the same of what is kept as it is
pub place_step : {A C : Type 0} (f : A → C) (all : List A → List C) → ((x : A) (l : List A) → all (x ∷ l) ≡ f x ∷ all l) → (xs : List A) (i : ℕ) (x : A) (ys zs : List C) (y : C) (w : List C)
    → drop i xs ≡ x ∷ drop (i + 1) xs → y ≡ f x → zs ≡ ys ++ y ∷ [] → ys ++ all (drop i xs) ≡ w → zs ++ all (drop (i + 1) xs) ≡ w
place_step {A} {C} f all step xs i x ys zs y w is e n given =
    ap (λ z. z ++ all (drop (i + 1) xs)) n
    ∙ append_assoc ys (y ∷ []) (all (drop (i + 1) xs))
    ∙ ap (λ z. ys ++ z ∷ all (drop (i + 1) xs)) e
    ∙ ap (λ z. ys ++ z) (sym (ap all is ∙ step x (drop (i + 1) xs)))
    ∙ given

pub same_step : {A C : Type 0} (f : A → C) (all : List A → List C) → ((x : A) (l : List A) → all (x ∷ l) ≡ f x ∷ all l) → (xs : List A) (i : ℕ) (x : A) (ys zs : List C) (y : C) (w : List C)
    → i < length xs → x ≡ get_or xs i x → y ≡ f x → zs ≡ ys ++ y ∷ [] → ys ++ all (drop i xs) ≡ w → zs ++ all (drop (i + 1) xs) ≡ w
same_step f all step xs i x ys zs y w h is e n given = place_step f all step xs i x ys zs y w (dropped xs i x h is) e n given

-- one more declares
pub names_step : {A : Type 0} (behind : Env → A → Env) (all : Env → List A → Env) → ((d : Env) (x : A) (l : List A) → all d (x ∷ l) ≡ all (behind d x) l) → (xs : List A) (i : ℕ) (x : A) (d e z : Env)
    → i < length xs → x ≡ get_or xs i x → e ≡ behind d x → all d (drop i xs) ≡ z → all e (drop (i + 1) xs) ≡ z
names_step {A} behind all step xs i x d e z h is p given =
    ap (λ y. all y (drop (i + 1) xs)) p ∙ sym (ap (all d) (dropped xs i x h is) ∙ step d x (drop (i + 1) xs)) ∙ given

-- one more has faults, and declares
pub faults_step : {A : Type 0} (behind : Env → A → Env) (f : Env → A → List Fault) (all : Env → List A → List Fault) → ((d : Env) (x : A) (l : List A) → all d (x ∷ l) ≡ f d x ++ all (behind d x) l)
    → (xs : List A) (i : ℕ) (x : A) (d e : Env) (g k z : Findings)
    → i < length xs → x ≡ get_or xs i x → e ≡ behind d x → k ≡ noted g (f d x) → noted g (all d (drop i xs)) ≡ z → noted k (all e (drop (i + 1) xs)) ≡ z
faults_step {A} behind f all step xs i x d e g k z h is p n given =
    ap (λ y. noted k (all y (drop (i + 1) xs))) p
    ∙ ap (λ y. noted y (all (behind d x) (drop (i + 1) xs))) n
    ∙ sym (noted_append g (f d x) (all (behind d x) (drop (i + 1) xs)))
    ∙ ap (noted g) (sym (ap (all d) (dropped xs i x h is) ∙ step d x (drop (i + 1) xs)))
    ∙ given
