-- Lists of things, items and ids, as the laws on all runs count them.
use Rattle.std.proofs.Common.{◌≡◌, ℕ, zero, suc, ◌+◌, ◌≤◌, ◌<◌, Bool, true, false, not, cond, List, [], ◌∷◌, ◌++◌, length, count_by, refl, sym, ap, ◌∙◌, subst, arith, Option, Some, None, ◌⊎◌, inl, inr, Contains}
use Rattle.std.specs.Prelude.{slice_get, slice_index_or}
use Rattle.std.proofs.lemmas.List.Sums.{sum_by-cons, sum_by-append}
use Rattle.vg_base.specs.declared.event.Event.{Event}
use Rattle.vg_base.specs.declared.event.Event.TheVariants.{Print, Made, Gone as Went, Dispatch}
use Rattle.vg_base.specs.Headline.{Said, Happens, Returns, events}
use Rattle.core_tree.specs.State.{Status, Live, ThingState}
use Rattle.core_tree.specs.Owners.{kind_of}
use Rattle.core_tree.specs.Places.{with_status, is_live_now}
use Rattle.core_tree.specs.Runs.{makings, kinds, progress, GoesOn, by_status, past, Rises, dispatches}

-- Counts

pub count-cons : {X : Type 0} → (p : X → Bool) (x : X) (xs : List X) → count_by p (x ∷ xs) ≡ cond (p x) 1 0 + count_by p xs
count-cons p x xs = sum_by-cons (λ y. cond (p y) 1 0) x xs

pub count-append : {X : Type 0} → (p : X → Bool) (xs ys : List X) → count_by p (xs ++ ys) ≡ count_by p xs + count_by p ys
count-append p xs ys = sum_by-append (λ y. cond (p y) 1 0) xs ys

-- Events

pub events-append : (xs ys : List Said) → events (xs ++ ys) ≡ events xs ++ events ys
events-append [] ys = refl
events-append (Happens e ∷ xs) ys = ap (λ es. e ∷ es) (events-append xs ys)
events-append (Returns rows ∷ xs) ys = events-append xs ys

pub makings-append : (xs ys : List Event) → makings (xs ++ ys) ≡ makings xs ++ makings ys
makings-append [] ys = refl
makings-append (Made kind ∷ xs) ys = ap (λ es. kind ∷ es) (makings-append xs ys)
makings-append (Went t ∷ xs) ys = makings-append xs ys
makings-append (Print stream bytes ∷ xs) ys = makings-append xs ys
makings-append (Dispatch id ∷ xs) ys = makings-append xs ys

pub dispatches-append : (xs ys : List Event) → dispatches (xs ++ ys) ≡ dispatches xs ++ dispatches ys
dispatches-append [] ys = refl
dispatches-append (Dispatch id ∷ xs) ys = ap (λ es. id ∷ es) (dispatches-append xs ys)
dispatches-append (Made kind ∷ xs) ys = dispatches-append xs ys
dispatches-append (Went t ∷ xs) ys = dispatches-append xs ys
dispatches-append (Print stream bytes ∷ xs) ys = dispatches-append xs ys

-- each thing that goes is one of those made before it, where so many were made already
abbrev pub Ordered : ℕ → List Event → Type 0
Ordered n [] = Unit {0}
Ordered n (Made kind ∷ es) = Ordered (suc n) es
Ordered n (Went t ∷ es) = ((0 < t) × (t ≤ n)) × Ordered n es
Ordered n (Print stream bytes ∷ es) = Ordered n es
Ordered n (Dispatch id ∷ es) = Ordered n es

pub ordered-append : (n m : ℕ) (xs ys : List Event) → m ≡ n + length (makings xs) → Ordered n xs → Ordered m ys → Ordered n (xs ++ ys)
ordered-append n m [] ys e h k = subst (λ i. Ordered i ys) (let q : m ≡ n = omega arith in q) k
ordered-append n m (Made kind ∷ xs) ys e h k = ordered-append (suc n) m xs ys (omega arith) h k
ordered-append n m (Went t ∷ xs) ys e h k = (h.0, ordered-append n m xs ys e h.1 k)
ordered-append n m (Print stream bytes ∷ xs) ys e h k = ordered-append n m xs ys e h k
ordered-append n m (Dispatch id ∷ xs) ys e h k = ordered-append n m xs ys e h k

pub ordered-at : (n t : ℕ) (es fs : List Event) → Ordered n (es ++ Went t ∷ fs) → (0 < t) × (t ≤ n + length (makings es))
ordered-at n t [] fs h = ((h.0).0, let a = (h.0).1 in omega arith)
ordered-at n t (Made kind ∷ es) fs h = let a = ordered-at (suc n) t es fs h in (a.0, omega arith)
ordered-at n t (Went u ∷ es) fs h = ordered-at n t es fs h.1
ordered-at n t (Print stream bytes ∷ es) fs h = ordered-at n t es fs h
ordered-at n t (Dispatch id ∷ es) fs h = ordered-at n t es fs h

-- Things, by serial from 1

abbrev pub at : List ThingState → ℕ → Option ThingState
at xs zero = None
at xs (suc n) = slice_get xs n

pub kinds-append : (xs ys : List ThingState) → kinds (xs ++ ys) ≡ kinds xs ++ kinds ys
kinds-append [] ys = refl
kinds-append (x ∷ xs) ys = ap (λ ks. kind_of x.content ∷ ks) (kinds-append xs ys)

pub kinds-with_status : (xs : List ThingState) (t : ℕ) (st : Status) → kinds (with_status xs t st) ≡ kinds xs
kinds-with_status [] t st = refl
kinds-with_status (x ∷ xs) zero st = refl
kinds-with_status (x ∷ xs) (suc zero) st = refl
kinds-with_status (x ∷ xs) (suc (suc t)) st = ap (λ ks. kind_of x.content ∷ ks) (kinds-with_status xs (suc t) st)

pub length-kinds : (xs : List ThingState) → length (kinds xs) ≡ length xs
length-kinds [] = refl
length-kinds (x ∷ xs) = ap suc (length-kinds xs)

-- each thing goes on
abbrev pub Further : List ThingState → List ThingState → Type 0
Further [] ys = Unit {0}
Further (x ∷ xs) [] = ⊥
Further (x ∷ xs) (y ∷ ys) = GoesOn x y × Further xs ys

pub goes_on_same : (x : ThingState) → GoesOn x x
goes_on_same x = record { content = refl; first = refl; count = refl; status = omega arith }

pub goes_on_trans : (x y z : ThingState) → GoesOn x y → GoesOn y z → GoesOn x z
goes_on_trans x y z h k = record { content = k.content ∙ h.content; first = k.first ∙ h.first; count = k.count ∙ h.count; status = omega (arith, h.status, k.status) }

pub further_same : (xs : List ThingState) → Further xs xs
further_same [] = tt
further_same (x ∷ xs) = (goes_on_same x, further_same xs)

pub further_trans : (xs ys zs : List ThingState) → Further xs ys → Further ys zs → Further xs zs
further_trans [] ys zs h k = tt
further_trans (x ∷ xs) [] zs h k = absurd h
further_trans (x ∷ xs) (y ∷ ys) [] h k = absurd k
further_trans (x ∷ xs) (y ∷ ys) (z ∷ zs) h k = (goes_on_trans x y z h.0 k.0, further_trans xs ys zs h.1 k.1)

pub further_more : (xs ys : List ThingState) → Further xs (xs ++ ys)
further_more [] ys = tt
further_more (x ∷ xs) ys = (goes_on_same x, further_more xs ys)

pub further_at : (xs ys : List ThingState) (t : ℕ) (x : ThingState) → Further xs ys → at xs t ≡ Some x → (y : ThingState) × (at ys t ≡ Some y) × GoesOn x y
further_at xs ys zero x h e = absurd (let bad : None ≡ Some x = e in cc)
further_at [] ys (suc t) x h e = absurd (let bad : None ≡ Some x = e in cc)
further_at (z ∷ xs) [] (suc t) x h e = absurd h
further_at (z ∷ xs) (y ∷ ys) (suc zero) x h e = (y, refl, subst (λ q. GoesOn q y) (let a : Some z ≡ Some x = e in cc) h.0)
further_at (z ∷ xs) (y ∷ ys) (suc (suc t)) x h e = further_at xs ys (suc t) x h.1 e

-- One more thing, which is live

module _ (number : Status → ℕ) where
  pub by-more : number Live ≡ 0 → (xs : List ThingState) (x : ThingState) (t : ℕ) → x.status ≡ Live → by_status number (at (xs ++ x ∷ []) t) ≡ by_status number (at xs t)
  by-more z xs x zero e = refl
  by-more z [] x (suc zero) e = ap number e ∙ z
  by-more z [] x (suc (suc t)) e = refl
  by-more z (y ∷ xs) x (suc zero) e = refl
  by-more z (y ∷ xs) x (suc (suc t)) e = by-more z xs x (suc t) e

  pub by-with_same : (xs : List ThingState) (t : ℕ) (st : Status) (x : ThingState) → at xs t ≡ Some x → by_status number (at (with_status xs t st) t) ≡ number st
  by-with_same xs zero st x e = absurd (let bad : None ≡ Some x = e in cc)
  by-with_same [] (suc t) st x e = absurd (let bad : None ≡ Some x = e in cc)
  by-with_same (y ∷ xs) (suc zero) st x e = refl
  by-with_same (y ∷ xs) (suc (suc t)) st x e = by-with_same xs (suc t) st x e

  pub by-with_other : (xs : List ThingState) (t u : ℕ) (st : Status) → (u ≡ t → ⊥) → by_status number (at (with_status xs t st) u) ≡ by_status number (at xs u)
  by-with_other [] t u st n = refl
  by-with_other (y ∷ xs) zero u st n = refl
  by-with_other (y ∷ xs) (suc zero) zero st n = refl
  by-with_other (y ∷ xs) (suc zero) (suc zero) st n = absurd (n refl)
  by-with_other (y ∷ xs) (suc zero) (suc (suc u)) st n = refl
  by-with_other (y ∷ xs) (suc (suc t)) zero st n = refl
  by-with_other (y ∷ xs) (suc (suc t)) (suc zero) st n = refl
  by-with_other (y ∷ xs) (suc (suc t)) (suc (suc u)) st n = by-with_other xs (suc t) (suc u) st (λ e. n (ap suc e))

pub past-more : (xs : List ThingState) (x : ThingState) → x.status ≡ Live → past (xs ++ x ∷ []) ≡ past xs
past-more xs x e =
    let a = count-append (λ (y : ThingState). not (is_live_now y.status)) xs (x ∷ []) in
    let b : past (x ∷ []) ≡ 0 = ap (λ st. 0 + cond (not (is_live_now st)) 1 0) e in
    a ∙ omega arith

bit-le : (b : Bool) → cond b 1 0 ≤ 1
bit-le true = omega arith
bit-le false = omega arith

pub past-with_status : (xs : List ThingState) (t : ℕ) (st : Status) → past (with_status xs t st) ≤ past xs + 1
past-with_status [] t st = omega arith
past-with_status (x ∷ xs) zero st = omega arith
past-with_status (x ∷ xs) (suc zero) st =
    let a = count-cons (λ (y : ThingState). not (is_live_now y.status)) x xs in
    let b = count-cons (λ (y : ThingState). not (is_live_now y.status)) (record x { status = st }) xs in
    let c = bit-le (not (is_live_now st)) in
    omega arith
past-with_status (x ∷ xs) (suc (suc t)) st =
    let a = count-cons (λ (y : ThingState). not (is_live_now y.status)) x xs in
    let b = count-cons (λ (y : ThingState). not (is_live_now y.status)) x (with_status xs (suc t) st) in
    let c = past-with_status xs (suc t) st in
    omega arith

pub further-with_status : (xs : List ThingState) (t : ℕ) (st : Status) (x : ThingState) → at xs t ≡ Some x → progress x.status ≤ progress st → Further xs (with_status xs t st)
further-with_status xs zero st x e h = absurd (let bad : None ≡ Some x = e in cc)
further-with_status [] (suc t) st x e h = tt
further-with_status (y ∷ xs) (suc zero) st x e h =
    let q : Some y ≡ Some x = e in
    let same : y ≡ x = cc in
    (record { content = refl; first = refl; count = refl; status = subst (λ (z : ThingState). progress z.status ≤ progress st) (sym same) h }, further_same xs)
further-with_status (y ∷ xs) (suc (suc t)) st x e h = (goes_on_same y, further-with_status xs (suc t) st x e h)

-- Ids

-- it is one of them
abbrev pub In : ℕ → List ℕ → Type 0
In i [] = ⊥
In i (j ∷ js) = (j ≡ i) ⊎ In i js

pub in-contains : (i : ℕ) (js : List ℕ) → In i js → Contains js i
in-contains i [] h = absurd h
in-contains i (j ∷ js) (inl e) = (0, omega arith, e)
in-contains i (j ∷ js) (inr h) = let c = in-contains i js h in (suc c.0, let a = c.1 in omega arith, c.2)

pub contains-in : (js : List ℕ) (i k : ℕ) → k < length js → slice_index_or js k i ≡ i → In i js
contains-in [] i k h e = absurd (omega arith)
contains-in (j ∷ js) i zero h e = inl e
contains-in (j ∷ js) i (suc k) h e = inr (contains-in js i k (omega arith) e)

pub in-append : (i : ℕ) (js ks : List ℕ) → In i (js ++ ks) → In i js ⊎ In i ks
in-append i [] ks h = inr h
in-append i (j ∷ js) ks (inl e) = inl (inl e)
in-append i (j ∷ js) ks (inr h) = elim (in-append i js ks h) [ inl a ↦ inl (inr a) | inr b ↦ inr b ]

-- those of a list that are left
pub data Left : List ℕ → List ℕ → Type 0 where
  none : Left [] []
  keep : (i : ℕ) {is js : List ℕ} → Left is js → Left (i ∷ is) (i ∷ js)
  drop : (i : ℕ) {is js : List ℕ} → Left is js → Left is (i ∷ js)

pub left_all : (is : List ℕ) → Left is is
left_all [] = none
left_all (i ∷ is) = keep i (left_all is)

pub left-in : {is js : List ℕ} → (i : ℕ) → Left is js → In i is → In i js
left-in i none h = h
left-in i (keep j l) (inl e) = inl e
left-in i (keep j l) (inr h) = inr (left-in i l h)
left-in i (drop j l) h = inr (left-in i l h)

pub rises-from : (low below high : ℕ) (is : List ℕ) → below ≤ low → Rises low is high → Rises below is high
rises-from low below high [] l h = omega arith
rises-from low below high (i ∷ is) l h = ((let a = h.0 in omega arith), h.1)

pub rises-left : {is js : List ℕ} → (low high : ℕ) → Left is js → Rises low js high → Rises low is high
rises-left low high none h = h
rises-left low high (keep i l) h = (h.0, rises-left i high l h.1)
rises-left low high (drop i {is = is} l) h = rises-from i low high is (let a = h.0 in omega arith) (rises-left i high l h.1)

pub rises-more : (low high : ℕ) (is : List ℕ) → Rises low is high → Rises low (is ++ suc high ∷ []) (suc high)
rises-more low high [] h = (omega arith, omega arith)
rises-more low high (i ∷ is) h = (h.0, rises-more i high is h.1)

-- from ids and the greatest given to later ones
pub record IdsGo (l : ℕ) (is : List ℕ) (m : ℕ) (js : List ℕ) : Type 0 where
  pub greatest : l ≤ m
  pub ordered : Rises 0 is l → Rises 0 js m
  pub kept : (i : ℕ) → i ≤ l → In i js → In i is

pub ids_same : (l : ℕ) (is : List ℕ) → IdsGo l is l is
ids_same l is = record { greatest = omega arith; ordered = λ h. h; kept = λ i b h. h }

pub ids_trans : (l m n : ℕ) (is js ks : List ℕ) → IdsGo l is m js → IdsGo m js n ks → IdsGo l is n ks
ids_trans l m n is js ks h k =
    record {
      greatest = omega (arith, h.greatest, k.greatest);
      ordered = λ r. k.ordered (h.ordered r);
      kept = λ i b e. h.kept i b (k.kept i (let a = h.greatest in omega arith) e);
    }

pub ids_left : (l : ℕ) (is js : List ℕ) → Left js is → IdsGo l is l js
ids_left l is js h = record { greatest = omega arith; ordered = λ r. rises-left 0 l h r; kept = λ i b e. left-in i h e }

pub ids_more : (l : ℕ) (is : List ℕ) → IdsGo l is (suc l) (is ++ suc l ∷ [])
ids_more l is =
    record {
      greatest = omega arith;
      ordered = λ r. rises-more 0 l is r;
      kept = λ i b h. elim (in-append i is (suc l ∷ []) h) [ inl a ↦ a | inr c ↦ elim c [ inl e ↦ absurd (omega arith) | inr z ↦ absurd z ] ];
    }
