-- Which things the places own, where places are filled and emptied.
use Rattle.std.proofs.Common.{◌≡◌, ℕ, zero, suc, ◌+◌, ◌≤◌, ◌<◌, le_refl, Bool, true, false, not, cond, List, [], ◌∷◌, ◌++◌, length, length-append, count_by, refl, sym, ap, ◌∙◌, subst, arith, Option, Some, None, ◌⊎◌, inl, inr, true≢false}
use Rattle.std.specs.Prelude.{◌==◌, ◌&&◌, IsTrue, slice_get}
use Rattle.std.proofs.lemmas.Bool.{eqb-true, eq-eqb}
use Rattle.core_tree.specs.State
use Rattle.core_tree.specs.State.{Value, Null, Thing, Place, Status, Live, Ending, Gone, ThingState}
use Rattle.core_tree.specs.Owners.{owns, owned_by, is_thing}
use Rattle.core_tree.specs.Places.{status_in, is_live_now, owning_in, held_in, put_in, cannot_be_owned, is_past, ownable}
use Rattle.core_tree.proofs.Counts.{count-cons, count-append, at}

-- a place owns the thing
abbrev pub Own : ℕ → List Place → Type 0
Own t [] = ⊥
Own t (p ∷ ps) = IsTrue (owns t p) ⊎ Own t ps

abbrev pub owns_in : ℕ → Option Place → Bool
owns_in t None = false
owns_in t (Some p) = owns t p

no : IsTrue false → ⊥
no e = true≢false (sym e)

pub own-at : (t n : ℕ) (ps : List Place) → IsTrue (owns_in t (slice_get ps n)) → Own t ps
own-at t n [] h = absurd (no h)
own-at t zero (p ∷ ps) h = inl h
own-at t (suc n) (p ∷ ps) h = inr (own-at t n ps h)

-- which place owns the thing
pub own-found : (t : ℕ) (ps : List Place) → Own t ps → (n : ℕ) × IsTrue (owns_in t (slice_get ps n))
own-found t [] h = absurd h
own-found t (p ∷ ps) (inl h) = (0, h)
own-found t (p ∷ ps) (inr h) = let f = own-found t ps h in (suc f.0, f.1)

pub own-left : (t : ℕ) (ps qs : List Place) → Own t ps → Own t (ps ++ qs)
own-left t [] qs h = absurd h
own-left t (p ∷ ps) qs (inl h) = inl h
own-left t (p ∷ ps) qs (inr h) = inr (own-left t ps qs h)

pub own-right : (t : ℕ) (ps qs : List Place) → Own t qs → Own t (ps ++ qs)
own-right t [] qs h = h
own-right t (p ∷ ps) qs h = inr (own-right t ps qs h)

pub own-split : (t : ℕ) (ps qs : List Place) → Own t (ps ++ qs) → Own t ps ⊎ Own t qs
own-split t [] qs h = inr h
own-split t (p ∷ ps) qs (inl h) = inl (inl h)
own-split t (p ∷ ps) qs (inr h) = elim (own-split t ps qs h) [ inl a ↦ inl (inr a) | inr b ↦ inr b ]

-- a place that owns, and what it is filled with
pub own-put_new : (t n : ℕ) (ps : List Place) (v : Value) → IsTrue (owning_in (slice_get ps n) && is_thing t (owned_by v)) → Own t (put_in ps n v)
own-put_new t n [] v h = absurd (no h)
own-put_new t zero (p ∷ ps) v h = inl h
own-put_new t (suc n) (p ∷ ps) v h = inr (own-put_new t n ps v h)

pub own-put_to : (t n : ℕ) (ps : List Place) (v : Value) → Own t ps → Own t (put_in ps n v) ⊎ IsTrue (owns_in t (slice_get ps n))
own-put_to t n [] v h = absurd h
own-put_to t zero (p ∷ ps) v (inl h) = inr h
own-put_to t zero (p ∷ ps) v (inr h) = inl (inr h)
own-put_to t (suc n) (p ∷ ps) v (inl h) = inl (inl h)
own-put_to t (suc n) (p ∷ ps) v (inr h) = elim (own-put_to t n ps v h) [ inl a ↦ inl (inr a) | inr b ↦ inr b ]

pub own-put_from : (t n : ℕ) (ps : List Place) (v : Value) → Own t (put_in ps n v) → Own t ps ⊎ IsTrue (owning_in (slice_get ps n) && is_thing t (owned_by v))
own-put_from t n [] v h = absurd h
own-put_from t zero (p ∷ ps) v (inl h) = inr h
own-put_from t zero (p ∷ ps) v (inr h) = inl (inr h)
own-put_from t (suc n) (p ∷ ps) v (inl h) = inl (inl h)
own-put_from t (suc n) (p ∷ ps) v (inr h) = elim (own-put_from t n ps v h) [ inl a ↦ inl (inr a) | inr b ↦ inr b ]

-- what a place owns, by what it is and what it holds
pub owns_by : (t : ℕ) (o : Option Place) → owns_in t o ≡ (owning_in o && is_thing t (owned_by (held_in o)))
owns_by t None = refl
owns_by t (Some p) = refl

pub and_left : (a b : Bool) → IsTrue (a && b) → IsTrue a
and_left true b h = refl
and_left false b h = h

pub and_right : (a b : Bool) → IsTrue (a && b) → IsTrue b
and_right true b h = h
and_right false b h = absurd (no h)

pub and_both : (a b : Bool) → IsTrue a → IsTrue b → IsTrue (a && b)
and_both a b h k = subst (λ x. IsTrue (x && b)) (sym h) k

-- Counted

pub own_none : (t : ℕ) (ps : List Place) → count_by (owns t) ps ≡ 0 → Own t ps → ⊥
own_none t [] e h = h
own_none t (p ∷ ps) e (inl h) = (let a = count-cons (owns t) p ps in let b : cond {A = ℕ} (owns t p) 1 0 ≡ 1 = ap (λ (x : Bool). cond {A = ℕ} x 1 0) h in omega arith)
own_none t (p ∷ ps) e (inr h) = own_none t ps (let a = count-cons (owns t) p ps in omega arith) h

own_if : (t : ℕ) (p : Place) (ps : List Place) (b : Bool) → owns t p ≡ b → (0 < count_by (owns t) ps → Own t ps) → 0 < cond {A = ℕ} b 1 0 + count_by (owns t) ps → Own t (p ∷ ps)
own_if t p ps true e h k = inl e
own_if t p ps false e h k = inr (h (omega arith))

pub own_some : (t : ℕ) (ps : List Place) → 0 < count_by (owns t) ps → Own t ps
own_some t [] h = absurd (omega arith)
own_some t (p ∷ ps) h = own_if t p ps (owns t p) refl (own_some t ps) (let a = count-cons (owns t) p ps in omega arith)

pub own_counted : (t : ℕ) (ps : List Place) → Own t ps → 0 < count_by (owns t) ps
own_counted t [] h = absurd h
own_counted t (p ∷ ps) (inl h) = (let a = count-cons (owns t) p ps in let b : cond {A = ℕ} (owns t p) 1 0 ≡ 1 = ap (λ (x : Bool). cond {A = ℕ} x 1 0) h in omega arith)
own_counted t (p ∷ ps) (inr h) = (let a = count-cons (owns t) p ps in let b = own_counted t ps h in omega arith)

-- How many places own the thing

abbrev pub bit : Bool → ℕ
bit b = cond b 1 0

pub bit_and : (a b : Bool) → bit (a && b) ≤ bit b
bit_and true b = le_refl (bit b)
bit_and false b = omega arith

pub bit_none : (a : Bool) → bit (a && false) ≡ 0
bit_none true = refl
bit_none false = refl

pub bit_le : (b : Bool) → bit b ≤ 1
bit_le true = omega arith
bit_le false = omega arith

-- what a place owned is what it held
pub count_held : (t : ℕ) (ps : List Place) (n : ℕ) → bit (owns_in t (slice_get ps n)) ≤ bit (is_thing t (owned_by (held_in (slice_get ps n))))
count_held t ps n =
    let a = ap bit (owns_by t (slice_get ps n)) in
    let b = bit_and (owning_in (slice_get ps n)) (is_thing t (owned_by (held_in (slice_get ps n)))) in
    omega arith

pub count-put : (t : ℕ) (ps : List Place) (n : ℕ) (v : Value) → count_by (owns t) (put_in ps n v) + bit (owns_in t (slice_get ps n)) ≡ count_by (owns t) ps + bit (owning_in (slice_get ps n) && is_thing t (owned_by v))
count-put t [] n v = refl
count-put t (p ∷ ps) zero v = (let a = count-cons (owns t) p ps in let b = count-cons (owns t) (record p { holds = v }) ps in omega arith)
count-put t (p ∷ ps) (suc n) v = (let a = count-cons (owns t) p ps in let b = count-cons (owns t) p (put_in ps n v) in let c = count-put t ps n v in omega arith)

-- From places to others: which things lose an owner, each as often as it stands here. What was given up before or is after it counts as one more.
pub record Loses (most : ℕ) (before after : Option ℕ) (ps qs : List Place) : Type 0 where
  pub losers : List ℕ
  pub few : length losers ≤ most
  pub counts : (t : ℕ) → count_by (owns t) ps + bit (is_thing t before) ≤ count_by (owns t) qs + bit (is_thing t after) + count_by (λ u. t == u) losers

pub loses_none : {most : ℕ} {after : Option ℕ} → (ps qs : List Place) → ((t : ℕ) → count_by (owns t) ps ≤ count_by (owns t) qs + bit (is_thing t after)) → Loses most None after ps qs
loses_none ps qs h = record { losers = []; few = omega arith; counts = λ t. (let a = h t in let z : count_by (λ u. t == u) [] ≡ 0 = refl in omega arith) }

pub loses_same : {most : ℕ} → (ps : List Place) → Loses most None None ps ps
loses_same ps = loses_none ps ps (λ t. omega arith)

-- what was given up is lost
pub loses_over : (over : Option ℕ) (ps : List Place) → Loses 1 over None ps ps
loses_over None ps = loses_same ps
loses_over (Some o) ps = record { losers = o ∷ []; few = omega arith; counts = λ t. (let a = count-cons (λ u. t == u) o [] in let z : count_by (λ u. t == u) [] ≡ 0 = refl in omega arith) }

pub loses_then : (a b : ℕ) (before mid after : Option ℕ) (ps qs rs : List Place) → Loses a before mid ps qs → Loses b mid after qs rs → Loses (a + b) before after ps rs
loses_then a b before mid after ps qs rs h k =
    record {
      losers = h.losers ++ k.losers;
      few = (let x = length-append h.losers k.losers in let y = h.few in let z = k.few in omega arith);
      counts = λ t. (let x = count-append (λ u. t == u) h.losers k.losers in let y = h.counts t in let z = k.counts t in omega arith);
    }

-- Tidiness

abbrev pub IsLive : List ThingState → ℕ → Type 0
IsLive xs t = status_in (at xs t) ≡ Live

-- A live thing is owned, but for one that is given up, and what is owned is live.
pub record Tidy (over : Option ℕ) (xs : List ThingState) (ps : List Place) : Type 0 where
  pub live : (t : ℕ) → IsLive xs t → Own t ps ⊎ IsTrue (is_thing t over)
  pub only : (t : ℕ) → Own t ps → IsLive xs t

-- from places to others: what lives stays owned, but for one that is given up, and what comes to be owned lives
pub record Carries (over : Option ℕ) (xs : List ThingState) (ps qs : List Place) : Type 0 where
  pub to : (t : ℕ) → IsLive xs t → Own t ps → Own t qs ⊎ IsTrue (is_thing t over)
  pub from : (t : ℕ) → Own t qs → Own t ps ⊎ IsLive xs t
  pub counts : ((t : ℕ) → Own t ps → IsLive xs t) → (t : ℕ) → count_by (owns t) ps ≤ count_by (owns t) qs + bit (is_thing t over)

pub carries_same : {over : Option ℕ} → (xs : List ThingState) (ps : List Place) → Carries over xs ps ps
carries_same {over} xs ps = record { to = λ t l h. inl h; from = λ t h. inl h; counts = λ h t. omega arith }

pub tidy_carried : (over : Option ℕ) (xs : List ThingState) (ps qs : List Place) → Carries over xs ps qs → Tidy None xs ps → Tidy over xs qs
tidy_carried over xs ps qs c h =
    record {
      live = λ t l. elim (h.live t l) [ inl a ↦ c.to t l a | inr b ↦ absurd (no b) ];
      only = λ t o. elim (c.from t o) [ inl a ↦ h.only t a | inr b ↦ b ];
    }

-- what these places own is live
pub record Takes (xs : List ThingState) (ps : List Place) : Type 0 where
  pub by : (t : ℕ) → Own t ps → IsLive xs t

pub takes_nil : (xs : List ThingState) → Takes xs []
takes_nil xs = record { by = λ t h. absurd h }

-- a place owns nothing, or what lives
pub record Fills (xs : List ThingState) (p : Place) : Type 0 where
  pub by : (t : ℕ) → IsTrue (owns t p) → IsLive xs t

pub takes_item : (xs : List ThingState) (p : Place) (ps : List Place) → Fills xs p → Takes xs ps → Takes xs (p ∷ ps)
takes_item xs p ps f h = record { by = λ t o. elim o [ inl a ↦ f.by t a | inr b ↦ h.by t b ] }

pub takes_append : (xs : List ThingState) (ps qs : List Place) → Takes xs ps → Takes xs qs → Takes xs (ps ++ qs)
takes_append xs ps qs h k = record { by = λ t o. elim (own-split t ps qs o) [ inl a ↦ h.by t a | inr b ↦ k.by t b ] }

pub fills_none : (xs : List ThingState) (p : Place) → ((t : ℕ) → owns t p ≡ false) → Fills xs p
fills_none xs p h = record { by = λ t e. absurd (no (sym (sym e ∙ h t) ∙ refl)) }

pub carries_more : (over : Option ℕ) (xs : List ThingState) (ps qs rs : List Place) → Carries over xs ps qs → Takes xs rs → Carries over xs ps (qs ++ rs)
carries_more over xs ps qs rs c h =
    record {
      to = λ t l o. elim (c.to t l o) [ inl a ↦ inl (own-left t qs rs a) | inr b ↦ inr b ];
      from = λ t o. elim (own-split t qs rs o) [ inl a ↦ c.from t a | inr b ↦ inr (h.by t b) ];
      counts = λ l t. (let a = c.counts l t in let b = count-append (owns t) qs rs in omega arith);
    }

-- a place that does not own
count_not : (t : ℕ) (ps : List Place) (n : ℕ) → owning_in (slice_get ps n) ≡ false → bit (owns_in t (slice_get ps n)) ≡ 0
count_not t ps n e = ap bit (owns_by t (slice_get ps n)) ∙ ap (λ x. bit (x && is_thing t (owned_by (held_in (slice_get ps n))))) e

pub carries_put : (xs : List ThingState) (ps : List Place) (n : ℕ) (v : Value) → owning_in (slice_get ps n) ≡ false → Carries None xs ps (put_in ps n v)
carries_put xs ps n v e =
    record {
      to = λ t l o. elim (own-put_to t n ps v o) [ inl a ↦ inl a | inr b ↦ absurd (no (sym (sym (subst IsTrue (owns_by t (slice_get ps n)) b) ∙ ap (λ x. x && is_thing t (owned_by (held_in (slice_get ps n)))) e))) ];
      from = λ t o. elim (own-put_from t n ps v o) [ inl a ↦ inl a | inr b ↦ absurd (no (sym (sym b ∙ ap (λ x. x && is_thing t (owned_by v)) e))) ];
      counts = λ l t. (let a = count-put t ps n v in let b = count_not t ps n e in omega arith);
    }

-- One more thing

status-more_old : (xs : List ThingState) (x : ThingState) (t : ℕ) → IsLive xs t → IsLive (xs ++ x ∷ []) t
status-more_old xs x zero e = e
status-more_old [] x (suc t) e = absurd (let bad : Gone ≡ Live = e in cc)
status-more_old (y ∷ xs) x (suc zero) e = e
status-more_old (y ∷ xs) x (suc (suc t)) e = status-more_old xs x (suc t) e

status-more_new : (xs : List ThingState) (x : ThingState) → x.status ≡ Live → IsLive (xs ++ x ∷ []) (suc (length xs))
status-more_new [] x e = e
status-more_new (y ∷ xs) x e = status-more_new xs x e

status-more : (xs : List ThingState) (x : ThingState) (t : ℕ) → IsLive (xs ++ x ∷ []) t → IsLive xs t ⊎ (t ≡ suc (length xs))
status-more xs x zero e = inl e
status-more [] x (suc zero) e = inr refl
status-more [] x (suc (suc t)) e = absurd (let bad : Gone ≡ Live = e in cc)
status-more (y ∷ xs) x (suc zero) e = inl e
status-more (y ∷ xs) x (suc (suc t)) e = elim (status-more xs x (suc t) e) [ inl a ↦ inl a | inr b ↦ inr (ap suc b) ]

-- the same where one more thing is made, which comes to be owned
pub record Gains (over : Option ℕ) (xs : List ThingState) (ps qs : List Place) : Type 0 where
  pub to : (t : ℕ) → IsLive xs t → Own t ps → Own t qs ⊎ IsTrue (is_thing t over)
  pub new : Own (suc (length xs)) qs
  pub from : (t : ℕ) → Own t qs → Own t ps ⊎ (IsLive xs t ⊎ (t ≡ suc (length xs)))
  pub counts : ((t : ℕ) → Own t ps → IsLive xs t) → (t : ℕ) → count_by (owns t) ps ≤ count_by (owns t) qs + bit (is_thing t over)

pub tidy_gained : (over : Option ℕ) (xs ys : List ThingState) (x : ThingState) (ps qs : List Place) → ys ≡ xs ++ x ∷ [] → x.status ≡ Live → Gains over xs ps qs → Tidy None xs ps → Tidy over ys qs
tidy_gained over xs ys x ps qs e l g h =
    subst (λ zs. Tidy over zs qs) (sym e) (record {
      live = λ t a.
          elim (status-more xs x t a) [
            | inl b ↦ elim (h.live t b) [ inl c ↦ g.to t b c | inr d ↦ absurd (no d) ]
            | inr b ↦ inl (subst (λ n. Own n qs) (sym b) g.new)
          ];
      only = λ t o.
          elim (g.from t o) [
            | inl a ↦ status-more_old xs x t (h.only t a)
            | inr b ↦ elim b [ inl c ↦ status-more_old xs x t c | inr d ↦ subst (λ n. IsLive (xs ++ x ∷ []) n) (sym d) (status-more_new xs x l) ]
          ];
    })

-- the place that holds it stands behind the others
pub gains_last : (over : Option ℕ) (xs : List ThingState) (ps qs : List Place) (within : Option ℕ) → Carries over xs ps qs → Gains over xs ps (qs ++ record { owning = true; holds = Thing (suc (length xs)); within = within } ∷ [])
gains_last over xs ps qs within c =
    let p : Place = record { owning = true; holds = Thing (suc (length xs)); within = within } in
    record {
      to = λ t l o. elim (c.to t l o) [ inl a ↦ inl (own-left t qs (p ∷ []) a) | inr b ↦ inr b ];
      new = own-right (suc (length xs)) qs (p ∷ []) (inl (eq-eqb (suc (length xs)) (suc (length xs)) refl));
      from = λ t o.
          elim (own-split t qs (p ∷ []) o) [
            | inl a ↦ elim (c.from t a) [ inl b ↦ inl b | inr d ↦ inr (inl d) ]
            | inr b ↦ elim b [ inl d ↦ inr (inr (eqb-true t (suc (length xs)) d)) | inr z ↦ absurd z ]
          ];
      counts = λ l t. (let a = c.counts l t in let b = count-append (owns t) qs (p ∷ []) in omega arith);
    }

pub gains_more : (over : Option ℕ) (xs : List ThingState) (ps qs rs : List Place) → Gains over xs ps qs → Takes xs rs → Gains over xs ps (qs ++ rs)
gains_more over xs ps qs rs g h =
    record {
      to = λ t l o. elim (g.to t l o) [ inl a ↦ inl (own-left t qs rs a) | inr b ↦ inr b ];
      new = own-left (suc (length xs)) qs rs g.new;
      from = λ t o. elim (own-split t qs rs o) [ inl a ↦ g.from t a | inr b ↦ inr (inl (h.by t b)) ];
      counts = λ l t. (let a = g.counts l t in let b = count-append (owns t) qs rs in omega arith);
    }

-- an owning place is filled with the thing that is made, and what it held is given up
pub gains_put : (xs : List ThingState) (ps qs : List Place) (n : ℕ) → Carries None xs ps qs → owning_in (slice_get qs n) ≡ true → Gains (owned_by (held_in (slice_get qs n))) xs ps (put_in qs n (Thing (suc (length xs))))
gains_put xs ps qs n c e =
    let v : Value = Thing (suc (length xs)) in
    record {
      to = λ t l o.
          elim (c.to t l o) [
            | inl a ↦ elim (own-put_to t n qs v a) [ inl b ↦ inl b | inr b ↦ inr (and_right (owning_in (slice_get qs n)) (is_thing t (owned_by (held_in (slice_get qs n)))) (subst IsTrue (owns_by t (slice_get qs n)) b)) ]
            | inr b ↦ absurd (no b)
          ];
      new = own-put_new (suc (length xs)) n qs v (and_both (owning_in (slice_get qs n)) (suc (length xs) == suc (length xs)) e (eq-eqb (suc (length xs)) (suc (length xs)) refl));
      from = λ t o.
          elim (own-put_from t n qs v o) [
            | inl a ↦ elim (c.from t a) [ inl b ↦ inl b | inr d ↦ inr (inl d) ]
            | inr b ↦ inr (inr (eqb-true t (suc (length xs)) (and_right (owning_in (slice_get qs n)) (t == suc (length xs)) b)))
          ];
      counts = λ l t. (let a = c.counts l t in let b = count-put t qs n v in let d = count_held t qs n in omega arith);
    }

-- A place is filled with what lives, and what it held is given up.
pub carries_fill : (xs : List ThingState) (ps : List Place) (n : ℕ) (v : Value) → ((t : ℕ) → IsTrue (is_thing t (owned_by v)) → IsLive xs t) → Carries (owned_by (held_in (slice_get ps n))) xs ps (put_in ps n v)
carries_fill xs ps n v f =
    record {
      to = λ t l o. elim (own-put_to t n ps v o) [ inl b ↦ inl b | inr b ↦ inr (and_right (owning_in (slice_get ps n)) (is_thing t (owned_by (held_in (slice_get ps n)))) (subst IsTrue (owns_by t (slice_get ps n)) b)) ];
      from = λ t o. elim (own-put_from t n ps v o) [ inl a ↦ inl a | inr b ↦ inr (f t (and_right (owning_in (slice_get ps n)) (is_thing t (owned_by v)) b)) ];
      counts = λ l t. (let a = count-put t ps n v in let b = count_held t ps n in omega arith);
    }

-- What can be owned lives

live_now : (st : Status) → not (is_live_now st) ≡ false → st ≡ Live
live_now Live e = refl
live_now Ending e = absurd (no (sym e))
live_now Gone e = absurd (no (sym e))

past_by : (s : State.State) (t : ℕ) (o : Option ℕ) → is_past s o ≡ false → IsTrue (is_thing t o) → IsLive s.things t
past_by s t None e h = absurd (no h)
past_by s t (Some u) e h = subst (λ n. IsLive s.things n) (sym (eqb-true t u h)) (live_now (status_in (at s.things u)) e)

pub tested_lives : (s : State.State) (v : Value) → cannot_be_owned s v ≡ false → (t : ℕ) → IsTrue (is_thing t (owned_by v)) → IsLive s.things t
tested_lives s v e t h = past_by s t (owned_by v) e h

ownable_if : (s : State.State) (v : Value) (t : ℕ) (b : Bool) → cannot_be_owned s v ≡ b → IsTrue (is_thing t (owned_by (cond b Null v))) → IsLive s.things t
ownable_if s v t true e h = absurd (no h)
ownable_if s v t false e h = tested_lives s v e t h

pub ownable_lives : (s : State.State) (v : Value) (t : ℕ) → IsTrue (is_thing t (owned_by (ownable s v))) → IsLive s.things t
ownable_lives s v t h = ownable_if s v t (cannot_be_owned s v) refl h

pub fills_tested : (s : State.State) (v : Value) (within : Option ℕ) → cannot_be_owned s v ≡ false → Fills s.things (record { owning = true; holds = v; within = within })
fills_tested s v within e = record { by = λ t h. tested_lives s v e t h }

pub fills_ownable : (s : State.State) (v : Value) (within : Option ℕ) → Fills s.things (record { owning = true; holds = ownable s v; within = within })
fills_ownable s v within = record { by = λ t h. ownable_lives s v t h }

-- where what lives is handed on, it is kept
past_not : (s : State.State) (t : ℕ) (o : Option ℕ) → IsLive s.things t → IsTrue (is_thing t o) → is_past s o ≡ false
past_not s t None l h = absurd (no h)
past_not s t (Some u) l h = ap (λ st. not (is_live_now st)) (sym (ap (λ n. status_in (at s.things n)) (eqb-true t u h)) ∙ l)

pub ownable_kept : (s : State.State) (v : Value) (t : ℕ) → IsLive s.things t → IsTrue (is_thing t (owned_by v)) → IsTrue (is_thing t (owned_by (ownable s v)))
ownable_kept s v t l h = subst (λ (b : Bool). IsTrue (is_thing t (owned_by (cond b Null v)))) (sym (past_not s t (owned_by v) l h)) h

pub carries_trans : (xs : List ThingState) (ps qs rs : List Place) → Carries None xs ps qs → Carries None xs qs rs → Carries None xs ps rs
carries_trans xs ps qs rs c d =
    record {
      to = λ t l o. elim (c.to t l o) [ inl a ↦ d.to t l a | inr b ↦ inr b ];
      from = λ t o. elim (d.from t o) [ inl a ↦ c.from t a | inr b ↦ inr b ];
      counts = λ l t. (let a = c.counts l t in let b = d.counts (λ u o. elim (c.from u o) [ inl x ↦ l u x | inr y ↦ y ]) t in omega arith);
    }

own_not_if : (t : ℕ) (p : Place) (ps : List Place) (b : Bool) → owns t p ≡ b → (IsTrue (owns t p) → ⊥) → count_by (owns t) ps ≡ 0 → cond {A = ℕ} b 1 0 + count_by (owns t) ps ≡ 0
own_not_if t p ps true e n z = absurd (n e)
own_not_if t p ps false e n z = omega arith

pub own_not : (t : ℕ) (ps : List Place) → (Own t ps → ⊥) → count_by (owns t) ps ≡ 0
own_not t [] n = refl
own_not t (p ∷ ps) n = count-cons (owns t) p ps ∙ own_not_if t p ps (owns t p) refl (λ h. n (inl h)) (own_not t ps (λ h. n (inr h)))
