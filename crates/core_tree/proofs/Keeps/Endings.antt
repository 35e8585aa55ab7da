-- What the end of ownership keeps: a thing begins to end once, where it is live, and goes where it was ending.
use Rattle.std.proofs.Common.{true, false, ◌≡◌, ℕ, zero, suc, ◌≤◌, ◌<◌, Bool, cond, List, [], ◌∷◌, ◌++◌, length, count_by, refl, sym, ap, ◌∙◌, subst, arith, Option, Some, None, inl, inr, append-nil, true≢false}
use Rattle.std.specs.Prelude.{IsTrue, ◌==◌}
use Rattle.std.proofs.lemmas.Bool.{cases_eq, ne_eqb, eq-eqb, eqb-true, eqb-false}
use Rattle.vg_base.specs.declared.event.Event.TheVariants.{Gone as Went}
use Rattle.vg_base.specs.Headline.{Said}
use Rattle.core_tree.specs.State
use Rattle.core_tree.specs.State.{Value, Null, Thing, Content, Place, Status, Live, Ending, Gone, Stage, ThingState, Handler, Item, End}
use Rattle.core_tree.specs.Owners.{kind_of, ends, owns, is_thing, owned_by, is_unowned, thing_at}
use Rattle.core_tree.specs.Places.{fill, with_thing, next_serial, made, is_owning_place, status_in, quiet, next, put, held, release, release_thing, begin_ending, begin_ending_of, give_up, is_live_now, first_stage, with_status, without_target}
use Rattle.core_tree.specs.Objects.{went}
use Rattle.core_tree.specs.Runs.{is_going, progress, gone_now, ending_now, by_status}
use Rattle.core_tree.proofs.Counts.{count-cons, at, kinds-with_status, by-with_same, by-with_other, past-with_status, further-with_status, ids_left, ids_same}
use Rattle.core_tree.proofs.Owned.{loses_same, loses_over, Takes, gains_put, carries_more, Own, own_none, own_some, IsLive, Tidy, Carries, carries_same, carries_fill}
use Rattle.core_tree.proofs.Kept.{keeps_made, more, Passes, Keeps, Calm, calm_same, keeps_calm, keeps_then, ids_of, source_ids_of, parts, keeps_still}
use Rattle.core_tree.proofs.Keeps.Ids.{left-without_target}
use Rattle.core_tree.proofs.Moved.{owning-more}

pub status-of : (number : Status → ℕ) (o : Option ThingState) (x : ThingState) (st : Status) → o ≡ Some x → x.status ≡ st → by_status number o ≡ number st
status-of number o x st e q = ap (by_status number) e ∙ ap number q

-- nothing is given up any more
tidy_other : (o : ℕ) (xs : List ThingState) (ps : List Place) → (IsLive xs o → ⊥) → Tidy (Some o) xs ps → Tidy None xs ps
tidy_other o xs ps n h =
    record {
      live = λ v l. elim (h.live v l) [ inl a ↦ inl a | inr b ↦ absurd (n (subst (λ k. IsLive xs k) (eqb-true v o b) l)) ];
      only = h.only;
    }

tidy_owned : (o : ℕ) (xs : List ThingState) (ps : List Place) → Own o ps → Tidy (Some o) xs ps → Tidy None xs ps
tidy_owned o xs ps n h =
    record {
      live = λ v l. elim (h.live v l) [ inl a ↦ inl a | inr b ↦ inl (subst (λ k. Own k ps) (sym (eqb-true v o b)) n) ];
      only = h.only;
    }

status-with_same : (xs : List ThingState) (t : ℕ) (st : Status) (x : ThingState) → at xs t ≡ Some x → status_in (at (with_status xs t st) t) ≡ st
status-with_same xs zero st x e = absurd (let bad : None ≡ Some x = e in cc)
status-with_same [] (suc t) st x e = absurd (let bad : None ≡ Some x = e in cc)
status-with_same (y ∷ xs) (suc zero) st x e = refl
status-with_same (y ∷ xs) (suc (suc t)) st x e = status-with_same xs (suc t) st x e

status-with_other : (xs : List ThingState) (t u : ℕ) (st : Status) → (u ≡ t → ⊥) → status_in (at (with_status xs t st) u) ≡ status_in (at xs u)
status-with_other [] t u st n = refl
status-with_other (y ∷ xs) zero u st n = refl
status-with_other (y ∷ xs) (suc zero) zero st n = refl
status-with_other (y ∷ xs) (suc zero) (suc zero) st n = absurd (n refl)
status-with_other (y ∷ xs) (suc zero) (suc (suc u)) st n = refl
status-with_other (y ∷ xs) (suc (suc t)) zero st n = refl
status-with_other (y ∷ xs) (suc (suc t)) (suc zero) st n = refl
status-with_other (y ∷ xs) (suc (suc t)) (suc (suc u)) st n = status-with_other xs (suc t) (suc u) st (λ e. n (ap suc e))

-- a thing that no place owns is not live any more
tidy_with : (over : Option ℕ) (xs : List ThingState) (ps : List Place) (t : ℕ) (st : Status) (x : ThingState) → at xs t ≡ Some x → (st ≡ Live → ⊥) → (Own t ps → ⊥) → ((v : ℕ) → IsTrue (is_thing v over) → v ≡ t) → Tidy over xs ps → Tidy None (with_status xs t st) ps
tidy_with over xs ps t st x e dead none is h =
    record {
      live = λ v l.
          elim (cases_eq v t) [
            | inl same ↦ absurd (dead (sym (status-with_same xs t st x e) ∙ ap (λ k. status_in (at (with_status xs t st) k)) (sym same) ∙ l))
            | inr other ↦ elim (h.live v (sym (status-with_other xs t v st other) ∙ l)) [ inl a ↦ inl a | inr b ↦ absurd (other (is v b)) ]
          ];
      only = λ v o.
          elim (cases_eq v t) [
            | inl same ↦ absurd (none (subst (λ k. Own k ps) same o))
            | inr other ↦ status-with_other xs t v st other ∙ h.only v o
          ];
    }

-- the state stays
settled : (over : Option ℕ) (s : State.State) → (Tidy over s.things s.places → Tidy None s.things s.places) → Passes 1 over None [] s (quiet s)
settled over s f =
    let k = keeps_still {begun = 1} s s refl (carries_same {over = None} s.things s.places) (calm_same s.work) in
    record {
      made = k.made;
      further = k.further;
      gone = k.gone;
      order = k.order;
      endings = k.endings;
      begins = k.begins;
      stages = k.stages;
      handlers = k.handlers;
      sources = k.sources;
      dispatched = k.dispatched;
      tidy = f;
      lost = λ g. loses_over over s.places;
    }

module _ (s : State.State) (t : ℕ) (x : ThingState) (e : at s.things t ≡ Some x) where
  begun : x.status ≡ Live → (Own t s.places → ⊥) → Passes 1 (Some t) None [] s (quiet (next (End t (first_stage s x x.content) ∷ []) (record s { things = with_status s.things t Ending; handlers = without_target s t s.handlers })))
  begun q none =
      let now = λ (number : Status → ℕ). by-with_same number s.things t Ending x e in
      let was = λ (number : Status → ℕ). status-of number (at s.things t) x Live e q in
      record {
        made = kinds-with_status s.things t Ending ∙ sym (append-nil (Rattle.core_tree.specs.Runs.kinds s.things));
        further = further-with_status s.things t Ending x e (let a = ap progress q in omega arith);
        gone = λ v.
            elim (cases_eq v t) [
              | inl same ↦ (let a = now gone_now in let b = was gone_now in let c = ap (λ n. by_status gone_now (at (with_status s.things t Ending) n)) same in let d = ap (λ n. by_status gone_now (at s.things n)) same in let z : count_by (is_going v) [] ≡ 0 = refl in omega arith)
              | inr other ↦ (let a = by-with_other gone_now s.things t v Ending other in let z : count_by (is_going v) [] ≡ 0 = refl in omega arith)
            ];
        order = tt;
        endings = λ v.
            let one = count-cons (ends v) (End t (first_stage s x x.content)) s.work in
            elim (cases_eq v t) [
              | inl same ↦ (let a = now ending_now in let b = was ending_now in let c = ap (λ n. by_status ending_now (at (with_status s.things t Ending) n)) same in let d = ap (λ n. by_status ending_now (at s.things n)) same in let y : cond {A = ℕ} (v == t) 1 0 ≡ 1 = ap (λ (k : Bool). cond {A = ℕ} k 1 0) (eq-eqb v t same) in omega arith)
              | inr other ↦ (let a = by-with_other ending_now s.things t v Ending other in let y : cond {A = ℕ} (v == t) 1 0 ≡ 0 = ap (λ (k : Bool). cond {A = ℕ} k 1 0) (ne_eqb v t other) in omega arith)
            ];
        begins = past-with_status s.things t Ending;
        stages = λ v.
            elim (cases_eq v t) [
              | inl same ↦ (let a = now progress in let c = ap (λ n. by_status progress (at (with_status s.things t Ending) n)) same in omega arith)
              | inr other ↦ (let a = by-with_other progress s.things t v Ending other in omega arith)
            ];
        handlers = ids_left s.last_handler (ids_of s.handlers) (ids_of (without_target s t s.handlers)) (left-without_target s t s.handlers);
        sources = ids_same s.last_source (source_ids_of s.sources);
        dispatched = refl;
        tidy = tidy_with (Some t) s.things s.places t Ending x e (λ bad. (let z : Ending ≡ Live = bad in cc)) none (λ v b. eqb-true v t b);
        lost = λ g. loses_over (Some t) s.places;
      }

  -- it is not live, so that it is not given up
  same : (x.status ≡ Live → ⊥) → Passes 1 (Some t) None [] s (quiet s)
  same n = settled (Some t) s (tidy_other t s.things s.places (λ l. n (sym (ap status_in e) ∙ l)))

  begun_if : (st : Status) → x.status ≡ st → (Own t s.places → ⊥) → Passes 1 (Some t) None [] s (quiet (begin_ending_of s t (Some x)))
  begun_if Live q none = subst (λ (b : Bool). Passes 1 (Some t) None [] s (quiet (cond b (next (End t (first_stage s x x.content) ∷ []) (record s { things = with_status s.things t Ending; handlers = without_target s t s.handlers })) s))) (sym (ap is_live_now q)) (begun q none)
  begun_if Ending q none = subst (λ (b : Bool). Passes 1 (Some t) None [] s (quiet (cond b (next (End t (first_stage s x x.content) ∷ []) (record s { things = with_status s.things t Ending; handlers = without_target s t s.handlers })) s))) (sym (ap is_live_now q)) (same (λ l. (let z : Ending ≡ Live = sym q ∙ l in cc)))
  begun_if Gone q none = subst (λ (b : Bool). Passes 1 (Some t) None [] s (quiet (cond b (next (End t (first_stage s x x.content) ∷ []) (record s { things = with_status s.things t Ending; handlers = without_target s t s.handlers })) s))) (sym (ap is_live_now q)) (same (λ l. (let z : Gone ≡ Live = sym q ∙ l in cc)))

passes-begin : (s : State.State) (t : ℕ) (o : Option ThingState) → at s.things t ≡ o → (Own t s.places → ⊥) → Passes 1 (Some t) None [] s (quiet (begin_ending_of s t o))
passes-begin s t None e none = settled (Some t) s (tidy_other t s.things s.places (λ l. (let z : Gone ≡ Live = sym (ap status_in e) ∙ l in cc)))
passes-begin s t (Some x) e none = begun_if s t x e x.status refl none

passes-if : (s : State.State) (t : ℕ) (b : Bool) → is_unowned s t ≡ b → Passes 1 (Some t) None [] s (quiet (cond b (begin_ending s t) s))
passes-if s t true e = passes-begin s t (thing_at s t) refl (own_none t s.places (eqb-true (count_by (owns t) s.places) 0 e))
passes-if s t false e = settled (Some t) s (tidy_owned t s.things s.places (own_some t s.places (let n = eqb-false (count_by (owns t) s.places) 0 e in omega arith)))

-- what is given up begins to end where nothing owns it
passes-release_thing : (s : State.State) (o : Option ℕ) → Passes 1 o None [] s (quiet (release_thing s o))
passes-release_thing s None = settled None s (λ h. h)
passes-release_thing s (Some t) = passes-if s t (is_unowned s t) refl

-- what an owning place held is released
pub keeps-release : (s u : State.State) (v : Value) (es : List Said) → Passes 0 None (owned_by v) [] s (u, es) → Keeps 1 [] s (release u v, es ++ [])
keeps-release s u v es h = keeps_then 0 1 None (owned_by v) None [] [] s u es (quiet (release u v)) h (passes-release_thing u (owned_by v))

-- the same where nothing but places and work changes
pub keeps-release_still : (s u : State.State) (v : Value) → parts u.things u.parked u.handlers u.last_handler u.sources u.last_source ≡ parts s.things s.parked s.handlers s.last_handler s.sources s.last_source → Carries (owned_by v) s.things s.places u.places → Calm s.work u.work → Keeps 1 [] s (quiet (release u v))
keeps-release_still s u v e p c = keeps-release s u v [] (keeps_calm s.things s.places s.work s.parked s.handlers s.last_handler s.sources s.last_source u e p c)

-- a place is given up
pub keeps-give_up : (s u : State.State) (n : ℕ) → Keeps 0 [] s (quiet u) → Keeps 1 [] s (quiet (give_up u n))
keeps-give_up s u n h =
    keeps_then 0 1 None None None [] [] s u [] (quiet (give_up u n)) h (keeps-release_still u (put u n Null) (held u n) refl (carries_fill u.things u.places n Null (λ t z. absurd (true≢false (sym z)))) (calm_same u.work))

pub keeps-give_up_still : (s u : State.State) (n : ℕ) → parts u.things u.parked u.handlers u.last_handler u.sources u.last_source ≡ parts s.things s.parked s.handlers s.last_handler s.sources s.last_source → Carries None s.things s.places u.places → Calm s.work u.work → Keeps 1 [] s (quiet (give_up u n))
keeps-give_up_still s u n e p c = keeps-give_up s u n (keeps_still s u e p c)

-- Going

-- the thing is ending
pub ending_there : (o : Option ThingState) → by_status ending_now o ≡ 1 → (x : ThingState) × (o ≡ Some x) × (x.status ≡ Ending)
ending_there None e = absurd (omega arith)
ending_there (Some x) e = (x, refl, by x.status e)
  where
    by : (st : Status) → ending_now st ≡ 1 → st ≡ Ending
    by Live q = absurd (omega arith)
    by Ending q = refl
    by Gone q = absurd (omega arith)

within : (xs : List ThingState) (t : ℕ) (x : ThingState) → at xs t ≡ Some x → (0 < t) × (t ≤ length xs)
within xs zero x e = absurd (let bad : None ≡ Some x = e in cc)
within [] (suc t) x e = absurd (let bad : None ≡ Some x = e in cc)
within (y ∷ xs) (suc zero) x e = (omega arith, omega arith)
within (y ∷ xs) (suc (suc t)) x e = let a = (within xs (suc t) x e).1 in (omega arith, omega arith)

-- a thing goes, whose ending was next
pub keeps-went : (s : State.State) (t : ℕ) (stage : Stage) → by_status ending_now (at s.things t) ≡ 1 → Keeps 1 [] (record s { work = End t stage ∷ s.work }) (went s t)
keeps-went s t stage h =
    let found = ending_there (at s.things t) h in
    let x = found.0 in
    let e = found.1 in
    let now = λ (number : Status → ℕ). by-with_same number s.things t Gone x e in
    let was = λ (number : Status → ℕ). status-of number (at s.things t) x Ending e found.2 in
    record {
      made = kinds-with_status s.things t Gone ∙ sym (append-nil (Rattle.core_tree.specs.Runs.kinds s.things));
      further = further-with_status s.things t Gone x e (let a = ap progress found.2 in omega arith);
      gone = λ v.
          let one = count-cons (is_going v) (Went t) [] in
          let z : count_by (is_going v) [] ≡ 0 = refl in
          elim (cases_eq v t) [
            | inl same ↦ (let a = now gone_now in let b = was gone_now in let c = ap (λ n. by_status gone_now (at (with_status s.things t Gone) n)) same in let d = ap (λ n. by_status gone_now (at s.things n)) same in let y : cond {A = ℕ} (v == t) 1 0 ≡ 1 = ap (λ (k : Bool). cond {A = ℕ} k 1 0) (eq-eqb v t same) in omega arith)
            | inr other ↦ (let a = by-with_other gone_now s.things t v Gone other in let y : cond {A = ℕ} (v == t) 1 0 ≡ 0 = ap (λ (k : Bool). cond {A = ℕ} k 1 0) (ne_eqb v t other) in omega arith)
          ];
      order = (within s.things t x e, tt);
      endings = λ v.
          let one = count-cons (ends v) (End t stage) s.work in
          elim (cases_eq v t) [
            | inl same ↦ (let a = now ending_now in let b = was ending_now in let c = ap (λ n. by_status ending_now (at (with_status s.things t Gone) n)) same in let d = ap (λ n. by_status ending_now (at s.things n)) same in let y : cond {A = ℕ} (v == t) 1 0 ≡ 1 = ap (λ (k : Bool). cond {A = ℕ} k 1 0) (eq-eqb v t same) in omega arith)
            | inr other ↦ (let a = by-with_other ending_now s.things t v Gone other in let y : cond {A = ℕ} (v == t) 1 0 ≡ 0 = ap (λ (k : Bool). cond {A = ℕ} k 1 0) (ne_eqb v t other) in omega arith)
          ];
      begins = past-with_status s.things t Gone;
      stages = λ v.
          elim (cases_eq v t) [
            | inl same ↦ (let a = now progress in let b = was progress in let c = ap (λ n. by_status progress (at (with_status s.things t Gone) n)) same in let d = ap (λ n. by_status progress (at s.things n)) same in omega arith)
            | inr other ↦ (let a = by-with_other progress s.things t v Gone other in omega arith)
          ];
      handlers = ids_same s.last_handler (ids_of s.handlers);
      sources = ids_same s.last_source (source_ids_of s.sources);
      dispatched = refl;
      tidy = λ g. tidy_with None s.things s.places t Gone x e (λ bad. (let z : Gone ≡ Live = bad in cc)) (λ o. (let z : Ending ≡ Live = sym found.2 ∙ sym (ap status_in e) ∙ g.only t o in cc)) (λ v b. absurd (true≢false (sym b))) g;
      lost = λ g. loses_same s.places;
    }

-- a thing is made in a place that owns, and what the place held is given up
pub keeps-filled : (s : State.State) (content : Content) (ps : List Place) (n : ℕ) → is_owning_place s n ≡ true → Takes s.things ps → Keeps 1 [] s (fill (with_thing s content ps) n (Thing (next_serial s)), made content)
keeps-filled s content ps n e h =
    let t : State.State = with_thing s content ps in
    keeps-release s (put t n (Thing (next_serial s))) (held t n) (made content) (
    keeps_made s.things s.places s.work s.parked s.handlers s.last_handler s.sources s.last_source (put t n (Thing (next_serial s))) (kind_of content) refl (more s.things content (length s.places) (length ps))
    (gains_put s.things s.places (s.places ++ ps) n (carries_more None s.things s.places s.places ps (carries_same s.things s.places) h) (owning-more s.places ps n e)) (calm_same s.work)
    )
