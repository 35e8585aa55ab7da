-- The laws on all runs: a run from the opening keeps what each of its steps keeps.
use Rattle.std.proofs.Common.{Option, ◌≡◌, ℕ, zero, suc, ◌+◌, ◌-◌, ◌≤◌, ◌<◌, List, [], ◌∷◌, ◌++◌, length, count_by, All, Contains, refl, sym, ap, ◌∙◌, subst, arith, Some, None, true, true≢false, inl, inr}
use Rattle.std.specs.Prelude.{slice_index_or}
use Rattle.vg_base.specs.Headline.{Said, events}
use Rattle.vg_base.specs.Machine.{move, moves, said}
use Rattle.vg_base.specs.World.{World}
use Rattle.vg_base.proofs.MachineLaws.{moves_add}
use Rattle.core_tree.specs.declared.program.Core.{Core}
use Rattle.core_tree.specs.State
use Rattle.core_tree.specs.State.{Status, ThingState, Item, Start, EndMain}
use Rattle.core_tree.specs.Places.{Out, firsts}
use Rattle.core_tree.specs.Step.{meaning, opening, initial_items, static_types}
use Rattle.core_tree.specs.Runs
use Rattle.core_tree.specs.Runs.{progress, state_after, makings, gone_now, ending_now, by_status, is_going, past, dispatches, GivesOnce, handler_ids, source_ids}
use Rattle.core_tree.proofs.Counts.{at, count-cons, further_at, Ordered, ordered-at, In, in-contains, contains-in}
use Rattle.core_tree.specs.Places.{status_in, empty_places, put}
use Rattle.core_tree.specs.Step.{arguments_place}
use Rattle.core_tree.specs.Tidy.{owning_places, endings, is_tidy_thing, are_tidy}
use Rattle.core_tree.specs.State.{Null, Live, Ending, Gone, Place}
use Rattle.core_tree.proofs.Owned.{bit, bit_le, owns_in, own-found, Loses, Tidy, Takes, takes_item, carries_same, own_counted, own_some, own_not, and_both}
use Rattle.core_tree.proofs.Moved.{fills_nothing, takes_empty_places, count-put_null}
use Rattle.std.specs.Prelude.{IsTrue, nat_le, ◌==◌, slice_get}
use Rattle.std.proofs.lemmas.Bool.{cases_eq, eq-eqb, ne_eqb, le-leb}
use Rattle.core_tree.proofs.Kept.{Keeps, keeps_calm, keeps_then, calm_same, plain_item, plain_append, plain_nil, ids_of, source_ids_of}
use Rattle.core_tree.proofs.Keeps.Step.{does_move, EndingsStand, plain-initial_items}

no_thing : (t : ℕ) → status_in (at [] t) ≡ Gone
no_thing zero = refl
no_thing (suc t) = refl

none : (number : Status → ℕ) (t : ℕ) → by_status number (at [] t) ≡ 0
none number zero = refl
none number (suc t) = refl

-- which are dispatched is told by what is said
told : (b : ℕ) (ds : List ℕ) (s : State.State) (o : Out) → Keeps b ds s o → Keeps b (dispatches (events o.1)) s o
told b ds s o k = subst (λ xs. Keeps b xs s o) (sym k.dispatched) k

stand_after : (b : ℕ) (ds : List ℕ) (s : State.State) (o : Out) → Keeps b ds s o → EndingsStand s → EndingsStand o.0
stand_after b ds s o k h t = (let a = k.endings t in let c = h t in omega arith)

-- after so many steps
pub record Ran (core : Core) (n : ℕ) (s : State.State) : Type 0 where
  pub ids : List ℕ
  pub keeps : Keeps n ids s (moves (meaning core).machine n s, said (meaning core).machine n s)
  pub stand : EndingsStand (moves (meaning core).machine n s)

pub ran : (core : Core) (n : ℕ) (s : State.State) → EndingsStand s → Ran core n s
ran core zero s h = record { ids = []; keeps = keeps_calm s.things s.places s.work s.parked s.handlers s.last_handler s.sources s.last_source s refl (carries_same s.things s.places) (calm_same s.work); stand = h }
ran core (suc n) s h =
    let d = does_move core s h in
    let o = move (meaning core).machine s in
    let r = ran core n o.0 (stand_after 1 d.ids s o d.keeps h) in
    let e : 1 + n ≡ suc n = omega arith in
    record {
      ids = d.ids ++ r.ids;
      keeps = subst (λ k. Keeps k (d.ids ++ r.ids) s (moves (meaning core).machine (suc n) s, said (meaning core).machine (suc n) s)) e (keeps_then 1 n None None None d.ids r.ids s o.0 o.1 (moves (meaning core).machine n o.0, said (meaning core).machine n o.0) d.keeps r.keeps);
      stand = r.stand;
    }

module _ (core : Core) (w : World) where
  stand_first : EndingsStand (opening core w)
  stand_first t =
      let items : List Item = initial_items core.statics (firsts core 1 (static_types core.statics)) in
      let p = plain_append items (Start ∷ EndMain ∷ []) (plain-initial_items core.statics (firsts core 1 (static_types core.statics))) (plain_item Start (EndMain ∷ []) (λ v. refl) (plain_item EndMain [] (λ v. refl) plain_nil)) in
      let a = p.by t in
      let b = none ending_now t in
      omega arith

  from_first : (n : ℕ) → Ran core n (opening core w)
  from_first n = ran core n (opening core w) stand_first

  -- from one state of the run to a later one
  between : (n m : ℕ) → n ≤ m → (s : State.State) × (s ≡ state_after core w m) × ((d : ℕ) × (ds : List ℕ) × (es : List Said) × Keeps d ds (state_after core w n) (s, es))
  between n m h =
      let r = ran core (m - n) (state_after core w n) (from_first n).stand in
      let e : n + (m - n) ≡ m = omega arith in (
        moves (meaning core).machine (m - n) (state_after core w n),
        sym (moves_add (meaning core).machine n (m - n) (opening core w)) ∙ ap (λ k. moves (meaning core).machine k (opening core w)) e,
        (m - n, r.ids, said (meaning core).machine (m - n) (state_after core w n), r.keeps),
      )

pub makings_are_numbered : Runs.MakingsAreNumbered
makings_are_numbered core w n = sym (from_first core w n).keeps.made

pub things_go_on : Runs.ThingsGoOn
things_go_on core w n m t x h e =
    let b = between core w n m h in
    let f = further_at (state_after core w n).things b.0.things t x b.2.3.further e in
    (f.0, subst (λ (s : State.State). at s.things t ≡ Some f.0) b.1 f.1, f.2)

pub gone_once : Runs.GoneOnce
gone_once core w n t = (let a = (from_first core w n).keeps.gone t in let b = none gone_now t in omega arith)

pub made_before_gone : Runs.MadeBeforeGone
made_before_gone core w n t es fs e =
    let a = ordered-at 0 t es fs (subst (λ xs. Ordered 0 xs) e (from_first core w n).keeps.order) in
    (a.0, let b = a.1 in omega arith)

pub endings_stand_once : Runs.EndingsStandOnce
endings_stand_once core w n t = (from_first core w n).stand t

-- one more step
step_after : (core : Core) (w : World) (n : ℕ) → (move (meaning core).machine (state_after core w n)).0 ≡ state_after core w (suc n)
step_after core w n =
    let e : n + 1 ≡ suc n = omega arith in
    sym (moves_add (meaning core).machine n 1 (opening core w)) ∙ ap (λ k. moves (meaning core).machine k (opening core w)) e

-- Tidiness

module _ (core : Core) (w : World) where
  tidy_first : Tidy None (opening core w).things (opening core w).places
  tidy_first =
      let ps : List Place = empty_places core None (static_types core.statics) in
      let takes : Takes [] (opening core w).places = takes_item [] (arguments_place w) ps (fills_nothing [] (arguments_place w) refl) (takes_empty_places [] core None (static_types core.statics)) in
      record {
        live = λ t l. absurd (let bad : Gone ≡ Live = sym (no_thing t) ∙ l in cc);
        only = λ t o. takes.by t o;
      }

  tidy_after : (n : ℕ) → Tidy None (state_after core w n).things (state_after core w n).places
  tidy_after n = (from_first core w n).keeps.tidy tidy_first

  owned_at : (n t : ℕ) (x : ThingState) → at (state_after core w n).things t ≡ Some x → is_tidy_thing (state_after core w n) t x.status ≡ true
  owned_at n t x e = by x.status refl
    where
      s : State.State
      s = state_after core w n

      by : (st : Status) → x.status ≡ st → is_tidy_thing (state_after core w n) t st ≡ true
      by Live q =
          let l : status_in (at s.things t) ≡ Live = ap status_in e ∙ q in
          let o : 0 < owning_places s t = elim ((tidy_after n).live t l) [ inl a ↦ own_counted t s.places a | inr b ↦ absurd (true≢false (sym b)) ] in
          let z = (from_first core w n).stand t ∙ ap (by_status ending_now) e ∙ ap ending_now q in
          and_both (nat_le 1 (owning_places s t)) (endings s t == 0) (le-leb 1 (owning_places s t) o) (eq-eqb (endings s t) 0 z)
      by Ending q =
          let l : status_in (at s.things t) ≡ Ending = ap status_in e ∙ q in
          let none = own_not t s.places (λ o. (let bad : Ending ≡ Live = sym l ∙ (tidy_after n).only t o in cc)) in
          let z = (from_first core w n).stand t ∙ ap (by_status ending_now) e ∙ ap ending_now q in
          and_both (owning_places s t == 0) (endings s t == 1) (eq-eqb (owning_places s t) 0 none) (eq-eqb (endings s t) 1 z)
      by Gone q =
          let l : status_in (at s.things t) ≡ Gone = ap status_in e ∙ q in
          let none = own_not t s.places (λ o. (let bad : Gone ≡ Live = sym l ∙ (tidy_after n).only t o in cc)) in
          let z = (from_first core w n).stand t ∙ ap (by_status ending_now) e ∙ ap ending_now q in
          and_both (owning_places s t == 0) (endings s t == 0) (eq-eqb (owning_places s t) 0 none) (eq-eqb (endings s t) 0 z)

tidy_from : (s : State.State) (t : ℕ) (xs : List ThingState) → ((k : ℕ) (x : ThingState) → slice_get xs k ≡ Some x → is_tidy_thing s (t + k) x.status ≡ true) → are_tidy s t xs ≡ true
tidy_from s t [] h = refl
tidy_from s t (x ∷ xs) h =
    let e : t + 0 ≡ t = omega arith in
    and_both (is_tidy_thing s t x.status) (are_tidy s (suc t) xs) (subst (λ n. is_tidy_thing s n x.status ≡ true) e (h 0 x refl))
    (tidy_from s (suc t) xs (λ k y q. (let f : t + suc k ≡ suc t + k = omega arith in subst (λ n. is_tidy_thing s n y.status ≡ true) f (h (suc k) y q))))

pub is_always_tidy : Runs.IsAlwaysTidy
is_always_tidy core w n =
    let s = state_after core w n in
    tidy_from s 1 s.things (λ k x e. (let f : suc k ≡ 1 + k = omega arith in subst (λ t. is_tidy_thing s t x.status ≡ true) f (owned_at core w n (suc k) x e)))

pub one_ending_begins : Runs.OneEndingBegins
one_ending_begins core w n =
    subst (λ (s : State.State). past s.things ≤ past (state_after core w n).things + 1) (step_after core w n) (does_move core (state_after core w n) (from_first core w n).stand).keeps.begins

contained : (is js : List ℕ) (i : ℕ) → (In i is → In i js) → Contains is i → Contains js i
contained is js i h c = in-contains i js (h (contains-in is i c.0 c.1 c.2))

pub ids_are_given_once : Runs.IdsAreGivenOnce
ids_are_given_once core w n m h =
    let first = (from_first core w n).keeps in
    let b = between core w n m h in
    let k = b.2.3 in
    let s = state_after core w n in (
      first.handlers.ordered (omega arith),
      first.sources.ordered (omega arith),
      subst (λ (u : State.State). GivesOnce handler_ids (λ (x : State.State). x.last_handler) s u) b.1 (record { rises = k.handlers.greatest; kept = λ i l c. contained (ids_of b.0.handlers) (ids_of s.handlers) i (k.handlers.kept i l) c }),
      subst (λ (u : State.State). GivesOnce source_ids (λ (x : State.State). x.last_source) s u) b.1 (record { rises = k.sources.greatest; kept = λ i l c. contained (source_ids_of b.0.sources) (source_ids_of s.sources) i (k.sources.kept i l) c }),
    )

each-in : (is : List ℕ) (k d : ℕ) → k < length is → In (slice_index_or is k d) is
each-in [] k d h = absurd (omega arith)
each-in (i ∷ is) zero d h = inl refl
each-in (i ∷ is) (suc k) d h = inr (each-in is k d (omega arith))

pub dispatches_source_there : Runs.DispatchesSourceThere
dispatches_source_there core w n =
    let s = state_after core w n in
    let d = does_move core s (from_first core w n).stand in
    subst (λ ds. All (λ (id : ℕ). Contains (source_ids s) id) ds) (sym d.keeps.dispatched) (λ k e l. in-contains (slice_index_or d.ids k e) (source_ids_of s.sources) (d.there (slice_index_or d.ids k e) (each-in d.ids k e l)))

pub one_stage_a_step : Runs.OneStageAStep
one_stage_a_step core w n t =
    subst (λ (s : State.State). by_status progress (at s.things t) ≤ by_status progress (at (state_after core w n).things t) + 1) (step_after core w n) ((does_move core (state_after core w n) (from_first core w n).stand).keeps.stages t)

-- what is lost in a step
module _ (s u : State.State) (l : Loses 1 None None s.places u.places) where
  kept_by : (t : ℕ) → owning_places s t ≤ owning_places u t + count_by (λ v. t == v) l.losers
  kept_by t = (let a = l.counts t in omega arith)

  -- how often a thing is lost, where one is
  lost_one : (o t : ℕ) → l.losers ≡ o ∷ [] → count_by (λ v. t == v) l.losers ≡ bit (t == o)
  lost_one o t e = ap (count_by (λ v. t == v)) e ∙ (let a = count-cons (λ v. t == v) o [] in let z : count_by (λ v. t == v) [] ≡ 0 = refl in omega arith)

  loses_thing : (losers : List ℕ) → l.losers ≡ losers → (t : ℕ) × Runs.LosesOneOwner t s u
  loses_thing [] e = (0, record { one = (let a = none_lost 0 in omega arith); others = λ t other. none_lost t })
    where
      none_lost : (t : ℕ) → owning_places s t ≤ owning_places u t
      none_lost t = (let a = kept_by t in let b : count_by (λ v. t == v) l.losers ≡ 0 = ap (count_by (λ v. t == v)) e in omega arith)
  loses_thing (o ∷ []) e = (
    o,
    record {
      one = (let a = kept_by o in let b = lost_one o o e in let c = bit_le (o == o) in omega arith);
      others = λ t other. (let a = kept_by t in let b = lost_one o t e in let c = ap bit (ne_eqb t o other) in omega arith);
    },
  )
  loses_thing (o ∷ p ∷ os) e = absurd (let a = l.few in let b = ap length e in omega arith)

-- What one thing loses, one place owned.
module _ (s u : State.State) (o : ℕ) (l : Runs.LosesOneOwner o s u) where
  put_null : (n t : ℕ) → owning_places (put s n Null) t + bit (owns_in t (slice_get s.places n)) ≡ owning_places s t
  put_null n t = count-put_null t s.places n Null refl

  loses_place : (n : ℕ) → (0 < owning_places s o → IsTrue (owns_in o (slice_get s.places n))) → (t : ℕ) → owning_places (put s n Null) t ≤ owning_places u t
  loses_place n h t =
      elim (cases_eq t o) [
        | inl same ↦ subst (λ v. owning_places (put s n Null) v ≤ owning_places u v) (sym same) (this (owning_places s o) refl)
        | inr other ↦ (let a = put_null n t in let b = l.others t other in omega arith)
      ]
    where
      this : (k : ℕ) → owning_places s o ≡ k → owning_places (put s n Null) o ≤ owning_places u o
      this zero e = (let a = put_null n o in omega arith)
      this (suc k) e = (let a = put_null n o in let b = l.one in let c = ap bit (h (omega arith)) in omega arith)

  place_lost : (k : ℕ) → owning_places s o ≡ k → (n : ℕ) × ((t : ℕ) → owning_places (put s n Null) t ≤ owning_places u t)
  place_lost zero e = (0, loses_place 0 (λ h. absurd (omega arith)))
  place_lost (suc k) e = let f = own-found o s.places (own_some o s.places (omega arith)) in (f.0, loses_place f.0 (λ h. f.1))

pub one_owner_is_lost : Runs.OneOwnerIsLost
one_owner_is_lost core w n =
    let s = state_after core w n in
    subst (λ (u : State.State). (t : ℕ) × Runs.LosesOneOwner t s u) (step_after core w n) (
    let l = (does_move core s (from_first core w n).stand).keeps.lost (tidy_after core w n) in loses_thing s (move (meaning core).machine s).0 l l.losers refl
    )

pub one_place_is_given_up : Runs.OnePlaceIsGivenUp
one_place_is_given_up core w n =
    let l = one_owner_is_lost core w n in place_lost (state_after core w n) (state_after core w (suc n)) l.0 l.1 (owning_places (state_after core w n) l.0) refl

live_there : (o : Option ThingState) → status_in o ≡ Live → (x : ThingState) × (o ≡ Some x) × (x.status ≡ Live)
live_there None e = absurd (let bad : Gone ≡ Live = e in cc)
live_there (Some x) e = (x, refl, e)

pub owned_is_live : Runs.OwnedIsLive
owned_is_live core w n t h = live_there (at (state_after core w n).things t) ((tidy_after core w n).only t (own_some t (state_after core w n).places h))
