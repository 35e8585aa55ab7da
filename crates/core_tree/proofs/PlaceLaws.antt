-- The laws on places and runs.
use Rattle.std.proofs.Common.{◌≡◌, ◌≢◌, refl, ap, ℕ, zero, suc, Bool, true, false, List, [], ◌∷◌, ◌∙◌, Option, Some, None}
use Rattle.std.specs.Prelude.{slice_get, cond}
use Rattle.vg_base.proofs.MachineLaws.{run_is}
use Rattle.core_tree.specs.State
use Rattle.core_tree.specs.State.{Value, Null, Place, ThingState}
use Rattle.core_tree.specs.Places.{held, held_in, put, put_in, give_up, release_thing, begin_ending, begin_ending_of, is_live_now}
use Rattle.core_tree.specs.Owners.{owned_by, is_unowned, thing_at}
use Rattle.core_tree.specs.Step.{meaning, opening}
use Rattle.core_tree.specs.Laws.{RunsGoOn, EmptiesOnePlace}

pub runs_go_on : RunsGoOn
runs_go_on core w = run_is (meaning core).machine (opening core w)

either : (s a c : State.State) (b : Bool) → a.places ≡ s.places → c.places ≡ s.places → (cond b a c).places ≡ s.places
either s a c true h k = h
either s a c false h k = k

begin_keeps : (s : State.State) (t : ℕ) (x : Option ThingState) → (begin_ending_of s t x).places ≡ s.places
begin_keeps s t None = refl
begin_keeps s t (Some x) = either s _ _ (is_live_now x.status) refl refl

ending_if : (s : State.State) (t : ℕ) (b : Bool) → (cond b (begin_ending s t) s).places ≡ s.places
ending_if s t true = begin_keeps s t (thing_at s t)
ending_if s t false = refl

release_keeps : (s : State.State) (o : Option ℕ) → (release_thing s o).places ≡ s.places
release_keeps s None = refl
release_keeps s (Some t) = ending_if s t (is_unowned s t)

-- what a place holds once another is put
put_other : (ps : List Place) (n m : ℕ) (v : Value) → m ≢ n → held_in (slice_get (put_in ps n v) m) ≡ held_in (slice_get ps m)
put_other [] n m v h = refl
put_other (p ∷ ps) zero zero v h = absurd (h refl)
put_other (p ∷ ps) zero (suc m) v h = refl
put_other (p ∷ ps) (suc n) zero v h = refl
put_other (p ∷ ps) (suc n) (suc m) v h = put_other ps n m v (λ e. h (ap suc e))

put_null : (ps : List Place) (n : ℕ) → held_in (slice_get (put_in ps n Null) n) ≡ Null
put_null [] n = refl
put_null (p ∷ ps) zero = refl
put_null (p ∷ ps) (suc n) = put_null ps n

given_up : (s : State.State) (n m : ℕ) → held (give_up s n) m ≡ held_in (slice_get (put_in s.places n Null) m)
given_up s n m = ap (λ (ps : List Place). held_in (slice_get ps m)) (release_keeps (put s n Null) (owned_by (held s n)))

pub empties_one : (s : State.State) (n : ℕ) → EmptiesOnePlace s n
empties_one s n = record {
  empty = given_up s n n ∙ put_null s.places n;
  others = λ m h. given_up s n m ∙ put_other s.places n m Null h;
}
