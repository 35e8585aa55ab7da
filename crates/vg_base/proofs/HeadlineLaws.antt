-- From a relation of states to the headline.
use Rattle.std.proofs.Common.{◌≡◌, ℕ, zero, suc, ◌+◌, ◌^◌, ◌≤◌, ◌<◌, Bool, List, [], ◌∷◌, ◌++◌, Option, Some, None, ◌⊎◌, inl, inr, refl, sym, ap, ◌∙◌, subst, arith, append_assoc}
use Rattle.std.specs.Prelude.{IsSome, slice_get}
use Rattle.std.specs.Option.{option_map}
use Rattle.vg_base.specs.declared.event.Event.{Event}
use Rattle.vg_base.specs.declared.event.Event.TheVariants.{Print, Made, Gone, Dispatch}
use Rattle.vg_base.specs.declared.event.Stream.{Stream}
use Rattle.vg_base.specs.declared.event.Stream.TheVariants.{Out, Err}
use Rattle.vg_base.specs.declared.event.LiveRow.{LiveRow}
use Rattle.vg_base.specs.declared.event.VEnd.{VEnd}
use Rattle.vg_base.specs.declared.event.CEnd.{CEnd}
use Rattle.vg_base.specs.Run.{Begins, EndGoes, SameEnd, flipped}
use Rattle.vg_base.specs.Machine.{moves, said, most, Answers}
use Rattle.vg_base.specs.World.{Mates}
use Rattle.vg_base.specs.Headline.{Said, Happens, Returns, Meaning, events, returns, observed, Headline, printed}
use Rattle.vg_base.specs.Laws.{Parts, EndStays, printed_by, Meets}
use Rattle.vg_base.proofs.RunLaws.{cut_begins, same_flip}
use Rattle.vg_base.proofs.MachineLaws.{some_is, showing_is, run_is, answers_meet, meets_flip, meets_go}

-- The parts of what is said

pub events_append : (xs ys : List Said) → events (xs ++ ys) ≡ events xs ++ events ys
events_append [] ys = refl
events_append (Happens e ∷ xs) ys = ap (λ l. e ∷ l) (events_append xs ys)
events_append (Returns rows ∷ xs) ys = events_append xs ys

pub returns_append : (xs ys : List Said) → returns (xs ++ ys) ≡ returns xs ++ returns ys
returns_append [] ys = refl
returns_append (Happens e ∷ xs) ys = returns_append xs ys
returns_append (Returns rows ∷ xs) ys = ap (λ l. rows ∷ l) (returns_append xs ys)

pub printed_append : (s : Stream) (xs ys : List Event) → printed s (xs ++ ys) ≡ printed s xs ++ printed s ys
printed_append s [] ys = refl
printed_append Out (Print Out bytes ∷ xs) ys = ap (λ l. bytes ++ l) (printed_append Out xs ys) ∙ sym (append_assoc bytes (printed Out xs) (printed Out ys))
printed_append Out (Print Err bytes ∷ xs) ys = printed_append Out xs ys
printed_append Err (Print Err bytes ∷ xs) ys = ap (λ l. bytes ++ l) (printed_append Err xs ys) ∙ sym (append_assoc bytes (printed Err xs) (printed Err ys))
printed_append Err (Print Out bytes ∷ xs) ys = printed_append Err xs ys
printed_append Out (Made k ∷ xs) ys = printed_append Out xs ys
printed_append Out (Gone n ∷ xs) ys = printed_append Out xs ys
printed_append Out (Dispatch n ∷ xs) ys = printed_append Out xs ys
printed_append Err (Made k ∷ xs) ys = printed_append Err xs ys
printed_append Err (Gone n ∷ xs) ys = printed_append Err xs ys
printed_append Err (Dispatch n ∷ xs) ys = printed_append Err xs ys

pub printed_by_append : (s : Stream) → Parts (printed_by s)
printed_by_append s xs ys = ap (printed s) (events_append xs ys) ∙ printed_append s (events xs) (events ys)

-- The items of a front are those of the list

front_get : {A : Type 0} → (xs rest : List A) (k : ℕ) (x : A) → slice_get xs k ≡ Some x → slice_get (xs ++ rest) k ≡ Some x
front_get [] rest k x h = cc
front_get (y ∷ xs) rest zero x h = h
front_get (y ∷ xs) rest (suc k) x h = front_get xs rest k x h

begins_get : {A : Type 0} → (xs ys : List A) (k : ℕ) (x : A) → Begins xs ys → slice_get xs k ≡ Some x → slice_get ys k ≡ Some x
begins_get xs ys k x b h = ap (λ l. slice_get l k) (sym b.1) ∙ front_get xs b.0 k x h

some_same : {A : Type 0} → (o : Option A) (x y : A) → o ≡ Some x → o ≡ Some y → x ≡ y
some_same o x y h g = cc

-- An end with what lives there

abbrev pub with_live : {F : Type 0} → Option F → List LiveRow → Option (F × List LiveRow)
with_live o rows = option_map (λ e. (e, rows)) o

abbrev BothMate : VEnd × List LiveRow → CEnd × List LiveRow → Type 0
BothMate e f = Mates e.0 f.0 × (e.1 ≡ f.1)

with_live_same : (o : Option VEnd) (p : Option CEnd) (r q : List LiveRow) → SameEnd Mates o p → (IsSome o → r ≡ q) → SameEnd BothMate (with_live o r) (with_live p q)
with_live_same None None r q h g = tt
with_live_same (Some e) (Some f) r q h g = (h, g refl)
with_live_same None (Some f) r q h g = absurd h
with_live_same (Some e) None r q h g = absurd h

with_live_some : {F : Type 0} → (o : Option F) (r : List LiveRow) (z : F × List LiveRow) → with_live o r ≡ Some z → IsSome o
with_live_some None r z h = cc
with_live_some (Some e) r z h = refl

with_live_is : {F : Type 0} → (o : Option F) (r : List LiveRow) → IsSome o → (e : F) × (with_live o r ≡ Some (e, r))
with_live_is None r h = cc
with_live_is (Some e) r h = (e, refl)

-- an end of what is observed of a meaning stays
pub observed_stays : {S F : Type 0} → (M : Meaning S F) (s : S) → EndStays (observed M s)
observed_stays M s = (run_is M.machine s).stays

-- The limit is a variable here, so that no proof computes it.
module _ {S T : Type 0} (V : Meaning S VEnd) (C : Meaning T CEnd) (R : S → T → Type 0) (ends : (x : S) (y : T) → R x y → SameEnd Mates (V.machine.ended x) (C.machine.ended y)) (lives : (x : S) (y : T) → R x y → IsSome (V.machine.ended x) → V.live x ≡ C.live y) (limit : ℕ) (meets : (x : S) (y : T) → R x y → (V.machine.top x < limit) ⊎ (C.machine.top y < limit) → Meets V.machine C.machine R x y) (x : S) (y : T) (r : R x y) where
  -- the end of a state with what lives there
  abbrev shown_v : S → Option (VEnd × List LiveRow)
  shown_v t = with_live (V.machine.ended t) (V.live t)

  abbrev shown_c : T → Option (CEnd × List LiveRow)
  shown_c u = with_live (C.machine.ended u) (C.live u)

  only_v : (t : S) (e : VEnd × List LiveRow) → shown_v t ≡ Some e → IsSome (V.machine.ended t)
  only_v t e h = with_live_some (V.machine.ended t) (V.live t) e h

  only_c : (u : T) (e : CEnd × List LiveRow) → shown_c u ≡ Some e → IsSome (C.machine.ended u)
  only_c u e h = with_live_some (C.machine.ended u) (C.live u) e h

  looks : (t : S) (u : T) → R t u → SameEnd BothMate (shown_v t) (shown_c u)
  looks t u q = with_live_same (V.machine.ended t) (C.machine.ended u) (V.live t) (C.live u) (ends t u q) (lives t u q)

  -- the second run goes along, and what lives at its end is the same
  goes_on : (n : ℕ) → most V.machine n x < limit → (m : ℕ) × Begins (said V.machine n x) (said C.machine m y) × EndGoes BothMate (shown_v (moves V.machine n x)) (shown_c (moves C.machine m y))
  goes_on = meets_go V.machine C.machine R limit (λ t u q h. meets t u q (inl h)) x y BothMate shown_v shown_c looks only_v r

  follows : (n : ℕ) → most V.machine n x < limit → (m : ℕ) × Begins (said V.machine n x) (said C.machine m y) × EndGoes Mates (V.machine.ended (moves V.machine n x)) (C.machine.ended (moves C.machine m y))
  follows = meets_go V.machine C.machine R limit (λ t u q h. meets t u q (inl h)) x y Mates V.machine.ended C.machine.ended ends (λ t. some_is (V.machine.ended t)) r

  follows_back : (n : ℕ) → most C.machine n y < limit → (m : ℕ) × Begins (said C.machine n y) (said V.machine m x) × EndGoes (flipped Mates) (C.machine.ended (moves C.machine n y)) (V.machine.ended (moves V.machine m x))
  follows_back = meets_go C.machine V.machine (flipped R) limit (λ u t q h. meets_flip V.machine C.machine R t u (meets t u q (inr h))) y x (flipped Mates) C.machine.ended V.machine.ended (λ u t q. same_flip Mates (V.machine.ended t) (C.machine.ended u) (ends t u q)) (λ u. some_is (C.machine.ended u)) r

  -- what the second run returned after m steps stands in what it returned after more
  later : (n m k : ℕ) (rows : List LiveRow) → n ≤ m → slice_get (returns (said C.machine n y)) k ≡ Some rows → slice_get (returns (said C.machine m y)) k ≡ Some rows
  later n m k rows h e =
      begins_get (returns (said C.machine n y)) (returns (said C.machine m y)) k rows
      (cut_begins returns returns_append (said C.machine n y) (said C.machine m y) ((run_is C.machine y).grows n m h)) e

  same_return : (k n m : ℕ) (a b : List LiveRow) → most V.machine n x < limit → slice_get (returns (said V.machine n x)) k ≡ Some a → slice_get (returns (said C.machine m y)) k ≡ Some b → a ≡ b
  same_return k n m a b within ea eb =
      let g = follows n within in
      let there : slice_get (returns (said C.machine g.0 y)) k ≡ Some a =
      begins_get (returns (said V.machine n x)) (returns (said C.machine g.0 y)) k a
      (cut_begins returns returns_append (said V.machine n x) (said C.machine g.0 y) g.1) ea in
      some_same (slice_get (returns (said C.machine (g.0 + m) y)) k) a b
      (later g.0 (g.0 + m) k a (omega arith) there) (later m (g.0 + m) k b (omega arith) eb)

  same_end : (n m : ℕ) → most V.machine n x < limit → IsSome (V.machine.ended (moves V.machine n x)) → IsSome (C.machine.ended (moves C.machine m y)) → V.live (moves V.machine n x) ≡ C.live (moves C.machine m y)
  same_end n m within hv hc =
      let ev = with_live_is (V.machine.ended (moves V.machine n x)) (V.live (moves V.machine n x)) hv in
      let ec = with_live_is (C.machine.ended (moves C.machine m y)) (C.live (moves C.machine m y)) hc in
      let g = goes_on n within in
      let u = g.2 (ev.0, V.live (moves V.machine n x)) ev.1 in
      let run = showing_is C.machine shown_c only_c y in
      let there = run.stays g.0 (g.0 + m) u.0 (omega arith) u.1 in
      let here = run.stays m (g.0 + m) (ec.0, C.live (moves C.machine m y)) (omega arith) ec.1 in
      u.2.1 ∙ ap (λ z. z.1) (some_same (shown_c (moves C.machine (g.0 + m) y)) u.0 (ec.0, C.live (moves C.machine m y)) there here)

  trace_goes : (n m : ℕ) → Begins (said V.machine n x) (said C.machine m y) → Begins (events (said V.machine n x)) (events (said C.machine m y))
  trace_goes n m b = cut_begins events events_append (said V.machine n x) (said C.machine m y) b

  trace_goes_back : (n m : ℕ) → Begins (said C.machine n y) (said V.machine m x) → Begins (events (said C.machine n y)) (events (said V.machine m x))
  trace_goes_back n m b = cut_begins events events_append (said C.machine n y) (said V.machine m x) b

  headline : limit ≡ 2 ^ 63 → Headline (observed V x) (observed C y)
  headline e =
      record {
        forward = λ n h. let g = follows n (subst (λ k. most V.machine n x < k) (sym e) h) in (g.0, trace_goes n g.0 g.1, g.2);
        backward = λ n h. let g = follows_back n (subst (λ k. most C.machine n y < k) (sym e) h) in (g.0, trace_goes_back n g.0 g.1, g.2);
        live =
            record {
              at_return = λ k n m a b h _ ea eb. same_return k n m a b (subst (λ z. most V.machine n x < z) (sym e) h) ea eb;
              at_end = λ n m h _ hv hc. same_end n m (subst (λ z. most V.machine n x < z) (sym e) h) hv hc;
            };
      }

-- A relation of states gives the headline, if related states end in mates with the same things alive, and blocks of steps
-- keep it. A block is owed only where one of the two states is within the limits.
pub meets_headline : {S T : Type 0} (V : Meaning S VEnd) (C : Meaning T CEnd) (R : S → T → Type 0)
    → ((x : S) (y : T) → R x y → SameEnd Mates (V.machine.ended x) (C.machine.ended y))
    → ((x : S) (y : T) → R x y → IsSome (V.machine.ended x) → V.live x ≡ C.live y)
    → ((x : S) (y : T) → R x y → (V.machine.top x < 2 ^ 63) ⊎ (C.machine.top y < 2 ^ 63) → Meets V.machine C.machine R x y)
    → (x : S) (y : T) → R x y → Headline (observed V x) (observed C y)
meets_headline V C R ends lives meets x y r = headline V C R ends lives (2 ^ 63) meets x y r refl

-- the same for blocks with bounds, had from all related states
pub answers_headline : {S T : Type 0} (V : Meaning S VEnd) (C : Meaning T CEnd) (R : S → T → Type 0)
    → ((x : S) (y : T) → R x y → SameEnd Mates (V.machine.ended x) (C.machine.ended y))
    → ((x : S) (y : T) → R x y → IsSome (V.machine.ended x) → V.live x ≡ C.live y)
    → (s w : ℕ) (bounded : Bool)
    → ((x : S) (y : T) → R x y → Answers bounded s w V.machine C.machine R x y)
    → (x : S) (y : T) → R x y → V.machine.top x ≤ C.machine.top y + s → C.machine.top y ≤ V.machine.top x + s
    → Headline (observed V x) (observed C y)
answers_headline V C R ends lives s w bounded answers x y r top top_too = meets_headline V C R ends lives (λ t u q _. answers_meet bounded s w V.machine C.machine R t u (answers t u q)) x y r
