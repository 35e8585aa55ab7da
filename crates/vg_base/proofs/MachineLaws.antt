-- The runs of machines, and a relation of states that blocks of steps keep.
use Rattle.std.proofs.Common.{◌≡◌, ℕ, zero, suc, ◌+◌, ◌-◌, ◌*◌, ◌≤◌, ◌<◌, Bool, true, false, max, List, [], ◌++◌, Option, Some, None, ◌⊎◌, inl, inr, refl, sym, ap, ◌∙◌, subst, arith, append_assoc}
use Rattle.std.specs.Prelude.{IsSome}
use Rattle.std.proofs.Math.Nat.{mul-le-mul_left}
use Rattle.std.proofs.lemmas.Bool.{cases_lt}
use Rattle.vg_base.specs.Run.{Run, IsRun, Begins, EndGoes, SameEnd, flipped, Agrees}
use Rattle.vg_base.specs.Matched.{Same, Near, Pairs, Matched}
use Rattle.vg_base.specs.Machine.{Machine, unless_ended, move, moves, said, most, run_from, Answers}
use Rattle.vg_base.specs.Laws.{limits, Meets, Alone}
use Rattle.vg_base.proofs.RunLaws.{same_goes, matched_agrees}

unless_some : {S E F : Type 0} → (o : Option F) (s : S) (n : S × List E) → IsSome o → unless_ended o s n ≡ (s, [])
unless_some None s n h = cc
unless_some (Some e) s n h = refl

pub some_is : {F : Type 0} → (o : Option F) (e : F) → o ≡ Some e → IsSome o
some_is None e h = cc
some_is (Some f) e h = refl

module _ {S E F : Type 0} (M : Machine S E F) where
  -- a state with an end stays
  pub moves_stay : (n : ℕ) (s : S) → IsSome (M.ended s) → moves M n s ≡ s
  moves_stay zero s h = refl
  moves_stay (suc n) s h = ap (λ p. moves M n p.0) (unless_some (M.ended s) s (M.next s) h) ∙ moves_stay n s h

  pub said_stays : (n : ℕ) (s : S) → IsSome (M.ended s) → said M n s ≡ []
  said_stays zero s h = refl
  said_stays (suc n) s h = ap (λ p. p.1 ++ said M n p.0) (unless_some (M.ended s) s (M.next s) h) ∙ said_stays n s h

  pub moves_ended : (n : ℕ) (s : S) (e : F) → M.ended s ≡ Some e → moves M n s ≡ s
  moves_ended n s e h = moves_stay n s (some_is (M.ended s) e h)

  pub said_ended : (n : ℕ) (s : S) (e : F) → M.ended s ≡ Some e → said M n s ≡ []
  said_ended n s e h = said_stays n s (some_is (M.ended s) e h)

  pub moves_add : (n m : ℕ) (s : S) → moves M (n + m) s ≡ moves M m (moves M n s)
  moves_add zero m s = let e : 0 + m ≡ m = omega arith in ap (λ k. moves M k s) e
  moves_add (suc n) m s = let e : suc n + m ≡ suc (n + m) = omega arith in ap (λ k. moves M k s) e ∙ moves_add n m (move M s).0

  pub said_add : (n m : ℕ) (s : S) → said M (n + m) s ≡ said M n s ++ said M m (moves M n s)
  said_add zero m s = let e : 0 + m ≡ m = omega arith in ap (λ k. said M k s) e
  said_add (suc n) m s =
      let e : suc n + m ≡ suc (n + m) = omega arith in
      ap (λ k. said M k s) e
      ∙ ap (λ l. (move M s).1 ++ l) (said_add n m (move M s).0)
      ∙ sym (append_assoc (move M s).1 (said M n (move M s).0) (said M m (moves M (suc n) s)))

  pub most_here : (n : ℕ) (s : S) → M.top s ≤ most M n s
  most_here zero s = omega arith
  most_here (suc n) s = omega arith

  pub most_end : (n : ℕ) (s : S) → M.top (moves M n s) ≤ most M n s
  most_end zero s = omega arith
  most_end (suc n) s = omega (arith, most_end n (move M s).0)

  pub most_add : (n m : ℕ) (s : S) → most M (n + m) s ≤ max (most M n s) (most M m (moves M n s))
  most_add zero m s = let e : 0 + m ≡ m = omega arith in subst (λ k. most M k s ≤ max (M.top s) (most M m s)) (sym e) (omega arith)
  most_add (suc n) m s =
      let e : suc (n + m) ≡ suc n + m = omega arith in
      let h = most_add n m (move M s).0 in
      subst (λ k. most M k s ≤ max (most M (suc n) s) (most M m (moves M n (move M s).0))) e (omega arith)

  pub most_climbs : (n m : ℕ) (s : S) → n ≤ m → most M n s ≤ most M m s
  most_climbs zero m s h = most_here m s
  most_climbs (suc n) zero s h = absurd (omega arith)
  most_climbs (suc n) (suc m) s h = omega (arith, most_climbs n m (move M s).0 (omega arith))

  -- the run in which each state shows something of its own in place of its end
  abbrev pub run_showing : {H : Type 0} → (S → Option H) → S → Run E H
  run_showing shown s = record { trace = λ n. said M n s; ended = λ n. shown (moves M n s); peak = λ n. most M n s }

  pub showing_is : {H : Type 0} → (shown : S → Option H) → ((s : S) (e : H) → shown s ≡ Some e → IsSome (M.ended s)) → (s : S) → IsRun (run_showing shown s)
  showing_is shown only s =
      record {
        grows = λ n m h.
            let e : n + (m - n) ≡ m = omega arith in
            (said M (m - n) (moves M n s), sym (said_add n (m - n) s) ∙ ap (λ k. said M k s) e);
        stays = λ n m x h eq.
            let e : m ≡ n + (m - n) = omega arith in
            ap (λ k. shown (moves M k s)) e ∙ ap shown (moves_add n (m - n) s) ∙ ap shown (moves_stay (m - n) (moves M n s) (only (moves M n s) x eq)) ∙ eq;
        climbs = λ n m h. most_climbs n m s h;
      }

  pub run_is : (s : S) → IsRun (run_from M s)
  run_is s = showing_is M.ended (λ x e h. some_is (M.ended x) e h) s

module _ {S T E F G H K : Type 0} (bounded : Bool) (s w : ℕ) (M : Machine S E F) (N : Machine T E G) (R : S → T → Type 0) (mate : H → K → Type 0) (shown : S → Option H) (shown_too : T → Option K) (looks : (x : S) (y : T) → R x y → SameEnd mate (shown x) (shown_too y)) (x0 : S) (y0 : T) where
  -- what holds at a pair
  record At (n j : ℕ) : Type 0 where
    steps : bounded ≡ true → j ≤ w * n
    steps_too : bounded ≡ true → n ≤ w * j
    peak : most M n x0 ≤ most N j y0 + s
    peak_too : most N j y0 ≤ most M n x0 + s
    trace : said M n x0 ≡ said N j y0
    related : R (moves M n x0) (moves N j y0)

  -- a pair that follows
  record Next (n j : ℕ) : Type 0 where
    n2 : ℕ
    j2 : ℕ
    near : Near (limits bounded s w) (run_showing M shown x0) (run_showing N shown_too y0) n j n2 j2
    at : At n2 j2

  start : R x0 y0 → M.top x0 ≤ N.top y0 + s → N.top y0 ≤ M.top x0 + s → At 0 0
  start r p q = record { steps = λ _. omega arith; steps_too = λ _. omega arith; peak = p; peak_too = q; trace = refl; related = r }

  same : (n j : ℕ) → At n j → Same mate (run_showing M shown x0) (run_showing N shown_too y0) n j
  same n j h = record { trace = h.trace; ended = looks _ _ h.related }

  next : (n j : ℕ) → At n j → Answers bounded s w M N R (moves M n x0) (moves N j y0) → Next n j
  next n j h b =
      let x = moves M n x0 in
      let y = moves N j y0 in
      let px : most M (n + b.n) x0 ≤ most N j y0 + s = omega (arith, most_add M n b.n x0, most_end N j y0, b.peak, h.peak) in
      let py : most N (j + b.j) y0 ≤ most M n x0 + s = omega (arith, most_add N j b.j y0, most_end M n x0, b.peak_too, h.peak_too) in
      let both : said M n x0 ++ said M b.n x ≡ said N j y0 ++ said N b.j y = ap (λ l. l ++ said M b.n x) h.trace ∙ ap (λ l. said N j y0 ++ l) b.said in
      let kept : R (moves M (n + b.n) x0) (moves N (j + b.j) y0) = subst (λ t. R t (moves N (j + b.j) y0)) (sym (moves_add M n b.n x0)) (subst (λ t. R (moves M b.n x) t) (sym (moves_add N j b.j y0)) b.kept) in
      record {
        n2 = n + b.n;
        j2 = j + b.j;
        near =
            record {
              rises = omega (arith, b.some);
              rises_too = omega (arith, b.some_too);
              peak = px;
              peak_too = py;
              steps = λ q. (let x1 = b.short_too q in let x2 = h.steps q in omega arith);
              steps_too = λ q. (let x1 = b.short q in let x2 = h.steps_too q in omega arith);
            };
        at =
            record {
              steps = λ q. (let x1 = b.short_too q in let x2 = h.steps q in omega (arith, mul-le-mul_left w b.some));
              steps_too = λ q. (let x1 = b.short q in let x2 = h.steps_too q in omega (arith, mul-le-mul_left w b.some_too));
              peak = omega (arith, px, most_climbs N j (j + b.j) y0 (omega arith));
              peak_too = omega (arith, py, most_climbs M n (n + b.n) x0 (omega arith));
              trace = said_add M n b.n x0 ∙ both ∙ sym (said_add N j b.j y0);
              related = kept;
            };
      }

  pairs : ((x : S) (y : T) → R x y → Answers bounded s w M N R x y) → (k n j : ℕ) → At n j → Pairs mate (limits bounded s w) (run_showing M shown x0) (run_showing N shown_too y0) k n j
  pairs answers zero n j h = same n j h
  pairs answers (suc k) n j h = let q = next n j h (answers _ _ h.related) in (same n j h, (q.n2, q.j2, q.near, pairs answers k q.n2 q.j2 q.at))

  pub showing_match : ((x : S) (y : T) → R x y → Answers bounded s w M N R x y) → R x0 y0 → M.top x0 ≤ N.top y0 + s → N.top y0 ≤ M.top x0 + s → Matched mate (limits bounded s w) (run_showing M shown x0) (run_showing N shown_too y0)
  showing_match answers r p q k = pairs answers k 0 0 (start r p q)

-- one induction over blocks serves both directions
pub answers_agree : {S T E F G : Type 0} → (bounded : Bool) (s w : ℕ) (M : Machine S E F) (N : Machine T E G) (R : S → T → Type 0) (mate : F → G → Type 0) → ((x : S) (y : T) → R x y → SameEnd mate (M.ended x) (N.ended y)) → ((x : S) (y : T) → R x y → Answers bounded s w M N R x y) → (x : S) (y : T) → R x y → M.top x ≤ N.top y + s → N.top y ≤ M.top x + s → Matched mate (limits bounded s w) (run_from M x) (run_from N y) × Agrees mate (limits bounded s w) (run_from M x) (run_from N y)
answers_agree bounded s w M N R mate ends answers x y r p q =
    let m = showing_match bounded s w M N R mate M.ended N.ended ends x y answers r p q in
    (m, matched_agrees mate (limits bounded s w) (run_from M x) (run_from N y) (run_is M x) (run_is N y) q p m)

-- a block with its bounds is a block, also seen from the other machine
pub answers_meet : {S T E F G : Type 0} → (bounded : Bool) (s w : ℕ) (M : Machine S E F) (N : Machine T E G) (R : S → T → Type 0) (x : S) (y : T) → Answers bounded s w M N R x y → Meets M N R x y
answers_meet bounded s w M N R x y b = record { n = b.n; j = b.j; some = b.some; some_too = b.some_too; said = b.said; kept = b.kept }

pub meets_flip : {S T E F G : Type 0} → (M : Machine S E F) (N : Machine T E G) (R : S → T → Type 0) (x : S) (y : T) → Meets M N R x y → Meets N M (flipped R) y x
meets_flip M N R x y b = record { n = b.j; j = b.n; some = b.some_too; some_too = b.some; said = sym b.said; kept = b.kept }

-- Blocks that begin where the count is below a limit.
module _ {S T E F G : Type 0} (M : Machine S E F) (N : Machine T E G) (R : S → T → Type 0) (limit : ℕ) (meets : (x : S) (y : T) → R x y → M.top x < limit → Meets M N R x y) (x0 : S) (y0 : T) where
  -- related states at or after n steps of the first
  record Reached (n : ℕ) : Type 0 where
    n2 : ℕ
    j2 : ℕ
    above : n ≤ n2
    same : said M n2 x0 ≡ said N j2 y0
    related : R (moves M n2 x0) (moves N j2 y0)

  reach : (k n j x : ℕ) → said M n x0 ≡ said N j y0 → R (moves M n x0) (moves N j y0) → x ≤ n + k → most M x x0 < limit → Reached x
  reach zero n j x e r le below = record { n2 = n; j2 = j; above = omega arith; same = e; related = r }
  reach (suc k) n j x e r le below =
      elim (cases_lt n x) [
        | inr past ↦ record { n2 = n; j2 = j; above = past; same = e; related = r }
        | inl less ↦
            let here : M.top (moves M n x0) < limit = omega (arith, most_end M n x0, most_climbs M n x x0 (omega arith)) in
            let b = meets (moves M n x0) (moves N j y0) r here in
            let both : said M n x0 ++ said M b.n (moves M n x0) ≡ said N j y0 ++ said N b.j (moves N j y0) = ap (λ l. l ++ said M b.n (moves M n x0)) e ∙ ap (λ l. said N j y0 ++ l) b.said in
            let kept : R (moves M (n + b.n) x0) (moves N (j + b.j) y0) = subst (λ t. R t (moves N (j + b.j) y0)) (sym (moves_add M n b.n x0)) (subst (λ t. R (moves M b.n (moves M n x0)) t) (sym (moves_add N j b.j y0)) b.kept) in
            reach k (n + b.n) (j + b.j) x (said_add M n b.n x0 ∙ both ∙ sym (said_add N j b.j y0)) kept (omega (arith, b.some)) below
      ]

  -- what each state shows of its own goes along
  pub meets_go : {H K : Type 0} → (mate : H → K → Type 0) (shown : S → Option H) (shown_too : T → Option K) → ((x : S) (y : T) → R x y → SameEnd mate (shown x) (shown_too y)) → ((x : S) (e : H) → shown x ≡ Some e → IsSome (M.ended x)) → R x0 y0 → (n : ℕ) → most M n x0 < limit → (m : ℕ) × Begins (said M n x0) (said N m y0) × EndGoes mate (shown (moves M n x0)) (shown_too (moves N m y0))
  meets_go mate shown shown_too looks only r n below =
      let q = reach n 0 0 n refl r (omega arith) below in
      let run = showing_is M shown only x0 in
      let goes = run.grows n q.n2 q.above in (
        q.j2,
        (goes.0, goes.1 ∙ q.same),
        λ e eq. same_goes mate (shown (moves M q.n2 x0)) (shown_too (moves N q.j2 y0)) (looks (moves M q.n2 x0) (moves N q.j2 y0) q.related) e (run.stays n q.n2 e q.above eq),
      )

-- Steps alone come to an end, and then a block follows. The relation before it need not be the one after it.
module _ {S T E F G : Type 0} (M : Machine S E F) (N : Machine T E G) (Q R : S → T → Type 0) (size : S → ℕ) (each : (x : S) (y : T) → Q x y → Alone M Q size x y ⊎ Meets M N R x y) where
  more : (x : S) (y : T) → Alone M Q size x y → Meets M N R (move M x).0 y → Meets M N R x y
  more x y a h =
      record {
        n = suc h.n;
        j = h.j;
        some = omega arith;
        some_too = h.some_too;
        said = ap (λ l. l ++ said M h.n (move M x).0) a.quiet ∙ h.said;
        kept = h.kept;
      }

  falls_to_block : (k : ℕ) (x : S) (y : T) → size x < k → Q x y → Meets M N R x y
  falls_to_block zero x y lt r = absurd (omega arith)
  falls_to_block (suc k) x y lt r =
      elim (each x y r) [
        | inl a ↦ more x y a (falls_to_block k (move M x).0 y (omega (arith, a.falls)) a.kept)
        | inr m ↦ m
      ]

  pub stutter_meets : (x : S) (y : T) → Q x y → Meets M N R x y
  stutter_meets x y q = falls_to_block (suc (size x)) x y (omega arith) q

-- the same with bounds, where no top is above s and the steps have no bound
pub stutter_answers : {S T E F G : Type 0} → (s : ℕ) (M : Machine S E F) (N : Machine T E G) (R : S → T → Type 0) (size : S → ℕ) → ((x : S) (y : T) → R x y → Alone M R size x y ⊎ Meets M N R x y) → ((n : ℕ) (x : S) → most M n x ≤ s) → ((n : ℕ) (y : T) → most N n y ≤ s) → (x : S) (y : T) → R x y → Answers false s 0 M N R x y
stutter_answers s M N R size each p q x y r =
    let b = stutter_meets M N R R size each x y r in
    record {
      n = b.n;
      j = b.j;
      some = b.some;
      some_too = b.some_too;
      short = λ h. cc;
      short_too = λ h. cc;
      peak = omega (arith, p b.n x);
      peak_too = omega (arith, q b.j y);
      said = b.said;
      kept = b.kept;
    }

-- where no step raises the top by more than r, a block of n steps raises it by at most r * n
pub rises_most : {S E F : Type 0} → (M : Machine S E F) (r : ℕ) → ((x : S) → M.top (move M x).0 ≤ M.top x + r) → (n : ℕ) (x : S) → most M n x ≤ M.top x + r * n
rises_most M r h zero x = omega arith
rises_most M r h (suc n) x = omega (arith, h x, rises_most M r h n (move M x).0)
