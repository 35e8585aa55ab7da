-- Runs that go in step agree in both directions, and runs that agree compose.
use Rattle.std.proofs.Common.{◌≡◌, ℕ, zero, suc, ◌+◌, ◌*◌, ◌≤◌, ◌<◌, Bool, List, [], ◌++◌, Option, Some, None, inl, inr, refl, sym, ap, ◌∙◌, subst, arith, append_assoc, append-nil}
use Rattle.std.proofs.Math.Nat.{mul-le-mul_left}
use Rattle.std.proofs.lemmas.Bool.{cases_lt}
use Rattle.vg_base.specs.Run.{Run, IsRun, Begins, SameEnd, SameEndAs, Limits, EndGoes, Goes, Forward, flipped, Agrees}
use Rattle.vg_base.specs.Matched.{Same, Near, Pairs, Matched}
use Rattle.vg_base.specs.Laws.{joined, joined_limits, cut_run, Parts}

pub begins_refl : {E : Type 0} → (xs : List E) → Begins xs xs
begins_refl xs = ([], append-nil xs)

pub begins_trans : {E : Type 0} → (xs ys zs : List E) → Begins xs ys → Begins ys zs → Begins xs zs
begins_trans xs ys zs p q = (p.0 ++ q.0, sym (append_assoc xs p.0 q.0) ∙ ap (λ l. l ++ q.0) p.1 ∙ q.1)

pub same_goes : {F G : Type 0} → (mate : F → G → Type 0) (o : Option F) (p : Option G) → SameEnd mate o p → EndGoes mate o p
same_goes mate None None h = λ e eq. cc
same_goes mate (Some e) (Some f) h = λ e' eq. let q : e ≡ e' = cc in (f, refl, subst (λ x. mate x f) q h)
same_goes mate None (Some f) h = absurd h
same_goes mate (Some e) None h = absurd h

pub same_flip : {F G : Type 0} → (mate : F → G → Type 0) (o : Option F) (p : Option G) → SameEnd mate o p → SameEnd (flipped mate) p o
same_flip mate None None h = h
same_flip mate (Some e) (Some f) h = h
same_flip mate None (Some f) h = h
same_flip mate (Some e) None h = h

abbrev pub other : Limits → Limits
other l = record { bounded = l.bounded; s = l.s; a = l.c; b = l.d; c = l.a; d = l.b }

module _ {E F G : Type 0} (mate : F → G → Type 0) (l : Limits) (X : Run E F) (Y : Run E G) where
  -- the pairs round a number of steps
  pub record Found (x : ℕ) : Type 0 where
    pub n1 : ℕ
    pub j1 : ℕ
    pub n2 : ℕ
    pub j2 : ℕ
    pub near : Near l X Y n1 j1 n2 j2
    pub below : n1 < x
    pub above : x ≤ n2
    pub same : Same mate X Y n2 j2

  first_same : (k n j : ℕ) → Pairs mate l X Y k n j → Same mate X Y n j
  first_same zero n j p = p
  first_same (suc k) n j p = p.0

  pub found : (k n j x : ℕ) → Pairs mate l X Y k n j → n < x → x ≤ n + k → Found x
  found zero n j x p lt le = absurd (omega arith)
  found (suc k) n j x p lt le =
      elim (cases_lt p.1.0 x) [
        | inl less ↦ found k p.1.0 p.1.1 x p.1.3 less (omega (arith, p.1.2.rises))
        | inr more ↦ record { n1 = n; j1 = j; n2 = p.1.0; j2 = p.1.1; near = p.1.2; below = lt; above = more; same = first_same k p.1.0 p.1.1 p.1.3 }
      ]

  flip_same : (n j : ℕ) → Same mate X Y n j → Same (flipped mate) Y X j n
  flip_same n j h = record { trace = sym h.trace; ended = same_flip mate (X.ended n) (Y.ended j) h.ended }

  pub pairs_flip : (k n j : ℕ) → Pairs mate l X Y k n j → Pairs (flipped mate) (other l) Y X k j n
  pairs_flip zero n j p = flip_same n j p
  pairs_flip (suc k) n j p =
      (flip_same n j p.0, (p.1.1, p.1.0, record { rises = p.1.2.rises_too; rises_too = p.1.2.rises; peak = p.1.2.peak_too; peak_too = p.1.2.peak; steps = p.1.2.steps_too; steps_too = p.1.2.steps }, pairs_flip k p.1.0 p.1.1 p.1.3))

  module _ (RX : IsRun X) (RY : IsRun Y) (same_start : Y.peak 0 ≤ X.peak 0 + l.s) where
    pub goes_zero : Same mate X Y 0 0 → Goes mate l.bounded l.s l.a l.b X Y 0 0
    goes_zero h =
        record {
          steps = λ _. omega arith;
          trace = ([], append-nil _ ∙ h.trace);
          ended = same_goes mate (X.ended 0) (Y.ended 0) h.ended;
          peak = same_start;
        }

    pub goes_later : (n : ℕ) → 0 < n → Found n → (m : ℕ) × Goes mate l.bounded l.s l.a l.b X Y n m
    goes_later n pos f =
        let le : f.n1 + 1 ≤ n = omega (arith, f.below) in
        let more : l.a * (f.n1 + 1) ≤ l.a * n = mul-le-mul_left l.a le in
        let goes = RX.grows n f.n2 f.above in (
          f.j2,
          record {
            steps = λ q. (let st = f.near.steps q in omega (arith, more));
            trace = (goes.0, goes.1 ∙ f.same.trace);
            ended = λ e eq. same_goes mate (X.ended f.n2) (Y.ended f.j2) f.same.ended e (RX.stays n f.n2 e f.above eq);
            peak = omega (arith, f.near.peak_too, RX.climbs f.n1 n (omega (arith, f.below)));
          },
        )

    pub goes : Matched mate l X Y → Forward mate l.bounded l.s l.a l.b X Y
    goes m zero = (0, goes_zero (m 0))
    goes m (suc n) = goes_later (suc n) (omega arith) (found (suc n) 0 0 (suc n) (m (suc n)) (omega arith) (omega arith))

pub matched_agrees : {E F G : Type 0} → (mate : F → G → Type 0) (l : Limits) (X : Run E F) (Y : Run E G) → IsRun X → IsRun Y → Y.peak 0 ≤ X.peak 0 + l.s → X.peak 0 ≤ Y.peak 0 + l.s → Matched mate l X Y → Agrees mate l X Y
matched_agrees mate l X Y RX RY p q m =
    record {
      forward = goes mate l X Y RX RY p m;
      backward = goes (flipped mate) (other l) Y X RY RX q (λ k. pairs_flip mate l X Y k 0 0 (m k));
    }

pub forward_trans : {E F G H : Type 0} → (m1 : F → G → Type 0) (m2 : G → H → Type 0) (X : Run E F) (Y : Run E G) (Z : Run E H) (bounded : Bool) (s1 a1 b1 s2 a2 b2 : ℕ) → Forward m1 bounded s1 a1 b1 X Y → Forward m2 bounded s2 a2 b2 Y Z → Forward (joined m1 m2) bounded (s1 + s2) (a2 * a1) (a2 * b1 + b2) X Z
forward_trans m1 m2 X Y Z bounded s1 a1 b1 s2 a2 b2 p q n =
    let f = p n in
    let g = q f.0 in (
      g.0,
      record {
        steps = λ h. (let fs = f.1.steps h in let gs = g.1.steps h in let st : a2 * f.0 ≤ a2 * (a1 * n + b1) = mul-le-mul_left a2 fs in omega arith);
        trace = begins_trans (X.trace n) (Y.trace f.0) (Z.trace g.0) f.1.trace g.1.trace;
        ended = λ e eq.
            let u = f.1.ended e eq in
            let v = g.1.ended u.0 u.1 in
            (v.0, v.1, (u.0, u.2, v.2));
        peak = omega (arith, f.1.peak, g.1.peak);
      },
    )

pub agrees_trans : {E F G H : Type 0} → (m1 : F → G → Type 0) (m2 : G → H → Type 0) (l k : Limits) (X : Run E F) (Y : Run E G) (Z : Run E H) → l.bounded ≡ k.bounded → Agrees m1 l X Y → Agrees m2 k Y Z → Agrees (joined m1 m2) (joined_limits l k) X Z
agrees_trans m1 m2 l k X Y Z same p q' =
    let q : Agrees m2 (record k { bounded = l.bounded }) Y Z = subst (λ b. Agrees m2 (record k { bounded = b }) Y Z) (sym same) q' in
    let comm : k.s + l.s ≡ l.s + k.s = omega arith in
    let back = forward_trans (flipped m2) (flipped m1) Z Y X l.bounded k.s k.c k.d l.s l.c l.d q.backward p.backward in
    record {
      forward = forward_trans m1 m2 X Y Z l.bounded l.s l.a l.b k.s k.a k.b p.forward q.forward;
      backward = λ n.
          let f = back n in (
            f.0,
            record {
              steps = f.1.steps;
              trace = f.1.trace;
              ended = λ e eq. let u = f.1.ended e eq in (u.0, u.1, (u.2.0, u.2.2, u.2.1));
              peak = omega (arith, f.1.peak);
            },
          );
    }

pub cut_begins : {E D : Type 0} → (cut : List E → List D) → Parts cut → (xs ys : List E) → Begins xs ys → Begins (cut xs) (cut ys)
cut_begins cut h xs ys b = (cut b.0, sym (h xs b.0) ∙ ap cut b.1)

-- runs that agree agree in each part of the trace, as in the prints alone
pub cut_agrees : {E D F G : Type 0} → (mate : F → G → Type 0) (l : Limits) (X : Run E F) (Y : Run E G) (cut : List E → List D) → Parts cut → Agrees mate l X Y → Agrees mate l (cut_run cut X) (cut_run cut Y)
cut_agrees mate l X Y cut h a =
    record {
      forward = λ n. (let g = a.forward n in (g.0, record { steps = g.1.steps; trace = cut_begins cut h _ _ g.1.trace; ended = g.1.ended; peak = g.1.peak }));
      backward = λ n. (let g = a.backward n in (g.0, record { steps = g.1.steps; trace = cut_begins cut h _ _ g.1.trace; ended = g.1.ended; peak = g.1.peak }));
    }

-- ends that are mates in one way are so in another that asks no more
pub goes_wider : {E F G : Type 0} → (m1 m2 : F → G → Type 0) → ((f : F) (g : G) → m1 f g → m2 f g) → (bounded : Bool) (s a b : ℕ) (X : Run E F) (Y : Run E G) → Forward m1 bounded s a b X Y → Forward m2 bounded s a b X Y
goes_wider m1 m2 h bounded s a b X Y p n =
    let f = p n in (
      f.0,
      record {
        steps = f.1.steps;
        trace = f.1.trace;
        ended = λ e eq. let u = f.1.ended e eq in (u.0, u.1, h e u.0 u.2);
        peak = f.1.peak;
      },
    )

pub agrees_wider : {E F G : Type 0} → (m1 m2 : F → G → Type 0) → ((f : F) (g : G) → m1 f g → m2 f g) → (l : Limits) (X : Run E F) (Y : Run E G) → Agrees m1 l X Y → Agrees m2 l X Y
agrees_wider m1 m2 h l X Y a =
    record {
      forward = goes_wider m1 m2 h l.bounded l.s l.a l.b X Y a.forward;
      backward = goes_wider (flipped m1) (flipped m2) (λ g f. h f g) l.bounded l.s l.c l.d Y X a.backward;
    }

-- an equal end, and then a mate of it
pub joined_as : {F G : Type 0} → (mate : F → G → Type 0) (f : F) (g : G) → joined SameEndAs mate f g → mate f g
joined_as mate f g j = subst (λ x. mate x g) (sym j.1) j.2

-- an end with no mate never comes: so the second run meets each condition that its meaning tests and would answer by that end
pub never_ends : {E F G : Type 0} → (mate : F → G → Type 0) (l : Limits) (X : Run E F) (Y : Run E G) → Agrees mate l X Y → (g : G) → ((f : F) → mate f g → ⊥) → (m : ℕ) → Y.ended m ≡ Some g → ⊥
never_ends mate l X Y a g none m e = let u = (a.backward m).1.ended g e in none u.0 u.2
