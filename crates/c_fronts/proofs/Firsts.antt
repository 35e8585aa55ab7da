-- The first refusal of two lists in which the same is found.
use Rattle.std.proofs.Common.{◌≡◌, ◌∙◌, refl, sym, ap, ap₂, subst, ℕ, zero, suc, ◌+◌, ◌*◌, ◌<◌, ◌≤◌, ◌==◌, nat_lt, Bool, true, false, ◌&&◌, ◌||◌}
use Rattle.std.proofs.Common.{if◌then◌else◌, ◌⊎◌, inl, inr, List, [], ◌∷◌, Option, Some, true≢false, arith}
use Rattle.std.specs.Option.{option_map}
use Rattle.c_tree.specs.declared.kinds.Cause.{Cause}
use Rattle.c_tree.specs.declared.kinds.Cause.TheVariants.{Token, Syntax, Undeclared, Misfit, Twice, Large}
use Rattle.c_tree.specs.declared.kinds.Fault.{Fault}
use Rattle.c_tree.specs.declared.kinds.Refusal.{Refusal}
use Rattle.c_tree.specs.Faults.{least, known, is_known, is_before, rank}
use Rattle.c_tree.specs.Answers.{refusal, first_of}
use Rattle.c_fronts.proofs.Shows.{Probe, shows, finds}

-- faults in their order, by number
abbrev key_of : ℕ → Cause → ℕ
key_of place c = place * 8 + rank c

abbrev key : Fault → ℕ
key f = key_of f.place f.cause

low_rank : (c : Cause) → rank c < 8
low_rank Token = omega arith
low_rank Syntax = omega arith
low_rank Undeclared = omega arith
low_rank Misfit = omega arith
low_rank Twice = omega arith
low_rank Large = omega arith

abbrev cause_at : ℕ → Cause
cause_at (suc zero) = Token
cause_at (suc (suc zero)) = Syntax
cause_at (suc (suc (suc zero))) = Undeclared
cause_at (suc (suc (suc (suc zero)))) = Misfit
cause_at (suc (suc (suc (suc (suc zero))))) = Twice
cause_at n = Large

cause_is : (c : Cause) → cause_at (rank c) ≡ c
cause_is Token = refl
cause_is Syntax = refl
cause_is Undeclared = refl
cause_is Misfit = refl
cause_is Twice = refl
cause_is Large = refl

-- of two numbers that are equal in one, each is
same_place : (p q r s : ℕ) → r < 8 → s < 8 → p * 8 + r ≡ q * 8 + s → p ≡ q
same_place p q r s a b e = omega (arith, a, b, e)

same_rank : (p q r s : ℕ) → r < 8 → s < 8 → p * 8 + r ≡ q * 8 + s → r ≡ s
same_rank p q r s a b e = omega (arith, a, b, e)

same_refusal : (f g : Fault) → key f ≡ key g → refusal f ≡ refusal g
same_refusal f g e =
    let place : f.place ≡ g.place = same_place f.place g.place (rank f.cause) (rank g.cause) (low_rank f.cause) (low_rank g.cause) e in
    let causes : f.cause ≡ g.cause = sym (cause_is f.cause)
    ∙ ap cause_at (same_rank f.place g.place (rank f.cause) (rank g.cause) (low_rank f.cause) (low_rank g.cause) e) ∙ cause_is g.cause in
    ap₂ (λ (c : Cause) (n : ℕ). record { cause = c; at = n }) causes place

-- one that comes before has the lower number, and one that does not has none
before_low : (f g : Fault) → is_before f g ≡ true → key f < key g
before_low f g e = numbers f.place g.place (rank f.cause) (rank g.cause) (low_rank f.cause) (low_rank g.cause) e
  where
    numbers : (p q r s : ℕ) → r < 8 → s < 8 → (nat_lt p q || (p == q && nat_lt r s)) ≡ true → p * 8 + r < q * 8 + s
    numbers p q r s a b e = grind (arith)

not_before_low : (f g : Fault) → is_before f g ≡ false → key g ≤ key f
not_before_low f g e = numbers f.place g.place (rank f.cause) (rank g.cause) (low_rank f.cause) (low_rank g.cause) e
  where
    numbers : (p q r s : ℕ) → r < 8 → s < 8 → (nat_lt p q || (p == q && nat_lt r s)) ≡ false → q * 8 + s ≤ p * 8 + r
    numbers p q r s a b e = grind (arith)

-- what has a lower number than this
abbrev below : ℕ → Probe
below m = record { on = true; asks = λ place c. nat_lt (key_of place c) m }

module _ (n : ℕ) where
  -- the first of a fault and another, where that is known
  abbrev step : Fault → Fault → Fault
  step g f = if is_known n f then (if is_before f g then f else g) else g

  abbrev pick : Fault → List Fault → Fault
  pick g [] = g
  pick g (f ∷ fs) = pick (step g f) fs

  picked : (g : Fault) (fs : List Fault) → least (Some g) (known n fs) ≡ Some (pick g fs)
  picked g [] = refl
  picked g (f ∷ fs) = go (is_known n f) (picked g fs) (picked f fs)
    where
      inside : (b : Bool) → least (Some g) (known n fs) ≡ Some (pick g fs) → least (Some f) (known n fs) ≡ Some (pick f fs)
          → least (if b then Some f else Some g) (known n fs) ≡ Some (pick (if b then f else g) fs)
      inside true h k = k
      inside false h k = h

      go : (a : Bool) → least (Some g) (known n fs) ≡ Some (pick g fs) → least (Some f) (known n fs) ≡ Some (pick f fs)
          → least (Some g) (if a then f ∷ known n fs else known n fs) ≡ Some (pick (if a then (if is_before f g then f else g) else g) fs)
      go false h k = h
      go true h k = inside (is_before f g) h k

  step_low : (g f : Fault) → key (step g f) ≤ key g
  step_low g f = go (is_known n f) (is_before f g) refl
    where
      go : (a b : Bool) → is_before f g ≡ b → key (if a then (if b then f else g) else g) ≤ key g
      go true true e = let l = before_low f g e in omega (arith, l)
      go true false e = omega arith
      go false b e = omega arith

  step_known : (g f : Fault) → is_known n f ≡ true → key (step g f) ≤ key f
  step_known g f k = subst (λ (a : Bool). key (if a then (if is_before f g then f else g) else g) ≤ key f) (sym k) (go (is_before f g) refl)
    where
      go : (b : Bool) → is_before f g ≡ b → key (if b then f else g) ≤ key f
      go true e = omega arith
      go false e = not_before_low f g e

  pick_low : (g : Fault) (fs : List Fault) → key (pick g fs) ≤ key g
  pick_low g [] = omega arith
  pick_low g (f ∷ fs) = let a = pick_low (step g f) fs in let b = step_low g f in omega (arith, a, b)

  not_under : (a b : ℕ) → b ≤ a → nat_lt a b ≡ false
  not_under a b h = grind arith

  under : (a b : ℕ) → a < b → nat_lt a b ≡ true
  under a b h = grind arith

  -- nothing of the list is lower than the first
  none_below : (g : Fault) (fs : List Fault) (m : ℕ) → m ≤ key (pick g fs) → shows n (below m) fs ≡ false
  none_below g [] m h = refl
  none_below g (f ∷ fs) m h = ap₂ (λ x y. x || y) (one (is_known n f) refl) (none_below (step g f) fs m h)
    where
      one : (a : Bool) → is_known n f ≡ a → (true && (a && nat_lt (key f) m)) ≡ false
      one false e = refl
      one true e = let a = pick_low (step g f) fs in let b = step_known g f e in not_under (key f) m (omega (arith, a, b, h))

  or_true : (a : Bool) → (a || true) ≡ true
  or_true true = refl
  or_true false = refl

  -- where the first is lower than a number, what stood before or something of the list is
  some_below : (g : Fault) (fs : List Fault) (m : ℕ) → key (pick g fs) < m → (key g < m) ⊎ (shows n (below m) fs ≡ true)
  some_below g [] m h = inl h
  some_below g (f ∷ fs) m h = go (some_below (step g f) fs m h)
    where
      by_step : (a b : Bool) → is_known n f ≡ a → key (if a then (if b then f else g) else g) < m
          → (key g < m) ⊎ (((true && (is_known n f && nat_lt (key f) m)) || shows n (below m) fs) ≡ true)
      by_step true true e k = inr (ap₂ (λ x y. (true && (x && y)) || shows n (below m) fs) e (under (key f) m k))
      by_step true false e k = inl k
      by_step false b e k = inl k

      go : (key (step g f) < m) ⊎ (shows n (below m) fs ≡ true) → (key g < m) ⊎ (shows n (below m) (f ∷ fs) ≡ true)
      go (inl k) = by_step (is_known n f) (is_before f g) refl k
      go (inr k) = inr (ap (λ x. finds n (below m) f || x) k ∙ or_true (finds n (below m) f))

  not_lower : (own : Fault) (fs gs : List Fault) → ((p : Probe) → shows n p fs ≡ shows n p gs) → key (pick own fs) < key (pick own gs) → ⊥
  not_lower own fs gs same h = go (some_below own fs (key (pick own gs)) h)
    where
      go : (key own < key (pick own gs)) ⊎ (shows n (below (key (pick own gs))) fs ≡ true) → ⊥
      go (inl k) = let l = pick_low own gs in absurd (omega (arith, k, l))
      go (inr k) = true≢false (sym k ∙ same (below (key (pick own gs))) ∙ none_below own gs (key (pick own gs)) (omega arith))

  both_ways : (a b : ℕ) → (a < b → ⊥) → (b < a → ⊥) → a ≡ b
  both_ways a b f g = go (nat_lt a b) refl (nat_lt b a) refl
    where
      go : (x : Bool) → nat_lt a b ≡ x → (y : Bool) → nat_lt b a ≡ y → a ≡ b
      go true e y e2 = absurd (f (grind arith))
      go false e true e2 = absurd (g (grind arith))
      go false e false e2 = grind arith

  pub same_first : (own : Fault) (fs gs : List Fault) → ((p : Probe) → shows n p fs ≡ shows n p gs) → first_of (Some own) (known n fs) ≡ first_of (Some own)
      (known n gs)
  same_first own fs gs same =
      ap (λ (o : Option Fault). option_map refusal o) (picked own fs)
      ∙ ap (λ (r : Refusal). Some r) (same_refusal (pick own fs) (pick own gs)
      (both_ways (key (pick own fs)) (key (pick own gs)) (not_lower own fs gs same) (not_lower own gs fs (λ p. sym (same p)))))
      ∙ sym (ap (λ (o : Option Fault). option_map refusal o) (picked own gs))

  -- there is a first
  pub has_first : (own : Fault) (fs : List Fault) → (r : Refusal) × (first_of (Some own) (known n fs) ≡ Some r)
  has_first own fs = (refusal (pick own fs), ap (λ (o : Option Fault). option_map refusal o) (picked own fs))
