-- How steps are joined.
use Rattle.std.proofs.Common.{◌≡◌, Bool, true, false, if◌then◌else◌, Ok, Err, List, refl, sym, true≢false}
use Rattle.predictive_grammar.specs.Steps.{Outcome, Parser, and_then, ◌>>=◌, pure}

pub just : {L T A : Type 0} (o : Outcome L T A) → and_then o (λ a j. Ok (a, j)) ≡ o
just (Ok p) = refl
just (Err e) = refl

-- what goes on alike reads alike
pub bind : {L T A B : Type 0} (o : Outcome L T A) (f h : A → Parser L T B) → ((a : A) (r : List T) → f a r ≡ h a r) → and_then o f ≡ and_then o h
bind (Ok p) f h same = same p.0 p.1
bind (Err e) f h same = refl

pub assoc : {L T A B C : Type 0} (o : Outcome L T A) (f : A → Parser L T B) (h : B → Parser L T C) → and_then (and_then o f) h ≡ and_then o (λ a j. and_then (f a j) h)
assoc (Ok p) f h = refl
assoc (Err e) f h = refl

-- ways that lead to the same
pub way_same : {X : Type 0} (c : Bool) (a a' b b' : X) → a ≡ a' → b ≡ b' → (if c then a else b) ≡ (if c then a' else b')
way_same true a a' b b' e f = e
way_same false a a' b b' e f = f

pub first_way : {X : Type 0} (c : Bool) (a b : X) → c ≡ true → (if c then a else b) ≡ a
first_way true a b e = refl
first_way false a b e = absurd (true≢false (sym e))

pub other_way : {X : Type 0} (c : Bool) (a b : X) → c ≡ false → (if c then a else b) ≡ b
other_way true a b e = absurd (true≢false e)
other_way false a b e = refl

-- what is read in one step and then used is read in several
pub after_one : {L T A C D : Type 0} (p : Parser L T A) (k : A → C) (h : C → Parser L T D) (i : List T) → (p >>= λ a. h (k a)) i ≡ ((p >>= λ a. pure (k a)) >>= h) i
after_one p k h i = go (p i)
  where
    go : (o : Outcome _ _ _) → and_then o (λ a. h (k a)) ≡ and_then (and_then o (λ a. pure (k a))) h
    go (Ok x) = refl
    go (Err e) = refl

pub after_two : {L T A B C D : Type 0} (p : Parser L T A) (q : A → Parser L T B) (k : A → B → C) (h : C → Parser L T D) (i : List T)
    → (p >>= λ a. q a >>= λ b. h (k a b)) i ≡ ((p >>= λ a. q a >>= λ b. pure (k a b)) >>= h) i
after_two p q k h i = go (p i)
  where
    go2 : (a : _) (o : Outcome _ _ _) → and_then o (λ b. h (k a b)) ≡ and_then (and_then o (λ b. pure (k a b))) h
    go2 a (Ok y) = refl
    go2 a (Err e) = refl

    go : (o : Outcome _ _ _) → and_then o (λ a. q a >>= λ b. h (k a b)) ≡ and_then (and_then o (λ a. q a >>= λ b. pure (k a b))) h
    go (Ok x) = go2 x.0 (q x.0 x.1)
    go (Err e) = refl
