-- What is said of sets of kinds is computed, where the kinds are finitely many.
use Rattle.std.proofs.Common.{◌≡◌, Bool, true, false, not, ◌&&◌, ◌||◌, List, [], ◌∷◌, refl, sym, ap, ◌∙◌, true≢false}
use Rattle.predictive_grammar.specs.Fit.{Within, Apart}

abbrev pub all : {K : Type 0} → (K → Bool) → List K → Bool
all f [] = true
all f (x ∷ xs) = f x && all f xs

abbrev pub any : {K : Type 0} → (K → Bool) → List K → Bool
any f [] = false
any f (x ∷ xs) = f x || any f xs

abbrev pub implies : Bool → Bool → Bool
implies true b = b
implies false b = true

-- What holds of all kinds, by something that is computed.
pub record Checks (K : Type 0) : Type 1 where
  pub Holds : (K → Bool) → Type 0
  pub sound : (p : K → Bool) → Holds p → (x : K) → p x ≡ true

-- all kinds
pub record Finite (K : Type 0) : Type 0 where
  pub kinds : List K
  pub same : K → K → Bool
  pub same_is : (x y : K) → same x y ≡ true → x ≡ y
  pub every : (x : K) → any (same x) kinds ≡ true

pub and_first : (a b : Bool) → (a && b) ≡ true → a ≡ true
and_first true b e = refl
and_first false b e = e

pub and_second : (a b : Bool) → (a && b) ≡ true → b ≡ true
and_second true b e = e
and_second false b e = absurd (true≢false (sym e))

or_second : (a b : Bool) → a ≡ false → (a || b) ≡ true → b ≡ true
or_second true b e f = absurd (true≢false e)
or_second false b e f = f

pub implied : (a b : Bool) → implies a b ≡ true → a ≡ true → b ≡ true
implied true b e f = e
implied false b e f = absurd (true≢false (sym f))

pub not_true : (a : Bool) → not a ≡ true → a ≡ false
not_true true e = absurd (true≢false (sym e))
not_true false e = refl

pub or_left : (a b : Bool) → a ≡ true → (a || b) ≡ true
or_left true b e = refl
or_left false b e = absurd (true≢false (sym e))

pub or_right : (a b : Bool) → b ≡ true → (a || b) ≡ true
or_right true b e = refl
or_right false b e = e

pub or_case : {C : Type 0} (a b : Bool) → (a || b) ≡ true → (a ≡ true → C) → (b ≡ true → C) → C
or_case true b e f g = f refl
or_case false b e f g = g e

module _ {K : Type 0} (finite : Finite K) where
  all_at : (p : K → Bool) (x : K) (xs : List K) → all p xs ≡ true → any (finite.same x) xs ≡ true → p x ≡ true
  all_at p x [] e f = absurd (true≢false (sym f))
  all_at p x (y ∷ ys) e f = go (finite.same x y) refl (all_at p x ys (and_second (p y) (all p ys) e))
    where
      go : (b : Bool) → finite.same x y ≡ b → (any (finite.same x) ys ≡ true → p x ≡ true) → p x ≡ true
      go true s g = ap p (finite.same_is x y s) ∙ and_first (p y) (all p ys) e
      go false s g = g (or_second (finite.same x y) (any (finite.same x) ys) s f)

  abbrev pub is_within : (K → Bool) → (K → Bool) → Bool
  is_within f g = all (λ x. implies (f x) (g x)) finite.kinds

  abbrev pub is_apart : (K → Bool) → (K → Bool) → Bool
  is_apart f g = all (λ x. implies (f x) (not (g x))) finite.kinds

  pub all_of : (p : K → Bool) → all p finite.kinds ≡ true → (x : K) → p x ≡ true
  all_of p e x = all_at p x finite.kinds e (finite.every x)

  abbrev pub by_list : Checks K
  by_list = record { Holds = λ (p : K → Bool). all p finite.kinds ≡ true; sound = all_of }

module _ {K : Type 0} (checks : Checks K) where
  abbrev pub Inside : (K → Bool) → (K → Bool) → Type 0
  Inside f g = checks.Holds (λ x. implies (f x) (g x))

  abbrev pub Disjoint : (K → Bool) → (K → Bool) → Type 0
  Disjoint f g = checks.Holds (λ x. implies (f x) (not (g x)))

  pub within : (f g : K → Bool) → Inside f g → Within f g
  within f g e x = implied (f x) (g x) (checks.sound (λ x. implies (f x) (g x)) e x)

  pub apart : (f g : K → Bool) → Disjoint f g → Apart f g
  apart f g e x i = not_true (g x) (implied (f x) (not (g x)) (checks.sound (λ x. implies (f x) (not (g x))) e x) i)
