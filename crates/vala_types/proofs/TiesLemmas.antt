-- The walk over the bases, and that it finds every base.
use Rattle.std.proofs.Common.{◌≡◌, ℕ, zero, suc, ◌+◌, ◌<◌, ◌≤◌, ◌==◌, ◌||◌, Bool, true, false, cond, List, [], ◌∷◌, length, ◌⊎◌, inl, inr, refl, sym, ap, ◌∙◌, subst, arith}
use Rattle.std.proofs.lemmas.Bool.{eq-eqb, eqb-true, cases_Bool, cases_lt}
use Rattle.std.proofs.lemmas.List.{get_or_past}
use Rattle.std.proofs.lemmas.List.Folds.{Any-from_list_any, list_any_at}
use Rattle.std.proofs.Math.Bool.{or-true}
use Rattle.std.proofs.Math.Nat.{zero-add, suc-add}
use Rattle.std.specs.Bool.{Decides}
use Rattle.std.specs.List.{Any, list_any}
use Rattle.vala_types.specs.declared.ties.Ties.{Ties}
use Rattle.vala_types.specs.Ties.{bases_of, IsDirectBase, HasBase, direct, beyond, is_within}
use Rattle.vala_types.specs.Tests.{has_base}

-- one base, that it is the one that is looked for or leads there
abbrev is_near : Ties → ℕ → ℕ → ℕ → Bool
is_near ties k base next = next == base || is_within ties k next base

or_first : (a b : Bool) → a ≡ false → (a || b) ≡ b
or_first true b h = cc
or_first false b h = refl

-- tests that agree, and one that follows from another, over a list
any_same : (p q : ℕ → Bool) → ((x : ℕ) → p x ≡ q x) → (xs : List ℕ) → list_any p xs ≡ list_any q xs
any_same p q same [] = refl
any_same p q same (x ∷ xs) = let h = same x in let t = any_same p q same xs in rw (h, t) refl

or_more : (a b c d : Bool) → (a ≡ true → c ≡ true) → (b ≡ true → d ≡ true) → (a || b) ≡ true → (c || d) ≡ true
or_more true b c d f g h = rw (f refl) refl
or_more false true c d f g h = rw (g refl) (or-true c)
or_more false false c d f g h = cc

any_more : (p q : ℕ → Bool) → ((x : ℕ) → p x ≡ true → q x ≡ true) → (xs : List ℕ) → list_any p xs ≡ true → list_any q xs ≡ true
any_more p q more [] h = h
any_more p q more (x ∷ xs) h = or_more (p x) (list_any p xs) (q x) (list_any q xs) (more x) (any_more p q more xs) h

-- more steps lead no less far
within_more : (ties : Ties) (base k a : ℕ) → is_within ties k a base ≡ true → is_within ties (suc k) a base ≡ true
within_more ties base zero a h = cc
within_more ties base (suc k) a h =
    any_more (is_near ties k base) (is_near ties (suc k) base) (λ x. or_more (x == base) (is_within ties k x base) (x == base) (is_within ties (suc k) x base) (λ e. e) (within_more ties base k x)) (bases_of ties a) h

-- from a number without a row nothing is reached
pub none_past : (ties : Ties) (base k a : ℕ) → length ties.rows ≤ a → is_within ties k a base ≡ false
none_past ties base zero a h = refl
none_past ties base (suc k) a h = ap (list_any (is_near ties k base)) (get_or_past ties.rows a [] h)

-- how many numbers below a bound pass a test
count_to : (ℕ → Bool) → ℕ → ℕ
count_to p zero = 0
count_to p (suc n) = count_to p n + cond (p n) 1 0

cond_at_most : (t : Bool) → cond t 1 0 ≤ 1
cond_at_most true = omega arith
cond_at_most false = omega arith

count_at_most : (p : ℕ → Bool) (n : ℕ) → count_to p n ≤ n
unfolding count_to
count_at_most p zero = omega arith
count_at_most p (suc n) = let h = count_at_most p n in let t = cond_at_most (p n) in omega arith

cond_more : (s t : Bool) → (s ≡ true → t ≡ true) → cond s 1 0 ≤ cond t 1 0
cond_more true t f = rw (f refl) (omega arith)
cond_more false true f = omega arith
cond_more false false f = omega arith

count_more : (p q : ℕ → Bool) → ((x : ℕ) → p x ≡ true → q x ≡ true) → (n : ℕ) → count_to p n ≤ count_to q n
unfolding count_to
count_more p q more zero = omega arith
count_more p q more (suc n) = let h = count_more p q more n in let t = cond_more (p n) (q n) (more n) in omega arith

cond_same : (s t : Bool) → (s ≡ true → t ≡ true) → cond t 1 0 ≤ cond s 1 0 → t ≡ s
cond_same true t f h = f refl
cond_same false false f h = refl
cond_same false true f h = absurd (omega arith)

-- where a weaker test passes no more numbers, it is the same test
count_same : (p q : ℕ → Bool) → ((x : ℕ) → p x ≡ true → q x ≡ true) → (n : ℕ) → count_to q n ≤ count_to p n → (x : ℕ) → x < n → q x ≡ p x
unfolding count_to
count_same p q more zero h x low = absurd (omega arith)
count_same p q more (suc n) h x low =
    let t : cond (p n) 1 0 ≤ cond (q n) 1 0 = cond_more (p n) (q n) (more n) in
    let u : count_to p n ≤ count_to q n = count_more p q more n in
    elim (cases_lt x n) [
      | inl below ↦ count_same p q more n (omega (arith, t, u)) x below
      | inr above ↦
          let e : n ≡ x = omega arith in
          let P : ℕ → Type 0 = λ m. q m ≡ p m in
          subst P e (cond_same (p n) (q n) (more n) (omega (arith, t, u)))
    ]

-- one step more leads nowhere else
abbrev IsSettled : Ties → ℕ → ℕ → Type 0
IsSettled ties base k = (a : ℕ) → is_within ties (suc k) a base ≡ is_within ties k a base

settled_on : (ties : Ties) (base k : ℕ) → IsSettled ties base k → IsSettled ties base (suc k)
settled_on ties base k s a =
    any_same (is_near ties (suc k) base) (is_near ties k base) (λ x. ap (λ t. x == base || t) (s x)) (bases_of ties a)

reached : Ties → ℕ → ℕ → ℕ
reached ties base k = count_to (λ a. is_within ties k a base) (length ties.rows)

settled_where_equal : (ties : Ties) (base k : ℕ) → reached ties base (suc k) ≤ reached ties base k → IsSettled ties base k
unfolding reached
settled_where_equal ties base k h a =
    elim (cases_lt a (length ties.rows)) [
      | inl low ↦ count_same (λ x. is_within ties k x base) (λ x. is_within ties (suc k) x base) (within_more ties base k) (length ties.rows) h a low
      | inr high ↦ none_past ties base (suc k) a high ∙ sym (none_past ties base k a high)
    ]

-- each step leads further, until none does
settled_or_many : (ties : Ties) (base k : ℕ) → IsSettled ties base k ⊎ (k ≤ reached ties base k)
settled_or_many ties base zero = inr (omega arith)
settled_or_many ties base (suc k) =
    elim (settled_or_many ties base k) [
      | inl s ↦ inl (settled_on ties base k s)
      | inr many ↦
          elim (cases_lt (reached ties base k) (reached ties base (suc k))) [
            | inl more ↦ inr (omega arith)
            | inr equal ↦ inl (settled_on ties base k (settled_where_equal ties base k equal))
          ]
    ]

reached_at_most : (ties : Ties) (base k : ℕ) → reached ties base k ≤ length ties.rows
unfolding reached
reached_at_most ties base k = count_at_most (λ a. is_within ties k a base) (length ties.rows)

settled_at_rows : (ties : Ties) (base : ℕ) → IsSettled ties base (length ties.rows)
settled_at_rows ties base =
    elim (settled_or_many ties base (length ties.rows)) [
      | inl s ↦ s
      | inr many ↦
          let h : reached ties base (suc (length ties.rows)) ≤ length ties.rows = reached_at_most ties base (suc (length ties.rows)) in
          settled_where_equal ties base (length ties.rows) (omega (arith, many, h))
    ]

-- what is settled stays so
settled_after : (ties : Ties) (base k : ℕ) → IsSettled ties base k → (d : ℕ) → IsSettled ties base (d + k)
settled_after ties base k s zero = rw zero-add s
settled_after ties base k s (suc d) = rw suc-add (settled_on ties base (d + k) (settled_after ties base k s d))

within_after : (ties : Ties) (base k : ℕ) → IsSettled ties base k → (d a : ℕ) → is_within ties (d + k) a base ≡ is_within ties k a base
within_after ties base k s zero a = rw zero-add refl
within_after ties base k s (suc d) a = rw suc-add (settled_after ties base k s d a ∙ within_after ties base k s d a)

within_plus : (ties : Ties) (base k a : ℕ) → is_within ties k a base ≡ true → (d : ℕ) → is_within ties (d + k) a base ≡ true
within_plus ties base k a h zero = rw zero-add h
within_plus ties base k a h (suc d) = rw suc-add (within_more ties base (d + k) a (within_plus ties base k a h d))

-- any number of steps leads no further than as many as there are rows
within_rows : (ties : Ties) (base k a : ℕ) → is_within ties k a base ≡ true → has_base ties a base ≡ true
within_rows ties base k a h =
    let n : ℕ = length ties.rows in
    let P : ℕ → Type 0 = λ m. is_within ties m a base ≡ true in
    let e : n + k ≡ k + n = omega arith in
    sym (within_after ties base n (settled_at_rows ties base) k a) ∙ subst P e (within_plus ties base k a h n)

at_next : (ties : Ties) (k number next base : ℕ) → IsDirectBase ties number next → is_near ties k base next ≡ true → is_within ties (suc k) number base ≡ true
at_next ties k number next base (i, low, e) near =
    list_any_at (is_near ties k base) (bases_of ties number) i next low (ap (is_near ties k base) e ∙ near)

-- a chain has some number of steps
some_steps : (ties : Ties) (number base : ℕ) → HasBase ties number base → (k : ℕ) × (is_within ties k number base ≡ true)
some_steps ties _ _ (direct number base d) = (1, at_next ties 0 number base base d (rw (eq-eqb base base refl) refl))
some_steps ties _ _ (beyond number next base d rest) =
    let more : (k : ℕ) × (is_within ties k next base ≡ true) = some_steps ties next base rest in
    (suc more.0, at_next ties more.0 number next base d (rw more.1 (or-true (next == base))))

-- what the walk comes to is a base
chain_of : (ties : Ties) (k number base : ℕ) → is_within ties k number base ≡ true → HasBase ties number base
chain_of ties zero number base h = cc
chain_of ties (suc k) number base h =
    let found : Any (λ x. is_near ties k base x ≡ true) (bases_of ties number) = Any-from_list_any (is_near ties k base) (bases_of ties number) h in
    let next : ℕ = found.1 in
    let d : IsDirectBase ties number next = (found.0, found.2, found.3) in
    elim (cases_Bool (next == base)) [
      | inl same ↦ let P : ℕ → Type 0 = λ b. IsDirectBase ties number b in direct number base (subst P (eqb-true next base same) d)
      | inr other ↦ beyond number next base d (chain_of ties k next base (sym (or_first (next == base) (is_within ties k next base) other) ∙ found.4))
    ]

-- the walk over as many steps as there are rows decides whether there is a chain
pub decides_base : (ties : Ties) (number base : ℕ) → Decides (has_base ties number base) (HasBase ties number base)
decides_base ties number base = (
  chain_of ties (length ties.rows) number base,
  λ h. let k : (k : ℕ) × (is_within ties k number base ≡ true) = some_steps ties number base h in within_rows ties base k.0 number k.1,
)
