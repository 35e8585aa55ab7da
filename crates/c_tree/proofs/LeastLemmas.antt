-- The least fault of a list.
use Rattle.std.proofs.Common.{◌≡◌, refl, subst, ℕ, ◌+◌, ◌*◌, ◌<◌, ◌≤◌, ◌==◌, ◌&&◌, ◌||◌, nat_lt, Bool, true, false, if◌then◌else◌, List, [], ◌∷◌, Some, None, All, inl, inr, rules, arith}
use Rattle.std.proofs.lemmas.List.Elements.{All-nil, All-cons}
use Rattle.c_tree.specs.declared.kinds.Cause.{Cause}
use Rattle.c_tree.specs.declared.kinds.Cause.TheVariants.{Token, Syntax, Undeclared, Misfit, Twice, Large}
use Rattle.c_tree.specs.declared.kinds.Fault.{Fault}
use Rattle.c_tree.specs.Faults.{least, is_before, rank}
use Rattle.c_tree.specs.Laws.{OneOf, LeastIsFirst, FaultsHaveALeast}

-- places weigh more than causes
abbrev pub weight : Fault → ℕ
weight f = f.place * 8 + rank f.cause

rank_below : (c : Cause) → rank c < 8
rank_below Token = omega arith
rank_below Syntax = omega arith
rank_below Undeclared = omega arith
rank_below Misfit = omega arith
rank_below Twice = omega arith
rank_below Large = omega arith

before_by : (p q r s : ℕ) → (nat_lt p q || (p == q && nat_lt r s)) ≡ false → r < 8 → s < 8 → q * 8 + s ≤ p * 8 + r
before_by p q r s h x y = grind arith

before_to : (p q r s : ℕ) → q * 8 + s ≤ p * 8 + r → r < 8 → s < 8 → (nat_lt p q || (p == q && nat_lt r s)) ≡ false
before_to p q r s h x y = grind arith

pub not_before : (a b : Fault) → is_before a b ≡ false → weight b ≤ weight a
not_before a b h = before_by a.place b.place (rank a.cause) (rank b.cause) h (rank_below a.cause) (rank_below b.cause)

pub never_before : (a b : Fault) → weight b ≤ weight a → is_before a b ≡ false
never_before a b h = before_to a.place b.place (rank a.cause) (rank b.cause) h (rank_below a.cause) (rank_below b.cause)

is_before_by : (p q r s : ℕ) → (nat_lt p q || (p == q && nat_lt r s)) ≡ true → r < 8 → s < 8 → p * 8 + r ≤ q * 8 + s
is_before_by p q r s h x y = grind arith

before : (a b : Fault) → is_before a b ≡ true → weight a ≤ weight b
before a b h = is_before_by a.place b.place (rank a.cause) (rank b.cause) h (rank_below a.cause) (rank_below b.cause)

record Best (g : Fault) (fs : List Fault) (f : Fault) : Type 0 where
  one : OneOf (g ∷ fs) f
  first : weight f ≤ weight g
  rest : All (λ (x : Fault). is_before x f ≡ false) fs

some : (x y : Fault) → Some x ≡ Some y → x ≡ y
some x y e = search rules

over : (g x f : Fault) (xs : List Fault) → weight x ≤ weight g → Best x xs f → Best g (x ∷ xs) f
over g x f xs h b = record { one = inr b.one; first = omega (arith, h, b.first); rest = All-cons (λ (y : Fault). is_before y f ≡ false) x xs (never_before x f b.first) b.rest }

under : (g x f : Fault) (xs : List Fault) → weight g ≤ weight x → Best g xs f → Best g (x ∷ xs) f
under g x f xs h b = record { one = beside b.one; first = b.first; rest = All-cons (λ (y : Fault). is_before y f ≡ false) x xs (never_before x f (omega (arith, h, b.first))) b.rest }
  where
    beside : OneOf (g ∷ xs) f → OneOf (g ∷ x ∷ xs) f
    beside (inl e) = inl e
    beside (inr e) = inr (inr e)

by_test : (b : Bool) (x g f : Fault) (xs : List Fault) → is_before x g ≡ b → ((h : Fault) → least (Some h) xs ≡ Some f → Best h xs f) → least (if b then Some x else Some g) xs ≡ Some f → Best g (x ∷ xs) f
by_test true x g f xs e again h = over g x f xs (before x g e) (again x h)
by_test false x g f xs e again h = under g x f xs (not_before x g e) (again g h)

best : (fs : List Fault) (g f : Fault) → least (Some g) fs ≡ Some f → Best g fs f
best [] g f h = let e : g ≡ f = some g f h in record { one = inl e; first = subst (λ (z : Fault). weight z ≤ weight g) e (omega arith); rest = All-nil (λ (y : Fault). is_before y f ≡ false) }
best (x ∷ xs) g f h = by_test (is_before x g) x g f xs refl (λ k q. best xs k f q) h

no_fault : (f : Fault) → None ≡ Some f → ⊥
no_fault f e = search rules

pub least_is_first : LeastIsFirst
least_is_first [] f h = absurd (no_fault f h)
least_is_first (g ∷ fs) f h = let b : Best g fs f = best fs g f h in (b.one, All-cons (λ (y : Fault). is_before y f ≡ false) g fs (never_before g f b.first) b.rest)

-- a list behind a fault has a least
found_by : (fs : List Fault) (f : Fault) → (g : Fault) × (least (Some f) fs ≡ Some g)
found_by [] f = (f, refl)
found_by (x ∷ xs) f = by_case (is_before x f) (found_by xs x) (found_by xs f)
  where
    by_case : (b : Bool) → (g : Fault) × (least (Some x) xs ≡ Some g) → (g : Fault) × (least (Some f) xs ≡ Some g) → (g : Fault) × (least (if b then Some x else Some f) xs ≡ Some g)
    by_case true h k = h
    by_case false h k = k

pub least_is_found : FaultsHaveALeast
least_is_found f fs = found_by fs f
