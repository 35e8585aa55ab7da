-- Refusals in order are the same, and none is earlier than the first.
use Rattle.std.proofs.Common.{◌≡◌, refl, sym, subst, Bool, true, false, IsTrue, if◌then◌else◌, List, [], ◌∷◌, ◌⊎◌, inl, inr, arith}
use Rattle.static_rules.specs.declared.rules.Refusal.{Refusal}
use Rattle.static_rules.specs.Order.{is_earlier}
use Rattle.symbols.specs.Laws.{IsIn, now, later}
use Rattle.breaks.specs.Order.{put_in, in_order}

-- 1. The same refusals

put_by : (q r s : Refusal) (ss : List Refusal) (b : Bool) → (IsIn q (r ∷ ss) → IsIn q (put_in r ss)) → IsIn q (r ∷ s ∷ ss) → IsIn q (if b then s ∷ put_in r ss else r ∷ s ∷ ss)
put_by q r s ss false known i = i
put_by q r s ss true known (now _) = later s (put_in r ss) (known (now ss))
put_by q r s ss true known (later _ _ (now _)) = now (put_in r ss)
put_by q r s ss true known (later _ _ (later _ _ i)) = later s (put_in r ss) (known (later r ss i))

put_keeps : (q r : Refusal) (qs : List Refusal) → IsIn q (r ∷ qs) → IsIn q (put_in r qs)
put_keeps q r [] i = i
put_keeps q r (s ∷ ss) i = put_by q r s ss (is_earlier s r) (put_keeps q r ss) i

pub order_keeps : (r : Refusal) (rs : List Refusal) → IsIn r rs → IsIn r (in_order rs)
order_keeps r [] i = elim i [ ]
order_keeps r (x ∷ xs) (now _) = put_keeps r x (in_order xs) (now (in_order xs))
order_keeps r (x ∷ xs) (later _ _ i) = put_keeps r x (in_order xs) (later x (in_order xs) (order_keeps r xs i))

widen : (q r s : Refusal) (ss : List Refusal) → IsIn q (r ∷ ss) → IsIn q (r ∷ s ∷ ss)
widen q r s ss (now _) = now (s ∷ ss)
widen q r s ss (later _ _ i) = later r (s ∷ ss) (later s ss i)

from_put_by : (q r s : Refusal) (ss : List Refusal) (b : Bool) → (IsIn q (put_in r ss) → IsIn q (r ∷ ss)) → IsIn q (if b then s ∷ put_in r ss else r ∷ s ∷ ss) → IsIn q (r ∷ s ∷ ss)
from_put_by q r s ss false known i = i
from_put_by q r s ss true known (now _) = later r (s ∷ ss) (now ss)
from_put_by q r s ss true known (later _ _ i) = widen q r s ss (known i)

from_put : (q r : Refusal) (qs : List Refusal) → IsIn q (put_in r qs) → IsIn q (r ∷ qs)
from_put q r [] i = i
from_put q r (s ∷ ss) i = from_put_by q r s ss (is_earlier s r) (from_put q r ss) i

behind_first : (r x : Refusal) (xs ys : List Refusal) → (IsIn r ys → IsIn r xs) → IsIn r (x ∷ ys) → IsIn r (x ∷ xs)
behind_first r x xs ys known (now _) = now xs
behind_first r x xs ys known (later _ _ i) = later x xs (known i)

pub order_makes_none : (r : Refusal) (rs : List Refusal) → IsIn r (in_order rs) → IsIn r rs
order_makes_none r [] i = elim i [ ]
order_makes_none r (x ∷ xs) i = behind_first r x xs (in_order xs) (order_makes_none r xs) (from_put r x (in_order xs) i)

-- 2. None is earlier than the first

true_is : (b : Bool) → b ≡ true → IsTrue b
true_is b e = e

not_true : (b : Bool) → b ≡ false → b ≡ true → ⊥
not_true b e h = grind (arith)

never : (b : Bool) → (b ≡ true → ⊥) → b ≡ false
never false h = refl
never true h = absurd (h refl)

-- none of some refusals is earlier than one
abbrev NoneEarlier : Refusal → List Refusal → Type 0
NoneEarlier r qs = (q : Refusal) → IsIn q qs → is_earlier q r ≡ false

pub data Ordered : List Refusal → Type 0 where
  nothing : Ordered []
  first : (r : Refusal) (qs : List Refusal) → NoneEarlier r qs → Ordered qs → Ordered (r ∷ qs)

-- for an order
module _ (irreflexive : (a : Refusal) → IsTrue (is_earlier a a) → ⊥) (transitive : (a b c : Refusal) → IsTrue (is_earlier a b) → IsTrue (is_earlier b c) → IsTrue (is_earlier a c))
    (total : (a b : Refusal) → (a ≡ b → ⊥) → IsTrue (is_earlier a b) ⊎ IsTrue (is_earlier b a)) where
  -- of two refusals not both are earlier
  one_way : (a b : Refusal) → is_earlier a b ≡ true → is_earlier b a ≡ false
  one_way a b e = never (is_earlier b a) (λ f. irreflexive a (transitive a b a (true_is (is_earlier a b) e) (true_is (is_earlier b a) f)))

  -- what is not earlier than a refusal that is not earlier than a third is not earlier than that
  not_earlier : (q s r : Refusal) → is_earlier q s ≡ false → is_earlier s r ≡ false → is_earlier q r ≡ false
  not_earlier q s r e f = never (is_earlier q r) (λ g. either g (total s q (λ same. differs g same)))
    where
      differs : is_earlier q r ≡ true → s ≡ q → ⊥
      differs g same = not_true (is_earlier s r) f (subst (λ (x : Refusal). IsTrue (is_earlier x r)) (sym same) (true_is (is_earlier q r) g))

      either : is_earlier q r ≡ true → (IsTrue (is_earlier s q) ⊎ IsTrue (is_earlier q s)) → ⊥
      either g (inl h) = not_true (is_earlier s r) f (transitive s q r h (true_is (is_earlier q r) g))
      either g (inr h) = not_true (is_earlier q s) e h

  none_earlier_behind : (r s : Refusal) (ss : List Refusal) → is_earlier s r ≡ false → NoneEarlier s ss → NoneEarlier r (s ∷ ss)
  none_earlier_behind r s ss e h q (now _) = e
  none_earlier_behind r s ss e h q (later _ _ i) = not_earlier q s r (h q i) e

  none_earlier_joined : (r s : Refusal) (ss : List Refusal) → is_earlier s r ≡ true → NoneEarlier s ss → (q : Refusal) → IsIn q (r ∷ ss) → is_earlier q s ≡ false
  none_earlier_joined r s ss e h q (now _) = one_way s r e
  none_earlier_joined r s ss e h q (later _ _ i) = h q i

  put_ordered_by : (r s : Refusal) (ss : List Refusal) (b : Bool) → is_earlier s r ≡ b → NoneEarlier s ss → Ordered ss → Ordered (put_in r ss) → Ordered (if b then s ∷ put_in r ss else r ∷ s ∷ ss)
  put_ordered_by r s ss true e h o known = first s (put_in r ss) (λ q i. none_earlier_joined r s ss e h q (from_put q r ss i)) known
  put_ordered_by r s ss false e h o known = first r (s ∷ ss) (none_earlier_behind r s ss e h) (first s ss h o)

  put_ordered : (r : Refusal) (qs : List Refusal) → Ordered qs → Ordered (put_in r qs)
  put_ordered r [] o = first r [] (λ q i. elim i [ ]) nothing
  put_ordered r (s ∷ ss) (first _ _ h o) = put_ordered_by r s ss (is_earlier s r) refl h o (put_ordered r ss o)

  ordered : (rs : List Refusal) → Ordered (in_order rs)
  ordered [] = nothing
  ordered (r ∷ rs) = put_ordered r (in_order rs) (ordered rs)

  same_is_not_earlier : (r : Refusal) → is_earlier r r ≡ false
  same_is_not_earlier r = never (is_earlier r r) (λ e. irreflexive r (true_is (is_earlier r r) e))

  of_first : (q r : Refusal) (qs : List Refusal) → Ordered (r ∷ qs) → IsIn q (r ∷ qs) → is_earlier q r ≡ false
  of_first q r qs (first _ _ h o) (now _) = same_is_not_earlier r
  of_first q r qs (first _ _ h o) (later _ _ i) = h q i

  -- THE FIRST of refusals in order
  pub first_is_least : (q r : Refusal) (rs qs : List Refusal) → in_order rs ≡ r ∷ qs → IsIn q rs → is_earlier q r ≡ false
  first_is_least q r rs qs e i = of_first q r qs (subst (λ (xs : List Refusal). Ordered xs) e (ordered rs)) (subst (λ (xs : List Refusal). IsIn q xs) e (order_keeps q rs i))
