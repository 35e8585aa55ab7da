-- Which ids are left where handlers and sources go, and what one more has.
use Rattle.std.proofs.Common.{◌≡◌, ℕ, suc, Bool, true, false, not, cond, List, [], ◌∷◌, ◌++◌, refl, sym, ap, ◌∙◌, subst}
use Rattle.std.specs.Prelude.{◌==◌, ◌&&◌}
use Rattle.core_tree.specs.State
use Rattle.core_tree.specs.State.{Value, Handler, Source}
use Rattle.core_tree.specs.Places.{held, without_target, is_owning_place, has_target}
use Rattle.core_tree.specs.Objects.{without_place, without_object, is_of}
use Rattle.core_tree.specs.Signals.{without_connected, is_connected, without_id}
use Rattle.core_tree.specs.Loop.{without_source, renewed, due_again}
use Rattle.core_tree.proofs.Counts.{Left, none, keep, drop, left_all, IdsGo, ids_more}
use Rattle.core_tree.proofs.Kept.{ids_of, source_ids_of}

left_if : (h : Handler) (hs ks : List Handler) (b : Bool) → Left (ids_of hs) (ids_of ks) → Left (ids_of (cond b hs (h ∷ hs))) (h.id ∷ ids_of ks)
left_if h hs ks true l = drop h.id l
left_if h hs ks false l = keep h.id l

-- the first one that fits goes
left_first : (h : Handler) (hs ks : List Handler) (b : Bool) → Left (ids_of hs) (ids_of ks) → Left (ids_of (cond b ks (h ∷ hs))) (h.id ∷ ids_of ks)
left_first h hs ks true l = drop h.id (left_all (ids_of ks))
left_first h hs ks false l = keep h.id l

left_source : (x : Source) (xs ys : List Source) (b : Bool) → Left (source_ids_of xs) (source_ids_of ys) → Left (source_ids_of (cond b ys (x ∷ xs))) (x.id ∷ source_ids_of ys)
left_source x xs ys true l = drop x.id (left_all (source_ids_of ys))
left_source x xs ys false l = keep x.id l

pub left-without_target : (s : State.State) (t : ℕ) (hs : List Handler) → Left (ids_of (without_target s t hs)) (ids_of hs)
left-without_target s t [] = none
left-without_target s t (h ∷ hs) = left_if h (without_target s t hs) hs (not (is_owning_place s h.place) && has_target t (held s h.place)) (left-without_target s t hs)

pub left-without_place : (n : ℕ) (hs : List Handler) → Left (ids_of (without_place n hs)) (ids_of hs)
left-without_place n [] = none
left-without_place n (h ∷ hs) = left_first h (without_place n hs) hs (h.place == n) (left-without_place n hs)

pub left-without_object : (t : ℕ) (hs : List Handler) → Left (ids_of (without_object t hs)) (ids_of hs)
left-without_object t [] = none
left-without_object t (h ∷ hs) = left_if h (without_object t hs) hs (is_of t h) (left-without_object t hs)

pub left-without_connected : (s : State.State) (t signal : ℕ) (v : Value) (hs : List Handler) → Left (ids_of (without_connected s t signal v hs)) (ids_of hs)
left-without_connected s t signal v [] = none
left-without_connected s t signal v (h ∷ hs) = left_if h (without_connected s t signal v hs) hs (is_connected s t signal v h) (left-without_connected s t signal v hs)

pub left-without_id : (n : ℕ) (hs : List Handler) → Left (ids_of (without_id n hs)) (ids_of hs)
left-without_id n [] = none
left-without_id n (h ∷ hs) = left_first h (without_id n hs) hs (h.id == n) (left-without_id n hs)

pub left-without_source : (n : ℕ) (xs : List Source) → Left (source_ids_of (without_source n xs)) (source_ids_of xs)
left-without_source n [] = none
left-without_source n (x ∷ xs) = left_source x (without_source n xs) xs (x.id == n) (left-without_source n xs)

renewed_if : (x y : Source) (xs ys : List Source) (b : Bool) → y.id ≡ x.id → source_ids_of ys ≡ source_ids_of xs → source_ids_of (cond b (y ∷ xs) (x ∷ ys)) ≡ source_ids_of (x ∷ xs)
renewed_if x y xs ys true e q = ap (λ i. i ∷ source_ids_of xs) e
renewed_if x y xs ys false e q = ap (λ is. x.id ∷ is) q

ids-renewed : (n clock : ℕ) (xs : List Source) → source_ids_of (renewed n clock xs) ≡ source_ids_of xs
ids-renewed n clock [] = refl
ids-renewed n clock (x ∷ xs) = renewed_if x (record x { due = due_again clock x.interval }) xs (renewed n clock xs) (x.id == n) refl (ids-renewed n clock xs)

pub left-renewed : (n clock : ℕ) (xs : List Source) → Left (source_ids_of (renewed n clock xs)) (source_ids_of xs)
left-renewed n clock xs = subst (λ is. Left is (source_ids_of xs)) (sym (ids-renewed n clock xs)) (left_all (source_ids_of xs))

ids_of_more : (hs : List Handler) (h : Handler) → ids_of (hs ++ h ∷ []) ≡ ids_of hs ++ h.id ∷ []
ids_of_more [] h = refl
ids_of_more (k ∷ hs) h = ap (λ is. k.id ∷ is) (ids_of_more hs h)

source_ids_of_more : (xs : List Source) (x : Source) → source_ids_of (xs ++ x ∷ []) ≡ source_ids_of xs ++ x.id ∷ []
source_ids_of_more [] x = refl
source_ids_of_more (y ∷ xs) x = ap (λ is. y.id ∷ is) (source_ids_of_more xs x)

pub ids-more_handler : (l : ℕ) (hs : List Handler) (h : Handler) → h.id ≡ suc l → IdsGo l (ids_of hs) (suc l) (ids_of (hs ++ h ∷ []))
ids-more_handler l hs h e = subst (λ is. IdsGo l (ids_of hs) (suc l) is) (sym (ids_of_more hs h ∙ ap (λ i. ids_of hs ++ i ∷ []) e)) (ids_more l (ids_of hs))

pub ids-more_source : (l : ℕ) (xs : List Source) (x : Source) → x.id ≡ suc l → IdsGo l (source_ids_of xs) (suc l) (source_ids_of (xs ++ x ∷ []))
ids-more_source l xs x e = subst (λ is. IdsGo l (source_ids_of xs) (suc l) is) (sym (source_ids_of_more xs x ∙ ap (λ i. source_ids_of xs ++ i ∷ []) e)) (ids_more l (source_ids_of xs))
