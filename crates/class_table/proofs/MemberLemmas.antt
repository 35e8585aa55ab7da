-- A slot of a base class is a slot of the class, and where no rule is broken each slot of a class that is not abstract has a member.
use Rattle.std.proofs.Common.{◌≡◌, ◌∙◌, refl, sym, ap, subst, ℕ, zero, suc, ◌+◌, ◌<◌, ◌==◌, not, ◌&&◌, ◌||◌, if◌then◌else◌, Bool, true, false, List, [], ◌∷◌, ◌++◌, length, map, Option, Some, None, slice_get, ◌⊎◌, inl, inr, arith}
use Rattle.std.proofs.lemmas.Option.{slice_get_within}
use Rattle.std.specs.List.{list_any, filter, flat_map, enumerate_from}
use Rattle.static_rules.specs.declared.rules.Refusal.{Refusal}
use Rattle.static_rules.specs.declared.rules.Rule.TheVariants.{T7}
use Rattle.symbols.specs.declared.table.Symbol.{Symbol}
use Rattle.symbols.specs.Laws.{IsIn, now, later}
use Rattle.symbols.specs.Outline.{and_then}
use Rattle.class_table.specs.Trees.{Program, place_of, is_abstract}
use Rattle.class_table.specs.Bases.{chain, lineage, interfaces_of, listed_interfaces, types_above, is_class, is_class_kind}
use Rattle.class_table.specs.Slots.{own_slots, slots, standing_in, implementor, if_concrete}
use Rattle.class_table.specs.Faults.{fault, numbers, number_in, is_open, leaves_open, is_unfinished, base_faults, override_faults, abstract_faults, faults_in}
use Rattle.class_table.specs.Laws.{Chain, top, under, HasBody, reached}
use Rattle.class_table.proofs.ChainLemmas.{HasNumber, chain_is_computed}

-- 1. Things in lists

in_front : {X : Type 0} (x : X) (xs ys : List X) → IsIn x xs → IsIn x (xs ++ ys)
in_front x xs ys (now zs) = now (zs ++ ys)
in_front x xs ys (later y zs i) = later y (zs ++ ys) (in_front x zs ys i)

in_back : {X : Type 0} (x : X) (xs ys : List X) → IsIn x ys → IsIn x (xs ++ ys)
in_back x [] ys i = i
in_back x (z ∷ zs) ys i = later z (zs ++ ys) (in_back x zs ys i)

-- what is in one of two lists that are joined
pub data Either {X : Type 0} (x : X) (xs ys : List X) : Type 0 where
  front : IsIn x xs → Either x xs ys
  back : IsIn x ys → Either x xs ys

further : {X : Type 0} (x z : X) (zs ys : List X) → Either x zs ys → Either x (z ∷ zs) ys
further x z zs ys (front i) = front (later z zs i)
further x z zs ys (back i) = back i

from_joined : {X : Type 0} (x : X) (xs ys : List X) → IsIn x (xs ++ ys) → Either x xs ys
from_joined x [] ys i = back i
from_joined x (z ∷ zs) ys (now _) = front (now zs)
from_joined x (z ∷ zs) ys (later _ _ i) = further x z zs ys (from_joined x zs ys i)

-- what is in one of some lists that are joined
in_flat : {X Y : Type 0} (f : X → List Y) (t : X) (y : Y) (ts : List X) → IsIn t ts → IsIn y (f t) → IsIn y (flat_map f ts)
in_flat f t y ts (now us) i = in_front y (f t) (flat_map f us) i
in_flat f t y ts (later u us j) i = in_back y (f u) (flat_map f us) (in_flat f t y us j i)

pub data Among {X Y : Type 0} (f : X → List Y) (y : Y) (ts : List X) : Type 0 where
  among : (t : X) → IsIn t ts → IsIn y (f t) → Among f y ts

from_flat : {X Y : Type 0} (f : X → List Y) (y : Y) (ts : List X) → IsIn y (flat_map f ts) → Among f y ts
from_flat f y [] i = elim i [ ]
from_flat f y (t ∷ ts) i = either (from_joined y (f t) (flat_map f ts) i) (from_flat f y ts)
  where
    wider : Among f y ts → Among f y (t ∷ ts)
    wider (among u j k) = among u (later t ts j) k

    either : Either y (f t) (flat_map f ts) → (IsIn y (flat_map f ts) → Among f y ts) → Among f y (t ∷ ts)
    either (front j) known = among t (now ts) j
    either (back j) known = wider (known j)

-- 2. Slots of base classes

module _ (p : Program) (bound : HasNumber p) where
  -- what is above a class in a chain is in that chain
  pub data Above (b : ℕ) (cs : List ℕ) : Type 0 where
    above : (ds : List ℕ) → Chain p b ds → ((x : ℕ) → IsIn x (b ∷ ds) → IsIn x cs) → Above b cs

  from_above : (b d : ℕ) (bs : List ℕ) → Above b bs → Above b (d ∷ bs)
  from_above b d bs (above ds c sub) = above ds c (λ x i. later d bs (sub x i))

  chain_above : (n b : ℕ) (cs : List ℕ) → Chain p n cs → IsIn b cs → Above b cs
  chain_above n b cs (top _ e) i = elim i [ ]
  chain_above n b cs (under _ d bs e c) (now _) = above bs c (λ x i. i)
  chain_above n b cs (under _ d bs e c) (later _ _ i) = from_above b d bs (chain_above d b bs c i)

  lineage_within : (c b : ℕ) (cs : List ℕ) → Chain p c cs → Above b cs → (x : ℕ) → IsIn x (lineage p b) → IsIn x (lineage p c)
  lineage_within c b cs k (above ds d sub) x i =
      subst (λ (zs : List ℕ). IsIn x (c ∷ zs)) (sym (chain_is_computed p bound c cs k)) (later c cs (sub x (subst (λ (zs : List ℕ). IsIn x (b ∷ zs)) (chain_is_computed p bound b ds d) i)))

  interface_within : (b c t : ℕ) → ((x : ℕ) → IsIn x (lineage p b) → IsIn x (lineage p c)) → Among (listed_interfaces p) t (lineage p b) → IsIn t (interfaces_of p (lineage p c))
  interface_within b c t sub (among x i j) = in_flat (listed_interfaces p) x t (lineage p c) (sub x i) j

  type_within : (b c t : ℕ) → ((x : ℕ) → IsIn x (lineage p b) → IsIn x (lineage p c)) → Either t (lineage p b) (interfaces_of p (lineage p b)) → IsIn t (types_above p c)
  type_within b c t sub (front i) = in_front t (lineage p c) (interfaces_of p (lineage p c)) (sub t i)
  type_within b c t sub (back i) = in_back t (lineage p c) (interfaces_of p (lineage p c)) (interface_within b c t sub (from_flat (listed_interfaces p) t (lineage p b) i))

  slot_within : (b c s : ℕ) → ((x : ℕ) → IsIn x (lineage p b) → IsIn x (lineage p c)) → Among (own_slots p) s (types_above p b) → IsIn s (slots p c)
  slot_within b c s sub (among t i j) = in_flat (own_slots p) t s (types_above p c) (type_within b c t sub (from_joined t (lineage p b) (interfaces_of p (lineage p b)) i)) j

  -- A SLOT OF A BASE CLASS is a slot of the class
  pub slots_go_down : (c b s : ℕ) (cs : List ℕ) → Chain p c cs → IsIn b cs → IsIn s (slots p b) → IsIn s (slots p c)
  slots_go_down c b s cs k i j = slot_within b c s (lineage_within c b cs k (chain_above c b cs k i)) (from_flat (own_slots p) s (types_above p b) j)

-- 3. No slot is open

and_last : (a b c : Bool) → a ≡ true → b ≡ false → (a && not b && c) ≡ false → c ≡ false
and_last a b c e f h = grind (arith)

none_passes : (test : ℕ → Bool) (s : ℕ) (ss : List ℕ) → list_any test ss ≡ false → IsIn s ss → test s ≡ false
none_passes test s [] h i = elim i [ ]
none_passes test s (r ∷ rs) h (now _) = first (test r) (list_any test rs) h
  where
    first : (a b : Bool) → (a || b) ≡ false → a ≡ false
    first false b h = refl
    first true b h = grind (arith)
none_passes test s (r ∷ rs) h (later _ _ i) = none_passes test s rs (second (test r) (list_any test rs) h) i
  where
    second : (a b : Bool) → (a || b) ≡ false → b ≡ false
    second false b h = h
    second true b h = grind (arith)

-- of what passes a test nothing is there
kept_or_not : (f : ℕ → Refusal) (test : ℕ → Bool) (m : ℕ) (ms : List ℕ) (b : Bool) → test m ≡ b → map f (filter test (m ∷ ms)) ≡ map f (if b then m ∷ filter test ms else filter test ms)
kept_or_not f test m ms b e = ap (λ (t : Bool). map f (if t then m ∷ filter test ms else filter test ms)) e

not_empty : (r : Refusal) (rs : List Refusal) → (r ∷ rs) ≡ [] → ⊥
not_empty r rs e = grind (arith)

kept_none : (f : ℕ → Refusal) (test : ℕ → Bool) (n m : ℕ) (ms : List ℕ) (b : Bool) → test m ≡ b → map f (filter test (m ∷ ms)) ≡ [] → (map f (filter test ms) ≡ [] → IsIn n ms → test n ≡ false) → IsIn n (m ∷ ms) → test n ≡ false
kept_none f test n m ms true e h known i = absurd (not_empty (f m) (map f (filter test ms)) (sym (kept_or_not f test m ms true e) ∙ h))
kept_none f test n m ms false e h known (now _) = e
kept_none f test n m ms false e h known (later _ _ j) = known (sym (kept_or_not f test m ms false e) ∙ h) j

nothing_kept : (f : ℕ → Refusal) (test : ℕ → Bool) (n : ℕ) (ns : List ℕ) → map f (filter test ns) ≡ [] → IsIn n ns → test n ≡ false
nothing_kept f test n [] h i = elim i [ ]
nothing_kept f test n (m ∷ ms) h i = kept_none f test n m ms (test m) refl h (nothing_kept f test n ms) i

numbers_from : (k n : ℕ) (ss : List Symbol) → n < length ss → IsIn (k + n) (map number_in (enumerate_from k ss))
numbers_from k n [] h = grind (arith)
numbers_from k zero (s ∷ ss) h = subst (λ (x : ℕ). IsIn x (k ∷ map number_in (enumerate_from (k + 1) ss))) (plus_zero k) (now (map number_in (enumerate_from (k + 1) ss)))
  where
    plus_zero : (k : ℕ) → k ≡ k + 0
    plus_zero k = omega arith
numbers_from k (suc n) (s ∷ ss) h = later k (map number_in (enumerate_from (k + 1) ss)) (subst (λ (x : ℕ). IsIn x (map number_in (enumerate_from (k + 1) ss))) (plus_suc k n) (numbers_from (k + 1) n ss (omega (arith, h))))
  where
    plus_suc : (k n : ℕ) → (k + 1) + n ≡ k + suc n
    plus_suc k n = omega arith

module _ (p : Program) where
  class_is_there : (c : ℕ) (o : Option Symbol) → slice_get p.names.symbols c ≡ o → is_class p c ≡ true → c < length p.names.symbols
  class_is_there c (Some s) e h = slice_get_within p.names.symbols c s e
  class_is_there c None e h = absurd (no_class (sym (ap test e) ∙ h))
    where
      test : Option Symbol → Bool
      test None = false
      test (Some s) = is_class_kind s.kind

      no_class : false ≡ true → ⊥
      no_class q = grind (arith)

  has_body : (c s : ℕ) (o : Option ℕ) → standing_in p c s ≡ o → is_open p o ≡ false → HasBody p c s
  has_body c s None e h = grind (arith)
  has_body c s (Some m) e h = reached m (ap (λ (x : Option ℕ). and_then x (if_concrete p)) e ∙ ap (λ (b : Bool). if b then None else Some m) h)

  finished : (c s : ℕ) → list_any (λ r. is_open p (standing_in p c r)) (slots p c) ≡ false → IsIn s (slots p c) → HasBody p c s
  finished c s h i = has_body c s (standing_in p c s) refl (none_passes (λ r. is_open p (standing_in p c r)) s (slots p c) h i)

  empty_right : {X : Type 0} (xs ys : List X) → xs ++ ys ≡ [] → ys ≡ []
  empty_right [] ys h = h
  empty_right (x ∷ xs) ys h = grind (arith)

  -- WHERE NO RULE IS BROKEN each slot of a class that is not abstract has a member that is not
  pub slots_have_bodies : (c s : ℕ) → faults_in p ≡ [] → is_class p c ≡ true → is_abstract p c ≡ false → IsIn s (slots p c) → HasBody p c s
  slots_have_bodies c s h k a i =
      let none : abstract_faults p ≡ [] = empty_right (override_faults p) (abstract_faults p) (empty_right (base_faults p) (override_faults p ++ abstract_faults p) h) in
      let there : IsIn c (numbers p) = subst (λ (x : ℕ). IsIn x (numbers p)) (zero_plus c) (numbers_from 0 c p.names.symbols (class_is_there c (slice_get p.names.symbols c) refl k)) in
      let done : is_unfinished p c ≡ false = nothing_kept (λ n. fault T7 (place_of p n)) (is_unfinished p) c (numbers p) none there in
      finished c s (and_last (is_class p c) (is_abstract p c) (leaves_open p c) k a done) i
    where
      zero_plus : (c : ℕ) → 0 + c ≡ c
      zero_plus c = omega arith
