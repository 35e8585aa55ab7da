-- What moves between places: where it came from and where it goes, things stay owned.
use Rattle.std.proofs.Common.{Some, ◌≤◌, le_refl, le_trans, count_by, arith, ◌≡◌, ℕ, zero, suc, ◌+◌, Bool, true, false, cond, List, [], ◌∷◌, ◌++◌, map, flat_map, refl, sym, ap, ◌∙◌, subst, Option, None, ◌⊎◌, inl, inr, true≢false}
use Rattle.std.specs.Prelude.{◌&&◌, IsTrue, slice_get}
use Rattle.std.proofs.lemmas.Bool.{cases_eq}
use Rattle.vala_types.specs.declared.types.Shape.{Shape}
use Rattle.vala_types.specs.declared.types.Shape.TheVariants as shape
use Rattle.vala_types.specs.declared.types.VType.{VType}
use Rattle.core_tree.specs.declared.program.Core.{Core}
use Rattle.core_tree.specs.declared.lambda.CoreParameter.{CoreParameter}
use Rattle.core_tree.specs.declared.lambda.Mode.{Mode}
use Rattle.core_tree.specs.declared.lambda.Mode.TheVariants as mode
use Rattle.core_tree.specs.State
use Rattle.core_tree.specs.State.{Value, Null, Place, Operand, Owned, OwnedCells, ThingState, Code, Method, Delegate, Thing}
use Rattle.core_tree.specs.Owners.{owns, owned_by, is_thing}
use Rattle.core_tree.specs.Places.{zero_of, empty_place, empty_places, is_owning, cells_of, held, held_in, owning_in, put_in, ownable, cannot_be_owned, is_owning_place, range}
use Rattle.core_tree.specs.Calls.{Filling, part_at, parts_of, with_left, left_by, filled, emptied_in, Arranged, arrange, with_parameter, cells_before}
use Rattle.core_tree.specs.Changes.{copied_cells}
use Rattle.core_tree.specs.Storing.{exchange_in, exchanged_in, same_owning, zeroed_in, cells_taken}
use Rattle.core_tree.specs.Operations.{within_thing}
use Rattle.core_tree.proofs.Counts.{In, in-append, count-cons, count-append}
use Rattle.core_tree.proofs.Owned

no : IsTrue false → ⊥
no e = true≢false (sym e)

-- Empty places

zero_owns : (sh : Shape) → owned_by (zero_of sh) ≡ None
zero_owns shape.Bool = refl
zero_owns sh = refl

not_owned : (t : ℕ) (p : Place) → owned_by p.holds ≡ None → IsTrue (owns t p) → ⊥
not_owned t p e h = no (subst (λ o. IsTrue (is_thing t o)) e (Owned.and_right p.owning (is_thing t (owned_by p.holds)) h))

pub fills_nothing : (xs : List ThingState) (p : Place) → owned_by p.holds ≡ None → Owned.Fills xs p
fills_nothing xs p e = record { by = λ t h. absurd (not_owned t p e h) }

takes_empty : (xs : List ThingState) (within : Option ℕ) (kinds : List VType) → Owned.Takes xs (map (empty_place within) kinds)
takes_empty xs within [] = Owned.takes_nil xs
takes_empty xs within (kind ∷ kinds) = Owned.takes_item xs (empty_place within kind) (map (empty_place within) kinds) (fills_nothing xs (empty_place within kind) (zero_owns kind.shape)) (takes_empty xs within kinds)

pub takes_empty_places : (xs : List ThingState) (core : Core) (within : Option ℕ) (kinds : List VType) → Owned.Takes xs (empty_places core within kinds)
takes_empty_places xs core within kinds = takes_empty xs within (flat_map (cells_of core) kinds)

owns_not : (t : ℕ) (p : Place) → p.owning ≡ false → IsTrue (owns t p) → ⊥
owns_not t p e h = no (sym (sym (Owned.and_left p.owning (is_thing t (owned_by p.holds)) h) ∙ e))

pub fills_unowning : (xs : List ThingState) (p : Place) → p.owning ≡ false → Owned.Fills xs p
fills_unowning xs p e = record { by = λ t h. absurd (owns_not t p e h) }

copied_cell : (xs : List ThingState) (v : Value) (b : Bool) → Owned.Fills xs (record { owning = b; holds = cond b Null v; within = None })
copied_cell xs v true = fills_nothing xs _ refl
copied_cell xs v false = fills_unowning xs _ refl

pub takes_copied_cells : (xs : List ThingState) (s : State.State) (kinds : List VType) (n : ℕ) → Owned.Takes xs (copied_cells s kinds n)
takes_copied_cells xs s [] n = Owned.takes_nil xs
takes_copied_cells xs s (kind ∷ kinds) n = Owned.takes_item xs _ (copied_cells s kinds (suc n)) (copied_cell xs (held s n) (is_owning kind)) (takes_copied_cells xs s kinds (suc n))

-- Places that are filled

pub owning-put : (ps : List Place) (n m : ℕ) (v : Value) → owning_in (slice_get (put_in ps n v) m) ≡ owning_in (slice_get ps m)
owning-put [] n m v = refl
owning-put (p ∷ ps) zero zero v = refl
owning-put (p ∷ ps) zero (suc m) v = refl
owning-put (p ∷ ps) (suc n) zero v = refl
owning-put (p ∷ ps) (suc n) (suc m) v = owning-put ps n m v

pub owning-more : (ps qs : List Place) (n : ℕ) → owning_in (slice_get ps n) ≡ true → owning_in (slice_get (ps ++ qs) n) ≡ true
owning-more [] qs n e = absurd (true≢false (sym e))
owning-more (p ∷ ps) qs zero e = e
owning-more (p ∷ ps) qs (suc n) e = owning-more ps qs n e

owns-put_other : (t : ℕ) (ps : List Place) (n m : ℕ) (v : Value) → (m ≡ n → ⊥) → Owned.owns_in t (slice_get (put_in ps n v) m) ≡ Owned.owns_in t (slice_get ps m)
owns-put_other t [] n m v d = refl
owns-put_other t (p ∷ ps) zero zero v d = absurd (d refl)
owns-put_other t (p ∷ ps) zero (suc m) v d = refl
owns-put_other t (p ∷ ps) (suc n) zero v d = refl
owns-put_other t (p ∷ ps) (suc n) (suc m) v d = owns-put_other t ps n m v (λ e. d (ap suc e))

owns-put_same : (t : ℕ) (ps : List Place) (n : ℕ) (v : Value) → Owned.owns_in t (slice_get (put_in ps n v) n) ≡ (owning_in (slice_get ps n) && is_thing t (owned_by v))
owns-put_same t [] n v = refl
owns-put_same t (p ∷ ps) zero v = refl
owns-put_same t (p ∷ ps) (suc n) v = owns-put_same t ps n v

-- a place that became null owned before what it owns now
owns-put_null : (t : ℕ) (ps : List Place) (n m : ℕ) (v : Value) → owned_by v ≡ None → IsTrue (Owned.owns_in t (slice_get (put_in ps n v) m)) → IsTrue (Owned.owns_in t (slice_get ps m))
owns-put_null t [] n m v e h = absurd (no h)
owns-put_null t (p ∷ ps) zero zero v e h = absurd (not_owned t (record p { holds = v }) e h)
owns-put_null t (p ∷ ps) zero (suc m) v e h = h
owns-put_null t (p ∷ ps) (suc n) zero v e h = h
owns-put_null t (p ∷ ps) (suc n) (suc m) v e h = owns-put_null t ps n m v e h

own-put_null : (t n : ℕ) (ps : List Place) (v : Value) → owned_by v ≡ None → Owned.Own t (put_in ps n v) → Owned.Own t ps
own-put_null t n ps v e h = elim (Owned.own-put_from t n ps v h) [ inl a ↦ a | inr b ↦ absurd (no (subst (λ o. IsTrue (is_thing t o)) e (Owned.and_right (owning_in (slice_get ps n)) (is_thing t (owned_by v)) b))) ]

-- what a place owns it holds
held_owned : (t n : ℕ) (ps : List Place) → IsTrue (Owned.owns_in t (slice_get ps n)) → IsTrue (is_thing t (owned_by (held_in (slice_get ps n))))
held_owned t n ps h = Owned.and_right (owning_in (slice_get ps n)) (is_thing t (owned_by (held_in (slice_get ps n)))) (subst IsTrue (Owned.owns_by t (slice_get ps n)) h)

owning_owns : (t n : ℕ) (ps : List Place) → IsTrue (Owned.owns_in t (slice_get ps n)) → IsTrue (owning_in (slice_get ps n))
owning_owns t n ps h = Owned.and_left (owning_in (slice_get ps n)) (is_thing t (owned_by (held_in (slice_get ps n)))) (subst IsTrue (Owned.owns_by t (slice_get ps n)) h)

-- what lives is owned where it goes
carried_if : (s : State.State) (n t : ℕ) (b : Bool) → Owned.owns_in t (slice_get s.places n) ≡ b → ((u : ℕ) → Owned.Own u s.places → Owned.IsLive s.things u) → Owned.bit b ≤ Owned.bit (is_thing t (owned_by (ownable s (held s n))))
carried_if s n t false e h = omega arith
carried_if s n t true e h = (let a = ap Owned.bit (Owned.ownable_kept s (held s n) t (h t (Owned.own-at t n s.places e)) (held_owned t n s.places e)) in omega arith)

bit-carried : (s : State.State) (n t : ℕ) → ((u : ℕ) → Owned.Own u s.places → Owned.IsLive s.things u) → Owned.bit (Owned.owns_in t (slice_get s.places n)) ≤ Owned.bit (is_thing t (owned_by (ownable s (held s n))))
bit-carried s n t h = carried_if s n t (Owned.owns_in t (slice_get s.places n)) refl h

pub count-put_null : (t : ℕ) (ps : List Place) (n : ℕ) (v : Value) → owned_by v ≡ None → count_by (owns t) (put_in ps n v) + Owned.bit (Owned.owns_in t (slice_get ps n)) ≡ count_by (owns t) ps
count-put_null t ps n v e = (let a = Owned.count-put t ps n v in let b = ap (λ o. Owned.bit (owning_in (slice_get ps n) && is_thing t o)) e in let c = Owned.bit_none (owning_in (slice_get ps n)) in omega arith)

bit-put_null : (t : ℕ) (ps : List Place) (n m : ℕ) (v : Value) → owned_by v ≡ None → Owned.bit (Owned.owns_in t (slice_get (put_in ps n v) m)) ≤ Owned.bit (Owned.owns_in t (slice_get ps m))
bit-put_null t [] n m v e = omega arith
bit-put_null t (p ∷ ps) zero zero v e = (let a = ap (λ o. Owned.bit (p.owning && is_thing t o)) e in let b = Owned.bit_none p.owning in omega arith)
bit-put_null t (p ∷ ps) zero (suc m) v e = le_refl _
bit-put_null t (p ∷ ps) (suc n) zero v e = le_refl _
bit-put_null t (p ∷ ps) (suc n) (suc m) v e = bit-put_null t ps n m v e

-- a place becomes null, and what it held goes into a new one
pub carries_carried : (s : State.State) (n : ℕ) → Owned.Carries None s.things s.places (put_in s.places n Null ++ record { owning = true; holds = ownable s (held s n); within = None } ∷ [])
carries_carried s n =
    let p : Place = record { owning = true; holds = ownable s (held s n); within = None } in
    record {
      to = λ t l o.
          elim (Owned.own-put_to t n s.places Null o) [
            | inl a ↦ inl (Owned.own-left t (put_in s.places n Null) (p ∷ []) a)
            | inr b ↦ inl (Owned.own-right t (put_in s.places n Null) (p ∷ []) (inl (Owned.ownable_kept s (held s n) t l (held_owned t n s.places b))))
          ];
      from = λ t o.
          elim (Owned.own-split t (put_in s.places n Null) (p ∷ []) o) [
            | inl a ↦ inl (own-put_null t n s.places Null refl a)
            | inr b ↦ elim b [ inl c ↦ inr (Owned.ownable_lives s (held s n) t c) | inr z ↦ absurd z ]
          ];
      counts = λ l t. (let a = count-put_null t s.places n Null refl in let b = count-append (owns t) (put_in s.places n Null) (p ∷ []) in let c = count-cons (owns t) p [] in let d = bit-carried s n t l in omega arith);
    }

-- A place gets what leaves another, and what it held is given up.
pub carries_stored : (s : State.State) (n m : ℕ) → is_owning_place s n ≡ true → Owned.Carries (owned_by (held s n)) s.things s.places (put_in (put_in s.places m Null) n (ownable s (held s m)))
carries_stored s n m e =
    let ps = put_in s.places m Null in
    let x : Value = ownable s (held s m) in
    record {
      to = λ t l o.
          elim (Owned.own-put_to t m s.places Null o) [
            | inl a ↦ elim (Owned.own-put_to t n ps x a) [ inl b ↦ inl b | inr b ↦ inr (held_owned t n s.places (owns-put_null t s.places m n Null refl b)) ]
            | inr b ↦ inl (Owned.own-put_new t n ps x (Owned.and_both (owning_in (slice_get ps n)) (is_thing t (owned_by x)) (owning-put s.places m n Null ∙ e) (Owned.ownable_kept s (held s m) t l (held_owned t m s.places b))))
          ];
      from = λ t o.
          elim (Owned.own-put_from t n ps x o) [
            | inl a ↦ inl (own-put_null t m s.places Null refl a)
            | inr b ↦ inr (Owned.ownable_lives s (held s m) t (Owned.and_right (owning_in (slice_get ps n)) (is_thing t (owned_by x)) b))
          ];
      counts = λ l t. (let a = count-put_null t s.places m Null refl in let b = Owned.count-put t ps n x in let c = ap (λ y. Owned.bit (y && is_thing t (owned_by x))) (owning-put s.places m n Null ∙ e) in let d = bit-carried s m t l in let f = bit-put_null t s.places m n Null refl in let g = Owned.count_held t s.places n in omega arith);
    }

-- a place gets what can be owned, and what it held is given up
pub carries_owned : (s : State.State) (n : ℕ) (v : Value) → Owned.Carries (owned_by (held s n)) s.things s.places (put_in s.places n (ownable s v))
carries_owned s n v = Owned.carries_fill s.things s.places n (ownable s v) (λ t h. Owned.ownable_lives s v t h)

-- Lists of places that become null, and what is filled with what they held

own-emptied_to : (t : ℕ) (ns : List ℕ) (ps : List Place) → Owned.Own t ps → Owned.Own t (emptied_in ps ns) ⊎ ((n : ℕ) × In n ns × IsTrue (Owned.owns_in t (slice_get ps n)))
own-emptied_to t [] ps h = inl h
own-emptied_to t (n ∷ ns) ps h =
    elim (Owned.own-put_to t n ps Null h) [
      | inl a ↦ elim (own-emptied_to t ns (put_in ps n Null) a) [ inl b ↦ inl b | inr b ↦ inr (b.0, inr b.1, owns-put_null t ps n b.0 Null refl b.2) ]
      | inr b ↦ inr (n, inl refl, b)
    ]

own-emptied_from : (t : ℕ) (ns : List ℕ) (ps : List Place) → Owned.Own t (emptied_in ps ns) → Owned.Own t ps
own-emptied_from t [] ps h = h
own-emptied_from t (n ∷ ns) ps h = own-put_null t n ps Null refl (own-emptied_from t ns (put_in ps n Null) h)

-- how many of these places own the thing
abbrev pub lost : ℕ → List Place → List ℕ → ℕ
lost t ps [] = 0
lost t ps (n ∷ ns) = Owned.bit (Owned.owns_in t (slice_get ps n)) + lost t ps ns

lost-append : (t : ℕ) (ps : List Place) (ns ms : List ℕ) → lost t ps (ns ++ ms) ≡ lost t ps ns + lost t ps ms
lost-append t ps [] ms = omega arith
lost-append t ps (n ∷ ns) ms = (let a = lost-append t ps ns ms in omega arith)

lost_null : (t : ℕ) (ps : List Place) (n : ℕ) (ns : List ℕ) → lost t (put_in ps n Null) ns ≤ lost t ps ns
lost_null t ps n [] = omega arith
lost_null t ps n (m ∷ ns) = (let a = bit-put_null t ps n m Null refl in let b = lost_null t ps n ns in omega arith)

emptied-count : (t : ℕ) (ps : List Place) (ns : List ℕ) → count_by (owns t) ps ≤ count_by (owns t) (emptied_in ps ns) + lost t ps ns
emptied-count t ps [] = omega arith
emptied-count t ps (n ∷ ns) = (let a = count-put_null t ps n Null refl in let b = emptied-count t (put_in ps n Null) ns in let c = lost_null t ps n ns in omega arith)

-- what lives and was in these places is in those
pub record Lands (s : State.State) (ns : List ℕ) (qs : List Place) : Type 0 where
  pub takes : Owned.Takes s.things qs
  pub moved : (n t : ℕ) → In n ns → Owned.IsLive s.things t → IsTrue (Owned.owns_in t (slice_get s.places n)) → Owned.Own t qs
  pub counts : ((t : ℕ) → Owned.Own t s.places → Owned.IsLive s.things t) → (t : ℕ) → lost t s.places ns ≤ count_by (owns t) qs

pub carries_moved : (s : State.State) (ns : List ℕ) (qs : List Place) → Lands s ns qs → Owned.Carries None s.things s.places (emptied_in s.places ns ++ qs)
carries_moved s ns qs h =
    record {
      to = λ t l o. elim (own-emptied_to t ns s.places o) [ inl a ↦ inl (Owned.own-left t (emptied_in s.places ns) qs a) | inr b ↦ inl (Owned.own-right t (emptied_in s.places ns) qs (h.moved b.0 t b.1 l b.2)) ];
      from = λ t o. elim (Owned.own-split t (emptied_in s.places ns) qs o) [ inl a ↦ inl (own-emptied_from t ns s.places a) | inr b ↦ inr (h.takes.by t b) ];
      counts = λ l t. (let a = emptied-count t s.places ns in let b = h.counts l t in let c = count-append (owns t) (emptied_in s.places ns) qs in omega arith);
    }

pub lands_nothing : (s : State.State) → Lands s [] []
lands_nothing s = record { takes = Owned.takes_nil s.things; moved = λ n t i. absurd i; counts = λ h t. omega arith }

pub lands_append : (s : State.State) (ns ms : List ℕ) (qs rs : List Place) → Lands s ns qs → Lands s ms rs → Lands s (ns ++ ms) (qs ++ rs)
lands_append s ns ms qs rs h k =
    record {
      takes = Owned.takes_append s.things qs rs h.takes k.takes;
      moved = λ n t i l o. elim (in-append n ns ms i) [ inl a ↦ Owned.own-left t qs rs (h.moved n t a l o) | inr b ↦ Owned.own-right t qs rs (k.moved n t b l o) ];
      counts = λ l t. (let a = h.counts l t in let b = k.counts l t in let c = lost-append t s.places ns ms in let d = count-append (owns t) qs rs in omega arith);
    }

pub lands_more : (s : State.State) (ns : List ℕ) (qs rs : List Place) → Lands s ns qs → Owned.Takes s.things rs → Lands s ns (qs ++ rs)
lands_more s ns qs rs h k = record { takes = Owned.takes_append s.things qs rs h.takes k; moved = λ n t i l o. Owned.own-left t qs rs (h.moved n t i l o); counts = λ l t. (let a = h.counts l t in let b = count-append (owns t) qs rs in omega arith) }

-- what stands in the temporary is the value, of each
abbrev pub stands_in : State.State → Value → Option ℕ → Type 0
stands_in s v None = Unit {0}
stands_in s v (Some n) = held s n ≡ v

abbrev pub Stand : State.State → List Filling → Type 0
Stand s [] = Unit {0}
Stand s (p ∷ ps) = stands_in s p.value p.left × Stand s ps

pub stand_at : (s : State.State) (ms : List ℕ) → Stand s (map (part_at s) ms)
stand_at s [] = tt
stand_at s (m ∷ ms) = (refl, stand_at s ms)

pub stand_append : (s : State.State) (ps qs : List Filling) → Stand s ps → Stand s qs → Stand s (ps ++ qs)
stand_append s [] qs h k = k
stand_append s (p ∷ ps) qs h k = (h.0, stand_append s ps qs h.1 k)

pub stand_of : (s : State.State) (o : Operand) → Stand s (parts_of s o)
stand_of s (Owned n) = (refl, tt)
stand_of s (OwnedCells first count) = stand_at s (range first count)
stand_of s o = (tt, tt)

pub stand_all : (s : State.State) (os : List Operand) → Stand s (flat_map (parts_of s) os)
stand_all s [] = tt
stand_all s (o ∷ os) = stand_append s (parts_of s o) (flat_map (parts_of s) os) (stand_of s o) (stand_all s os)

-- cells get what fills them
fills_cell : (s : State.State) (v : Value) (b : Bool) → Owned.Fills s.things (record { owning = b; holds = cond b (ownable s v) v; within = None })
fills_cell s v true = Owned.fills_ownable s v None
fills_cell s v false = fills_unowning s.things _ refl

lands_cell : (s : State.State) (v : Value) (left : Option ℕ) (ns : List ℕ) (qs : List Place) (b : Bool) → stands_in s v left → Lands s ns qs → Lands s (cond b (with_left left ns) ns) (record { owning = b; holds = cond b (ownable s v) v; within = None } ∷ qs)
lands_cell s v None ns qs true h k = record { takes = Owned.takes_item s.things _ qs (fills_cell s v true) k.takes; moved = λ n t i l o. inr (k.moved n t i l o); counts = λ l t. (let a = k.counts l t in let b = count-cons (owns t) (record { owning = true; holds = ownable s v; within = None }) qs in omega arith) }
lands_cell s v (Some m) ns qs true h k =
    record {
      takes = Owned.takes_item s.things _ qs (fills_cell s v true) k.takes;
      moved = λ n t i l o.
          elim i [
            | inl e ↦ inl (Owned.ownable_kept s v t l (subst (λ x. IsTrue (is_thing t (owned_by x))) (sym (ap (held s) e) ∙ h) (held_owned t n s.places o)))
            | inr j ↦ inr (k.moved n t j l o)
          ];
      counts = λ l t. (let a = k.counts l t in let b = count-cons (owns t) (record { owning = true; holds = ownable s v; within = None }) qs in let c = bit-carried s m t l in let d = ap (λ x. Owned.bit (is_thing t (owned_by (ownable s x)))) h in omega arith);
    }
lands_cell s v left ns qs false h k = record { takes = Owned.takes_item s.things _ qs (fills_cell s v false) k.takes; moved = λ n t i l o. inr (k.moved n t i l o); counts = λ l t. (let a = k.counts l t in let b = count-cons (owns t) (record { owning = false; holds = v; within = None }) qs in omega arith) }

pub lands_filled : (s : State.State) (kinds : List VType) (ps : List Filling) → Stand s ps → Lands s (left_by kinds ps) (filled s kinds ps)
lands_filled s [] ps h = lands_nothing s
lands_filled s (kind ∷ kinds) [] h = record { takes = Owned.takes_item s.things (empty_place None kind) (filled s kinds []) (fills_nothing s.things (empty_place None kind) (zero_owns kind.shape)) (lands_filled s kinds [] tt).takes; moved = λ n t i. absurd i; counts = λ l t. omega arith }
lands_filled s (kind ∷ kinds) (p ∷ ps) h = lands_cell s p.value p.left (left_by kinds ps) (filled s kinds ps) (is_owning kind) h.0 (lands_filled s kinds ps h.1)

own-within : (t u : ℕ) (ps : List Place) → Owned.Own t (within_thing u ps) → Owned.Own t ps
own-within t u [] h = h
own-within t u (p ∷ ps) (inl h) = inl h
own-within t u (p ∷ ps) (inr h) = inr (own-within t u ps h)

within-own : (t u : ℕ) (ps : List Place) → Owned.Own t ps → Owned.Own t (within_thing u ps)
within-own t u [] h = h
within-own t u (p ∷ ps) (inl h) = inl h
within-own t u (p ∷ ps) (inr h) = inr (within-own t u ps h)

within-count : (t u : ℕ) (ps : List Place) → count_by (owns t) (within_thing u ps) ≡ count_by (owns t) ps
within-count t u [] = refl
within-count t u (p ∷ ps) = (let a = count-cons (owns t) p ps in let b = count-cons (owns t) (record p { within = Some u }) (within_thing u ps) in let c = within-count t u ps in omega arith)

pub lands_within : (s : State.State) (u : ℕ) (ns : List ℕ) (qs : List Place) → Lands s ns qs → Lands s ns (within_thing u qs)
lands_within s u ns qs h = record { takes = record { by = λ t o. h.takes.by t (own-within t u qs o) }; moved = λ n t i l o. within-own t u qs (h.moved n t i l o); counts = λ l t. (let a = h.counts l t in let b = within-count t u qs in omega arith) }

-- Arguments

lands_parameter : (core : Core) (s : State.State) (n : ℕ) (p : CoreParameter) (m : Mode) (o : Operand) (rest : Arranged) → Lands s rest.left rest.places → Lands s (with_parameter core s n p m o rest).left (with_parameter core s n p m o rest).places
lands_parameter core s n p mode.Value o rest h = lands_append s (left_by (cells_of core p.kind) (parts_of s o)) rest.left (filled s (cells_of core p.kind) (parts_of s o)) rest.places (lands_filled s (cells_of core p.kind) (parts_of s o) (stand_of s o)) h
lands_parameter core s n p mode.Ref o rest h = h
lands_parameter core s n p mode.Out o rest h = h

pub lands_arranged : (core : Core) (s : State.State) (n : ℕ) (ps : List CoreParameter) (os : List Operand) → Lands s (arrange core s n ps os).left (arrange core s n ps os).places
lands_arranged core s n [] os = lands_nothing s
lands_arranged core s n (p ∷ ps) [] = lands_nothing s
lands_arranged core s n (p ∷ ps) (o ∷ os) = lands_parameter core s n p p.mode o (arrange core s (n + cells_before core p p.mode) ps os) (lands_arranged core s (n + cells_before core p p.mode) ps os)

-- Structs

both_own : (a b : Bool) → same_owning a b ≡ true → IsTrue a → IsTrue b
both_own true b e h = e
both_own false b e h = absurd (no h)

both_back : (a b : Bool) → same_owning a b ≡ true → IsTrue b → IsTrue a
both_back true b e h = refl
both_back false true e h = absurd (true≢false (sym e))
both_back false false e h = h

module _ (s : State.State) (ps : List Place) (n m : ℕ) (e : same_owning (owning_in (slice_get ps n)) (owning_in (slice_get ps m)) ≡ true) where
  exchange_to : (t : ℕ) → Owned.Own t ps → Owned.Own t (put_in (put_in ps n (held_in (slice_get ps m))) m (held_in (slice_get ps n)))
  exchange_to t o =
      let vm : Value = held_in (slice_get ps m) in
      let vn : Value = held_in (slice_get ps n) in
      let qs = put_in ps n vm in
      elim (Owned.own-put_to t n ps vm o) [
        | inl a ↦ elim (Owned.own-put_to t m qs vn a) [
          | inl b ↦ b
          | inr b ↦ elim (cases_eq m n) [
            | inl same ↦
                let owning = owning_owns t m qs b in
                let value = subst (λ k. IsTrue (is_thing t (owned_by (held_in (slice_get ps k))))) same (Owned.and_right (owning_in (slice_get ps n)) (is_thing t (owned_by vm)) (subst IsTrue (owns-put_same t ps n vm) (subst (λ k. IsTrue (Owned.owns_in t (slice_get qs k))) same b))) in
                Owned.own-put_new t m qs vn (Owned.and_both (owning_in (slice_get qs m)) (is_thing t (owned_by vn)) owning value)
            | inr other ↦
                let was = subst IsTrue (owns-put_other t ps n m vm other) b in
                let owning = both_back (owning_in (slice_get ps n)) (owning_in (slice_get ps m)) e (owning_owns t m ps was) in
                let now = subst IsTrue (sym (owns-put_same t ps n vm)) (Owned.and_both (owning_in (slice_get ps n)) (is_thing t (owned_by vm)) owning (held_owned t m ps was)) in
                Owned.own-at t n (put_in qs m vn) (subst IsTrue (sym (owns-put_other t qs m n vn (λ q. other (sym q)))) now)
          ]
        ]
        | inr b ↦
            let owning = both_own (owning_in (slice_get ps n)) (owning_in (slice_get ps m)) e (owning_owns t n ps b) in
            Owned.own-put_new t m qs vn (Owned.and_both (owning_in (slice_get qs m)) (is_thing t (owned_by vn)) (owning-put ps n m vm ∙ owning) (held_owned t n ps b))
      ]

  exchange_from : (t : ℕ) → Owned.Own t (put_in (put_in ps n (held_in (slice_get ps m))) m (held_in (slice_get ps n))) → Owned.Own t ps
  exchange_from t o =
      let vm : Value = held_in (slice_get ps m) in
      let vn : Value = held_in (slice_get ps n) in
      let qs = put_in ps n vm in
      elim (Owned.own-put_from t m qs vn o) [
        | inl a ↦ elim (Owned.own-put_from t n ps vm a) [
          | inl b ↦ b
          | inr b ↦ Owned.own-at t m ps (subst IsTrue (sym (Owned.owns_by t (slice_get ps m))) (Owned.and_both (owning_in (slice_get ps m)) (is_thing t (owned_by vm)) (both_own (owning_in (slice_get ps n)) (owning_in (slice_get ps m)) e (Owned.and_left (owning_in (slice_get ps n)) (is_thing t (owned_by vm)) b)) (Owned.and_right (owning_in (slice_get ps n)) (is_thing t (owned_by vm)) b)))
        ]
        | inr b ↦ Owned.own-at t n ps (subst IsTrue (sym (Owned.owns_by t (slice_get ps n))) (Owned.and_both (owning_in (slice_get ps n)) (is_thing t (owned_by vn)) (both_back (owning_in (slice_get ps n)) (owning_in (slice_get ps m)) e (sym (owning-put ps n m vm) ∙ Owned.and_left (owning_in (slice_get qs m)) (is_thing t (owned_by vn)) b)) (Owned.and_right (owning_in (slice_get qs m)) (is_thing t (owned_by vn)) b)))
      ]

same_is : (a b : Bool) → same_owning a b ≡ true → a ≡ b
same_is true true e = refl
same_is true false e = absurd (true≢false (sym e))
same_is false true e = absurd (true≢false (sym e))
same_is false false e = refl

exchange-count : (t : ℕ) (ps : List Place) (n m : ℕ) → same_owning (owning_in (slice_get ps n)) (owning_in (slice_get ps m)) ≡ true → count_by (owns t) (put_in (put_in ps n (held_in (slice_get ps m))) m (held_in (slice_get ps n))) ≡ count_by (owns t) ps
exchange-count t ps n m e =
    let vm : Value = held_in (slice_get ps m) in
    let vn : Value = held_in (slice_get ps n) in
    let qs = put_in ps n vm in
    let same = same_is (owning_in (slice_get ps n)) (owning_in (slice_get ps m)) e in
    let a = Owned.count-put t ps n vm in
    let b = Owned.count-put t qs m vn in
    let an = ap Owned.bit (Owned.owns_by t (slice_get ps n)) in
    let bm = ap (λ x. Owned.bit (x && is_thing t (owned_by vn))) (owning-put ps n m vm) in
    let flags = ap (λ x. Owned.bit (x && is_thing t (owned_by vn))) same in
    elim (cases_eq m n) [
      | inl q ↦
          let c = ap (λ k. Owned.bit (Owned.owns_in t (slice_get qs k))) q ∙ ap Owned.bit (owns-put_same t ps n vm) in
          let d : Owned.bit (owning_in (slice_get ps n) && is_thing t (owned_by vm)) ≡ Owned.bit (owning_in (slice_get ps n) && is_thing t (owned_by vn)) = ap (λ k. Owned.bit (owning_in (slice_get ps n) && is_thing t (owned_by (held_in (slice_get ps k))))) q in
          omega arith
      | inr d ↦
          let c = ap Owned.bit (owns-put_other t ps n m vm d) ∙ ap Owned.bit (Owned.owns_by t (slice_get ps m)) in
          let f = ap (λ x. Owned.bit (x && is_thing t (owned_by vm))) same in
          omega arith
    ]

exchange-count_if : (t : ℕ) (ps : List Place) (n m : ℕ) (b : Bool) → same_owning (owning_in (slice_get ps n)) (owning_in (slice_get ps m)) ≡ b → count_by (owns t) (cond b (put_in (put_in ps n (held_in (slice_get ps m))) m (held_in (slice_get ps n))) ps) ≡ count_by (owns t) ps
exchange-count_if t ps n m true e = exchange-count t ps n m e
exchange-count_if t ps n m false e = refl

exchanged-count : (t : ℕ) (ns ms : List ℕ) (ps : List Place) → count_by (owns t) (exchanged_in ps ns ms) ≡ count_by (owns t) ps
exchanged-count t [] ms ps = refl
exchanged-count t (n ∷ ns) [] ps = refl
exchanged-count t (n ∷ ns) (m ∷ ms) ps = exchanged-count t ns ms (exchange_in ps n m) ∙ exchange-count_if t ps n m (same_owning (owning_in (slice_get ps n)) (owning_in (slice_get ps m))) refl

exchange_if : (s : State.State) (ps : List Place) (n m : ℕ) (b : Bool) → same_owning (owning_in (slice_get ps n)) (owning_in (slice_get ps m)) ≡ b → (t : ℕ)
    → (Owned.Own t ps → Owned.Own t (cond b (put_in (put_in ps n (held_in (slice_get ps m))) m (held_in (slice_get ps n))) ps)) × (Owned.Own t (cond b (put_in (put_in ps n (held_in (slice_get ps m))) m (held_in (slice_get ps n))) ps) → Owned.Own t ps)
exchange_if s ps n m true e t = (exchange_to s ps n m e t, exchange_from s ps n m e t)
exchange_if s ps n m false e t = (λ o. o, λ o. o)

exchanged-own : (s : State.State) (ns ms : List ℕ) (ps : List Place) (t : ℕ) → (Owned.Own t ps → Owned.Own t (exchanged_in ps ns ms)) × (Owned.Own t (exchanged_in ps ns ms) → Owned.Own t ps)
exchanged-own s [] ms ps t = (λ o. o, λ o. o)
exchanged-own s (n ∷ ns) [] ps t = (λ o. o, λ o. o)
exchanged-own s (n ∷ ns) (m ∷ ms) ps t =
    let one = exchange_if s ps n m (same_owning (owning_in (slice_get ps n)) (owning_in (slice_get ps m))) refl t in
    let more = exchanged-own s ns ms (exchange_in ps n m) t in
    (λ o. more.0 (one.0 o), λ o. one.1 (more.1 o))

pub carries_exchanged : (s : State.State) (ns ms : List ℕ) → Owned.Carries None s.things s.places (exchanged_in s.places ns ms)
carries_exchanged s ns ms = record { to = λ t l o. inl ((exchanged-own s ns ms s.places t).0 o); from = λ t o. inl ((exchanged-own s ns ms s.places t).1 o); counts = λ l t. (let a = exchanged-count t ns ms s.places in omega arith) }

-- cells that are taken

own-zeroed_to : (s : State.State) (t : ℕ) (kinds : List VType) (n : ℕ) (ps : List Place) → ((m : ℕ) → IsTrue (Owned.owns_in t (slice_get ps m)) → IsTrue (Owned.owns_in t (slice_get s.places m))) → Owned.Own t ps → Owned.Own t (zeroed_in ps kinds n ++ cells_taken s kinds n)
own-zeroed_to s t [] n ps f h = Owned.own-left t ps [] h
own-zeroed_to s t (kind ∷ kinds) n ps f h =
    let qs = put_in ps n (zero_of kind.shape) in
    let p : Place = record { owning = is_owning_place s n; holds = held s n; within = None } in
    elim (Owned.own-put_to t n ps (zero_of kind.shape) h) [
      | inl a ↦
          elim (Owned.own-split t (zeroed_in qs kinds (suc n)) (cells_taken s kinds (suc n)) (own-zeroed_to s t kinds (suc n) qs (λ m o. f m (owns-put_null t ps n m (zero_of kind.shape) (zero_owns kind.shape) o)) a)) [
            | inl b ↦ Owned.own-left t (zeroed_in qs kinds (suc n)) (p ∷ cells_taken s kinds (suc n)) b
            | inr b ↦ Owned.own-right t (zeroed_in qs kinds (suc n)) (p ∷ cells_taken s kinds (suc n)) (inr b)
          ]
      | inr b ↦ Owned.own-right t (zeroed_in qs kinds (suc n)) (p ∷ cells_taken s kinds (suc n)) (inl (subst IsTrue (Owned.owns_by t (slice_get s.places n)) (f n b)))
    ]

own-zeroed_from : (t : ℕ) (kinds : List VType) (n : ℕ) (ps : List Place) → Owned.Own t (zeroed_in ps kinds n) → Owned.Own t ps
own-zeroed_from t [] n ps h = h
own-zeroed_from t (kind ∷ kinds) n ps h = own-put_null t n ps (zero_of kind.shape) (zero_owns kind.shape) (own-zeroed_from t kinds (suc n) (put_in ps n (zero_of kind.shape)) h)

own-taken : (s : State.State) (t : ℕ) (kinds : List VType) (n : ℕ) → Owned.Own t (cells_taken s kinds n) → Owned.Own t s.places
own-taken s t [] n h = absurd h
own-taken s t (kind ∷ kinds) n (inl h) = Owned.own-at t n s.places (subst IsTrue (sym (Owned.owns_by t (slice_get s.places n))) h)
own-taken s t (kind ∷ kinds) n (inr h) = own-taken s t kinds (suc n) h

zeroed-count : (s : State.State) (t : ℕ) (kinds : List VType) (n : ℕ) (ps : List Place) → ((m : ℕ) → Owned.bit (Owned.owns_in t (slice_get ps m)) ≤ Owned.bit (Owned.owns_in t (slice_get s.places m))) → count_by (owns t) ps ≤ count_by (owns t) (zeroed_in ps kinds n) + count_by (owns t) (cells_taken s kinds n)
zeroed-count s t [] n ps h = omega arith
zeroed-count s t (kind ∷ kinds) n ps h =
    let qs = put_in ps n (zero_of kind.shape) in
    let p : Place = record { owning = is_owning_place s n; holds = held s n; within = None } in
    let a = count-put_null t ps n (zero_of kind.shape) (zero_owns kind.shape) in
    let b = zeroed-count s t kinds (suc n) qs (λ m. le_trans (bit-put_null t ps n m (zero_of kind.shape) (zero_owns kind.shape)) (h m)) in
    let c = count-cons (owns t) p (cells_taken s kinds (suc n)) in
    let d = ap Owned.bit (Owned.owns_by t (slice_get s.places n)) in
    let f = h n in
    omega arith

pub carries_taken : (s : State.State) (kinds : List VType) (n : ℕ) → Owned.Carries None s.things s.places (zeroed_in s.places kinds n ++ cells_taken s kinds n)
carries_taken s kinds n =
    record {
      to = λ t l o. inl (own-zeroed_to s t kinds n s.places (λ m h. h) o);
      from = λ t o. elim (Owned.own-split t (zeroed_in s.places kinds n) (cells_taken s kinds n) o) [ inl a ↦ inl (own-zeroed_from t kinds n s.places a) | inr b ↦ inl (own-taken s t kinds n b) ];
      counts = λ l t. (let a = zeroed-count s t kinds n s.places (λ m. le_refl (Owned.bit (Owned.owns_in t (slice_get s.places m)))) in let b = count-append (owns t) (zeroed_in s.places kinds n) (cells_taken s kinds n) in omega arith);
    }

-- a delegate to a method owns its receiver
pub fills_method : (s : State.State) (m : ℕ) (v : Value) (within : Option ℕ) → cannot_be_owned s v ≡ false → Owned.Fills s.things (record { owning = true; holds = Delegate (Method m) v; within = within })
fills_method s m (Thing t) within e = record { by = λ u h. Owned.tested_lives s (Thing t) e u h }
fills_method s m v within e = fills_nothing s.things _ refl

pub owning-emptied : (ps : List Place) (ns : List ℕ) (m : ℕ) → owning_in (slice_get (emptied_in ps ns) m) ≡ owning_in (slice_get ps m)
owning-emptied ps [] m = refl
owning-emptied ps (n ∷ ns) m = owning-emptied (put_in ps n Null) ns m ∙ owning-put ps n m Null
