-- What stands in a slot that a class introduced is its most derived override.
use Rattle.std.proofs.Common.{◌≡◌, ◌∙◌, refl, sym, ap, subst, ℕ, zero, suc, ◌==◌, ◌&&◌, ◌||◌, if◌then◌else◌, Bool, true, false, List, [], ◌∷◌, ◌++◌, Option, Some, None, arith}
use Rattle.std.specs.List.{list_any}
use Rattle.symbols.specs.Outline.{and_then}
use Rattle.symbols.specs.Search.{contains}
use Rattle.class_table.specs.Trees.{Program, name_at, owner_of}
use Rattle.class_table.specs.Bases.{listed_interfaces, interfaces_of}
use Rattle.class_table.specs.Slots.{is_slot_of, is_owned_by_one, is_overriding, own_named, standing, or_kept, over, goes_on, implementing}
use Rattle.class_table.specs.Laws.{MostDerived, introduced, overriding, inherited, IsOfClass}

-- where none of two lists has a thing, neither does one of them
none_left : (a b : Bool) → (a || b) ≡ false → a ≡ false
none_left false b h = refl
none_left true b h = grind (arith)

none_right : (a b : Bool) → (a || b) ≡ false → b ≡ false
none_right false b h = h
none_right true b h = grind (arith)

pub append_contains : (xs ys : List ℕ) (t : ℕ) → contains (xs ++ ys) t ≡ (contains xs t || contains ys t)
append_contains [] ys t = refl
append_contains (x ∷ xs) ys t = ap (λ b. (x == t) || b) (append_contains xs ys t) ∙ sym (regroup (x == t) (contains xs t) (contains ys t))
  where
    regroup : (a b c : Bool) → ((a || b) || c) ≡ (a || (b || c))
    regroup true b c = refl
    regroup false b c = refl

owned_left : (xs ys : List ℕ) (o : Option ℕ) → is_owned_by_one (xs ++ ys) o ≡ false → is_owned_by_one xs o ≡ false
owned_left xs ys None h = refl
owned_left xs ys (Some t) h = none_left (contains xs t) (contains ys t) (sym (append_contains xs ys t) ∙ h)

owned_right : (xs ys : List ℕ) (o : Option ℕ) → is_owned_by_one (xs ++ ys) o ≡ false → is_owned_by_one ys o ≡ false
owned_right xs ys None h = refl
owned_right xs ys (Some t) h = none_right (contains xs t) (contains ys t) (sym (append_contains xs ys t) ∙ h)

and_false : (a b : Bool) → b ≡ false → (a && b) ≡ false
and_false true b h = h
and_false false b h = refl

module _ (p : Program) (s : ℕ) where
  of_first : (c : ℕ) (cs : List ℕ) → IsOfClass p s (c ∷ cs) → is_slot_of p (listed_interfaces p c) s ≡ false
  of_first c cs h = owned_left (listed_interfaces p c) (interfaces_of p cs) (owner_of p s) h

  of_rest : (c : ℕ) (cs : List ℕ) → IsOfClass p s (c ∷ cs) → IsOfClass p s cs
  of_rest c cs h = owned_right (listed_interfaces p c) (interfaces_of p cs) (owner_of p s) h

  -- a slot of a class goes on by overrides alone
  goes_by_override : (c : ℕ) (cs : List ℕ) (v : ℕ) → IsOfClass p s cs → goes_on p c cs s v ≡ over p c cs v
  goes_by_override c cs v h = ap (λ b. if b then implementing p (c ∷ cs) s else over p c cs v) (and_false (v == s) (is_slot_of p (interfaces_of p cs) s) h)

  goes_from : (c : ℕ) (cs : List ℕ) (o : Option ℕ) → IsOfClass p s cs → and_then o (λ v. Some (goes_on p c cs s v)) ≡ and_then o (λ v. Some (over p c cs v))
  goes_from c cs None h = refl
  goes_from c cs (Some v) h = ap (λ (m : ℕ). Some m) (goes_by_override c cs v h)

  at_own : (c : ℕ) (cs : List ℕ) → is_slot_of p (c ∷ []) s ≡ true → standing p (c ∷ cs) s ≡ Some s
  at_own c cs a = ap (λ b. if b then Some s else if is_slot_of p (listed_interfaces p c) s then Some (implementing p (c ∷ cs) s) else and_then (standing p cs s) (λ v. Some (goes_on p c cs s v))) a

  at_other : (c : ℕ) (cs : List ℕ) → is_slot_of p (c ∷ []) s ≡ false → IsOfClass p s (c ∷ cs) → standing p (c ∷ cs) s ≡ and_then (standing p cs s) (λ v. Some (over p c cs v))
  at_other c cs a h =
      ap (λ b. if b then Some s else if is_slot_of p (listed_interfaces p c) s then Some (implementing p (c ∷ cs) s) else and_then (standing p cs s) (λ v. Some (goes_on p c cs s v))) a
      ∙ ap (λ b. if b then Some (implementing p (c ∷ cs) s) else and_then (standing p cs s) (λ v. Some (goes_on p c cs s v))) (of_first c cs h)
      ∙ goes_from c cs (standing p cs s) (of_rest c cs h)

  some_same : (m n : ℕ) → Some m ≡ Some n → m ≡ n
  some_same m n e = grind (arith)

  taken : (c : ℕ) (cs : List ℕ) (v m : ℕ) (o : Option ℕ) → is_slot_of p (c ∷ []) s ≡ false → MostDerived p s cs v → own_named p (is_overriding p c cs v) (name_at p v) c ≡ o → or_kept v o ≡ m
      → MostDerived p s (c ∷ cs) m
  taken c cs v m None a d e q = subst (λ (x : ℕ). MostDerived p s (c ∷ cs) x) q (inherited c cs v a d e)
  taken c cs v m (Some x) a d e q = subst (λ (x : ℕ). MostDerived p s (c ∷ cs) x) q (overriding c cs v x a d e)

  above : (c : ℕ) (cs : List ℕ) (m : ℕ) (o : Option ℕ) → is_slot_of p (c ∷ []) s ≡ false → standing p cs s ≡ o → ((v : ℕ) → standing p cs s ≡ Some v → MostDerived p s cs v)
      → and_then o (λ v. Some (over p c cs v)) ≡ Some m → MostDerived p s (c ∷ cs) m
  above c cs m None a e known q = grind (arith)
  above c cs m (Some v) a e known q = taken c cs v m (own_named p (is_overriding p c cs v) (name_at p v) c) a (known v e) refl (some_same (over p c cs v) m q)

  from_class : (c : ℕ) (cs : List ℕ) (m : ℕ) (b : Bool) → is_slot_of p (c ∷ []) s ≡ b → IsOfClass p s (c ∷ cs) → ((v : ℕ) → standing p cs s ≡ Some v → MostDerived p s cs v)
      → standing p (c ∷ cs) s ≡ Some m → MostDerived p s (c ∷ cs) m
  from_class c cs m true a h known e = subst (λ (x : ℕ). MostDerived p s (c ∷ cs) x) (some_same s m (sym (at_own c cs a) ∙ e)) (introduced c cs a)
  from_class c cs m false a h known e = above c cs m (standing p cs s) a refl known (sym (at_other c cs a h) ∙ e)

  -- WHAT STANDS in a slot of a class is the most derived override
  pub standing_is_most_derived : (cs : List ℕ) (m : ℕ) → IsOfClass p s cs → standing p cs s ≡ Some m → MostDerived p s cs m
  standing_is_most_derived [] m h e = grind (arith)
  standing_is_most_derived (c ∷ cs) m h e = from_class c cs m (is_slot_of p (c ∷ []) s) refl h (λ v. standing_is_most_derived cs v (of_rest c cs h)) e

  pub most_derived_is_standing : (cs : List ℕ) (m : ℕ) → IsOfClass p s cs → MostDerived p s cs m → standing p cs s ≡ Some m
  most_derived_is_standing cs m h (introduced c bs a) = at_own c bs a
  most_derived_is_standing cs m h (overriding c bs v n a d e) =
      at_other c bs a h ∙ ap (λ o. and_then o (λ v. Some (over p c bs v))) (most_derived_is_standing bs v (of_rest c bs h) d) ∙ ap (λ o. Some (or_kept v o)) e
  most_derived_is_standing cs m h (inherited c bs v a d e) =
      at_other c bs a h ∙ ap (λ o. and_then o (λ v. Some (over p c bs v))) (most_derived_is_standing bs v (of_rest c bs h) d) ∙ ap (λ o. Some (or_kept v o)) e
