-- Where nothing is declared twice, all C names differ.
use Rattle.std.proofs.Common.{◌≡◌, ◌∙◌, refl, sym, ap, subst, ℕ, Bool, true, false, ◌||◌, if◌then◌else◌, List, [], ◌∷◌, ◌++◌, arith}
use Rattle.std.specs.List.{AllByRecursion, list_any, flat_map, IsDistinct}
use Rattle.vg_base.specs.declared.event.Span.{Span}
use Rattle.static_rules.specs.declared.rules.Refusal.{Refusal}
use Rattle.static_rules.specs.declared.rules.Rule.TheVariants.{N2}
use Rattle.symbols.specs.Outline.{Outline}
use Rattle.symbols.specs.Spelling.{CName, all_c_names}
use Rattle.symbols.specs.Table.{table_of}
use Rattle.symbols.specs.Faults.{fault, repeated, is_same_name, same_c_name, c_place, span_of, accessor_faults, twice, faults_of, too_many, main_faults, mains, cycles}
use Rattle.symbols.specs.Laws.{IsIn, now, later}

-- two lists that are empty together are empty each
empty_left : {X : Type 0} (xs ys : List X) → xs ++ ys ≡ [] → xs ≡ []
empty_left [] ys h = refl
empty_left (x ∷ xs) ys h = grind (arith)

empty_right : {X : Type 0} (xs ys : List X) → xs ++ ys ≡ [] → ys ≡ []
empty_right [] ys h = h
empty_right (x ∷ xs) ys h = grind (arith)

not_any : {X : Type 0} (p : X → Bool) (b : X) (bs : List X) → list_any p bs ≡ false → IsIn b bs → p b ≡ false
not_any p b [] h i = elim i [ ]
not_any p b (c ∷ cs) h (now _) = left (p b) (list_any p cs) h
  where
    left : (u v : Bool) → (u || v) ≡ false → u ≡ false
    left false v h = refl
    left true v h = grind (arith)
not_any p b (c ∷ cs) h (later _ _ i) = not_any p b cs (right (p c) (list_any p cs) h) i
  where
    right : (u v : Bool) → (u || v) ≡ false → v ≡ false
    right false v h = h
    right true v h = grind (arith)

no_fault : (b : Bool) (f : Refusal) → (if b then f ∷ [] else []) ≡ [] → b ≡ false
no_fault true f h = grind (arith)
no_fault false f h = refl

module _ {X : Type 0} (same : X → X → Bool) (at : X → Span) where
  -- nothing in the list is like a thing before it
  apart : (b : X) (before xs : List X) → IsIn b before → repeated same at before xs ≡ [] → AllByRecursion (λ y. same b y ≡ false) xs
  apart b before [] i h = tt
  apart b before (x ∷ xs) i h = (
    not_any (λ y. same y x) b before (no_fault (list_any (λ y. same y x) before) (fault N2 (at x)) (empty_left (if list_any (λ y. same y x) before then fault N2 (at x) ∷ [] else []) (repeated same at (x ∷ before) xs) h)) i,
    apart b (x ∷ before) xs (later x before i) (empty_right (if list_any (λ y. same y x) before then fault N2 (at x) ∷ [] else []) (repeated same at (x ∷ before) xs) h),
  )

  pub distinct : (before xs : List X) → repeated same at before xs ≡ [] → IsDistinct same xs
  unfolding IsDistinct
  distinct before [] h = tt
  distinct before (x ∷ xs) h =
      let rest : repeated same at (x ∷ before) xs ≡ [] = empty_right (if list_any (λ y. same y x) before then fault N2 (at x) ∷ [] else []) (repeated same at (x ∷ before) xs) h in
      (apart x (x ∷ before) xs (now before) rest, distinct (x ∷ before) xs rest)

module _ (o : Outline) where
  none_twice : faults_of o ≡ [] → twice o ≡ []
  none_twice h = empty_left (twice o) (main_faults (mains o) ++ cycles (table_of o) o) (empty_right (too_many (table_of o) o) (twice o ++ (main_faults (mains o) ++ cycles (table_of o) o)) h)

  pub names_differ : faults_of o ≡ [] → IsDistinct is_same_name o.declared
  names_differ h = distinct is_same_name span_of [] o.declared (empty_left (repeated is_same_name span_of [] o.declared) (repeated same_c_name c_place [] (all_c_names o) ++ flat_map accessor_faults o.declared) (none_twice h))

  pub c_names_differ : faults_of o ≡ [] → IsDistinct same_c_name (all_c_names o)
  c_names_differ h = distinct same_c_name c_place [] (all_c_names o) (empty_left (repeated same_c_name c_place [] (all_c_names o)) (flat_map accessor_faults o.declared) (empty_right (repeated is_same_name span_of [] o.declared) (repeated same_c_name c_place [] (all_c_names o) ++ flat_map accessor_faults o.declared) (none_twice h)))
