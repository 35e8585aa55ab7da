-- The search finds what a name means.
use Rattle.std.proofs.Common.{◌≡◌, ◌∙◌, refl, sym, ap, subst, ℕ, zero, suc, Bool, true, false, ◌&&◌, ◌==◌, if◌then◌else◌, List, [], ◌∷◌, ◌++◌, length, Option, Some, None, arith}
use Rattle.std.specs.List.{AllByRecursion, list_all, filter_map, cons_option}
use Rattle.vg_base.specs.declared.event.Span.{Span}
use Rattle.symbols.specs.declared.table.Names.{Names}
use Rattle.symbols.specs.Outline.{or_else}
use Rattle.symbols.specs.Search.{first_in, Meaning, Unknown, Ambiguous, Is, looked_in, in_use, met, nearest, only, found_or, meaning_of}
use Rattle.symbols.specs.Laws.{IsIn, now, later, HasNone, Nearest, here, beyond, Means, around, by_use, unknown, ambiguous}

module _ (ns : Names) (name : List ℕ) (place : ℕ) where
  -- one scope more in front
  nearer : (scope : ℕ) (scopes : List ℕ) (s : ℕ) (o : Option ℕ) → first_in ns scope name place ≡ o → or_else o (nearest ns name place scopes) ≡ Some s → (nearest ns name place scopes ≡ Some s → Nearest ns name place scopes s) → Nearest ns name place (scope ∷ scopes) s
  nearer scope scopes s None e h known = beyond scope scopes s e (known h)
  nearer scope scopes s (Some t) e h known = here scope scopes s (e ∙ h)

  pub nearest_is : (scopes : List ℕ) (s : ℕ) → nearest ns name place scopes ≡ Some s → Nearest ns name place scopes s
  nearest_is [] s h = grind (arith)
  nearest_is (scope ∷ scopes) s h = nearer scope scopes s (first_in ns scope name place) refl h (nearest_is scopes s)

  pub is_nearest : (scopes : List ℕ) (s : ℕ) → Nearest ns name place scopes s → nearest ns name place scopes ≡ Some s
  is_nearest [] s n = elim n [ ]
  is_nearest (scope ∷ scopes) s (here _ _ _ e) = ap (λ o. or_else o (nearest ns name place scopes)) e
  is_nearest (scope ∷ scopes) s (beyond _ _ _ e n) = ap (λ o. or_else o (nearest ns name place scopes)) e ∙ is_nearest scopes s n

  none_nearer : (scope : ℕ) (scopes : List ℕ) (o : Option ℕ) → first_in ns scope name place ≡ o → or_else o (nearest ns name place scopes) ≡ None → (nearest ns name place scopes ≡ None → HasNone ns name place scopes) → HasNone ns name place (scope ∷ scopes)
  none_nearer scope scopes None e h known = (e, known h)
  none_nearer scope scopes (Some t) e h known = grind (arith)

  pub none_is : (scopes : List ℕ) → nearest ns name place scopes ≡ None → HasNone ns name place scopes
  none_is [] h = tt
  none_is (scope ∷ scopes) h = none_nearer scope scopes (first_in ns scope name place) refl h (none_is scopes)

  pub is_none : (scopes : List ℕ) → HasNone ns name place scopes → nearest ns name place scopes ≡ None
  is_none [] h = refl
  is_none (scope ∷ scopes) (e, h) = ap (λ o. or_else o (nearest ns name place scopes)) e ∙ is_none scopes h

-- what is met in scopes that are looked at together
module _ (ns : Names) (name : List ℕ) (place : ℕ) where
  met_none : (scope : ℕ) (scopes : List ℕ) (o : Option ℕ) → first_in ns scope name place ≡ o → cons_option o (met ns name place scopes) ≡ [] → (met ns name place scopes ≡ [] → HasNone ns name place scopes) → HasNone ns name place (scope ∷ scopes)
  met_none scope scopes None e h known = (e, known h)
  met_none scope scopes (Some t) e h known = grind (arith)

  pub nothing_met : (scopes : List ℕ) → met ns name place scopes ≡ [] → HasNone ns name place scopes
  nothing_met [] h = tt
  nothing_met (scope ∷ scopes) h = met_none scope scopes (first_in ns scope name place) refl h (nothing_met scopes)

  pub meets_nothing : (scopes : List ℕ) → HasNone ns name place scopes → met ns name place scopes ≡ []
  meets_nothing [] h = refl
  meets_nothing (scope ∷ scopes) (e, h) = ap (λ o. cons_option o (met ns name place scopes)) e ∙ meets_nothing scopes h

-- whether a list has one thing alone
one_more : (s t : ℕ) (ts : List ℕ) (b : Bool) → (t == s) ≡ b → (b && list_all (λ u. u == s) ts) ≡ true → (list_all (λ u. u == s) ts ≡ true → AllByRecursion (λ u. u ≡ s) ts) → AllByRecursion (λ u. u ≡ s) (t ∷ ts)
one_more s t ts true e h known = (grind (arith), known h)
one_more s t ts false e h known = grind (arith)

all_one : (s : ℕ) (ts : List ℕ) → list_all (λ u. u == s) ts ≡ true → AllByRecursion (λ u. u ≡ s) ts
all_one s [] h = tt
all_one s (t ∷ ts) h = one_more s t ts (t == s) refl h (all_one s ts)

one_all : (s : ℕ) (ts : List ℕ) → AllByRecursion (λ u. u ≡ s) ts → list_all (λ u. u == s) ts ≡ true
one_all s [] h = refl
one_all s (t ∷ ts) (e, h) = let first : (t == s) ≡ true = grind (arith) in ap (λ b. b && list_all (λ u. u == s) ts) first ∙ one_all s ts h

-- another thing in a list
pub data Other (s : ℕ) (ts : List ℕ) : Type 0 where
  other : (t : ℕ) → IsIn t ts → (s ≡ t → ⊥) → Other s ts

other_more : (s t : ℕ) (ts : List ℕ) (b : Bool) → (t == s) ≡ b → (b && list_all (λ u. u == s) ts) ≡ false → (list_all (λ u. u == s) ts ≡ false → Other s ts) → Other s (t ∷ ts)
other_more s t ts true e h known = behind (known h)
  where
    behind : Other s ts → Other s (t ∷ ts)
    behind (other u i d) = other u (later t ts i) d
other_more s t ts false e h known = other t (now ts) (λ q. grind (arith))

not_one : (s : ℕ) (ts : List ℕ) → list_all (λ u. u == s) ts ≡ false → Other s ts
not_one s [] h = grind (arith)
not_one s (t ∷ ts) h = other_more s t ts (t == s) refl h (not_one s ts)

-- a thing of a list in which all are one
same_in : (s t : ℕ) (ts : List ℕ) → AllByRecursion (λ u. u ≡ s) ts → IsIn t ts → t ≡ s
same_in s t [] h i = elim i [ ]
same_in s t (u ∷ us) (e, h) (now _) = e
same_in s t (u ∷ us) (e, h) (later _ _ i) = same_in s t us h i

only_is : (s : ℕ) (xs : List ℕ) → IsIn s xs → AllByRecursion (λ t. t ≡ s) xs → only xs ≡ Is s
only_is s [] i h = elim i [ ]
only_is s (t ∷ ts) i (e, h) = subst (λ (u : ℕ). only (u ∷ ts) ≡ Is s) (sym e) (ap (λ b. if b then Is s else Ambiguous) (one_all s ts h))

two_in : (s t u : ℕ) (us : List ℕ) (b : Bool) → list_all (λ v. v == u) us ≡ b → IsIn s (u ∷ us) → IsIn t (u ∷ us) → (s ≡ t → ⊥) → (if b then Is u else Ambiguous) ≡ Ambiguous
two_in s t u us true e i j d = absurd (d (same_in u s (u ∷ us) (refl, all_one u us e) i ∙ sym (same_in u t (u ∷ us) (refl, all_one u us e) j)))
two_in s t u us false e i j d = refl

two_are : (s t : ℕ) (xs : List ℕ) → IsIn s xs → IsIn t xs → (s ≡ t → ⊥) → only xs ≡ Ambiguous
two_are s t [] i j d = elim i [ ]
two_are s t (u ∷ us) i j d = two_in s t u us (list_all (λ v. v == u) us) refl i j d

-- WHAT A NAME MEANS, by cases, is what is computed
module _ (ns : Names) (scope : ℕ) (name : List ℕ) (place : Span) where
  abbrev Meant : Meaning → Type 0
  Meant m = Means ns scope name place m

  abbrev used : List ℕ
  used = met ns name place.start (in_use ns place.file)

  abbrev None_around : Type 0
  None_around = HasNone ns name place.start (looked_in ns scope)

  in_used : (m : Meaning) (s : ℕ) (ss : List ℕ) (b : Bool) → None_around → used ≡ s ∷ ss → list_all (λ t. t == s) ss ≡ b → (if b then Is s else Ambiguous) ≡ m → Meant m
  in_used m s ss true h e q r =
      subst Meant r (by_use s h (subst (λ (zs : List ℕ). IsIn s zs) (sym e) (now ss)) (subst (λ (zs : List ℕ). AllByRecursion (λ t. t ≡ s) zs) (sym e) (refl, all_one s ss q)))
  in_used m s ss false h e q r = subst Meant r (two (not_one s ss q))
    where
      two : Other s ss → Meant Ambiguous
      two (other t i d) = ambiguous s t h (subst (λ (zs : List ℕ). IsIn s zs) (sym e) (now ss)) (subst (λ (zs : List ℕ). IsIn t zs) (sym e) (later s ss i)) d

  in_use_means : (m : Meaning) (xs : List ℕ) → None_around → used ≡ xs → only xs ≡ m → Meant m
  in_use_means m [] h e r = subst Meant r (unknown h (nothing_met ns name place.start (in_use ns place.file) e))
  in_use_means m (s ∷ ss) h e r = in_used m s ss (list_all (λ t. t == s) ss) h e refl r

  search_means : (m : Meaning) (o : Option ℕ) → nearest ns name place.start (looked_in ns scope) ≡ o → found_or (only used) o ≡ m → Meant m
  search_means m None e r = in_use_means m used (none_is ns name place.start (looked_in ns scope) e) refl r
  search_means m (Some s) e r = subst Meant r (around s (nearest_is ns name place.start (looked_in ns scope) s e))

  pub meaning_means : (m : Meaning) → meaning_of ns scope name place ≡ m → Meant m
  meaning_means m r = search_means m (nearest ns name place.start (looked_in ns scope)) refl r

  not_around : (m : Meaning) → None_around → only used ≡ m → meaning_of ns scope name place ≡ m
  not_around m h e = ap (λ o. found_or (only used) o) (is_none ns name place.start (looked_in ns scope) h) ∙ e

  pub means_meaning : (m : Meaning) → Meant m → meaning_of ns scope name place ≡ m
  means_meaning m (around s n) = ap (λ o. found_or (only used) o) (is_nearest ns name place.start (looked_in ns scope) s n)
  means_meaning m (by_use s h i a) = not_around (Is s) h (only_is s used i a)
  means_meaning m (unknown h g) = not_around Unknown h (ap only (meets_nothing ns name place.start (in_use ns place.file) g))
  means_meaning m (ambiguous s t h i j d) = not_around Ambiguous h (two_are s t used i j d)
