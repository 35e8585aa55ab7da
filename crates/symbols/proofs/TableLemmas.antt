-- The loops of the search.
use Rattle.std.proofs.Common.{◌≡◌, ◌∙◌, refl, sym, ap, ℕ, zero, suc, ◌+◌, ◌-◌, ◌<◌, ◌≤◌, Bool, true, false, ◌||◌, ◌&&◌, ◌==◌, if◌then◌else◌, List, [], ◌∷◌, ◌++◌, length, drop, get_or, slice_get, Option, Some, None, Ok, Err, arith}
use Rattle.std.specs.Option.{option_map}
use Rattle.std.specs.List.{flat_map, list_any, list_all, cons_option}
use Rattle.std.proofs.lemmas.List.{drop_more, drop_all}
use Rattle.static_rules.specs.declared.rules.Rule.TheVariants.{N1, N3}
use Rattle.symbols.specs.declared.table.Names.{Names}
use Rattle.symbols.specs.Outline.{first_at, or_else}
use Rattle.symbols.specs.Search.{Meaning, Is, Ambiguous, outer_of, outward_within, with_bases, first_in, nearest, met, only, is_same, one_meaning}

-- one more in front of a place
one_more : (i : ℕ) (o : Option ℕ) → option_map (λ n. i + n) (option_map suc o) ≡ option_map (λ n. i + 1 + n) o
one_more i None = refl
one_more i (Some n) = ap Some (let e : i + suc n ≡ i + 1 + n = omega arith in e)

module _ {X : Type 0} (test : X → Bool) where
  pub first_step : (xs : List X) (i : ℕ) (d : X) (o : Option ℕ) → i < length xs → test (get_or xs i d) ≡ false → o ≡ option_map (λ n. i + n) (first_at test (drop i xs)) → o ≡ option_map (λ n. i + 1 + n) (first_at test (drop (i + 1) xs))
  first_step xs i d o h none k =
      let cut : drop i xs ≡ get_or xs i d ∷ drop (i + 1) xs = drop_more xs i d h in
      k ∙ ap (λ z. option_map (λ n. i + n) (first_at test z)) cut
      ∙ ap (λ t. option_map (λ n. i + n) (if t then Some 0 else option_map suc (first_at test (drop (i + 1) xs)))) none
      ∙ one_more i (first_at test (drop (i + 1) xs))

  pub first_here : (xs : List X) (i : ℕ) (d : X) (o : Option ℕ) → i < length xs → test (get_or xs i d) ≡ true → o ≡ option_map (λ n. i + n) (first_at test (drop i xs)) → Some i ≡ o
  first_here xs i d o h passes k =
      let cut : drop i xs ≡ get_or xs i d ∷ drop (i + 1) xs = drop_more xs i d h in
      sym (
      k ∙ ap (λ z. option_map (λ n. i + n) (first_at test z)) cut
      ∙ ap (λ t. option_map (λ n. i + n) (if t then Some 0 else option_map suc (first_at test (drop (i + 1) xs)))) passes
      ∙ ap Some (let e : i + 0 ≡ i = omega arith in e))

  pub first_none : (xs : List X) (i : ℕ) (o : Option ℕ) → length xs ≤ i → o ≡ option_map (λ n. i + n) (first_at test (drop i xs)) → None ≡ o
  first_none xs i o h k = sym (k ∙ ap (λ z. option_map (λ n. i + n) (first_at test z)) (drop_all i xs h))

module _ (ns : Names) (name : List ℕ) (place : ℕ) where
  pub next_scope : (scopes : List ℕ) (i : ℕ) (o : Option ℕ) → i < length scopes → first_in ns (get_or scopes i 0) name place ≡ None → o ≡ nearest ns name place (drop i scopes) → o ≡ nearest ns name place (drop (i + 1) scopes)
  next_scope scopes i o h none k =
      let cut : drop i scopes ≡ get_or scopes i 0 ∷ drop (i + 1) scopes = drop_more scopes i 0 h in
      k ∙ ap (nearest ns name place) cut ∙ ap (λ f. or_else f (nearest ns name place (drop (i + 1) scopes))) none

  pub this_scope : (scopes : List ℕ) (i : ℕ) (o : Option ℕ) (s : ℕ) → i < length scopes → first_in ns (get_or scopes i 0) name place ≡ Some s → o ≡ nearest ns name place (drop i scopes) → Some s ≡ o
  this_scope scopes i o s h found k =
      let cut : drop i scopes ≡ get_or scopes i 0 ∷ drop (i + 1) scopes = drop_more scopes i 0 h in
      sym (k ∙ ap (nearest ns name place) cut ∙ ap (λ f. or_else f (nearest ns name place (drop (i + 1) scopes))) found)

  pub no_scope : (scopes : List ℕ) (i : ℕ) (o : Option ℕ) → length scopes ≤ i → o ≡ nearest ns name place (drop i scopes) → None ≡ o
  no_scope scopes i o h k = sym (k ∙ ap (nearest ns name place) (drop_all i scopes h))

  or_again : (a b c : Option ℕ) → or_else (or_else a b) c ≡ or_else a (or_else b c)
  or_again None b c = refl
  or_again (Some s) b c = refl

  pub nearest_append : (xs ys : List ℕ) → nearest ns name place (xs ++ ys) ≡ or_else (nearest ns name place xs) (nearest ns name place ys)
  nearest_append [] ys = refl
  nearest_append (x ∷ xs) ys = ap (λ o. or_else (first_in ns x name place) o) (nearest_append xs ys) ∙ sym (or_again (first_in ns x name place) (nearest ns name place xs) (nearest ns name place ys))

  -- what is found from a scope outward, in at most so many steps
  abbrev pub found_within : ℕ → ℕ → Option ℕ
  found_within n scope = nearest ns name place (flat_map (with_bases ns) (outward_within ns n scope))

  abbrev here : ℕ → Option ℕ
  here scope = nearest ns name place (with_bases ns scope)

  or_none : (o : Option ℕ) → or_else o None ≡ o
  or_none None = refl
  or_none (Some s) = refl

  pub last_within : (scope : ℕ) → found_within 0 scope ≡ here scope
  last_within scope = nearest_append (with_bases ns scope) [] ∙ or_none (here scope)

  split : (n scope : ℕ) (b : Bool) → or_else (here scope) (nearest ns name place (flat_map (with_bases ns) (if b then [] else outward_within ns n (outer_of ns scope)))) ≡ or_else (here scope) (if b then None else found_within n (outer_of ns scope))
  split n scope true = refl
  split n scope false = refl

  within_step : (n scope : ℕ) (b : Bool) → (scope == 0) ≡ b → found_within (suc n) scope ≡ or_else (here scope) (if b then None else found_within n (outer_of ns scope))
  within_step n scope b e =
      nearest_append (with_bases ns scope) (flat_map (with_bases ns) (if scope == 0 then [] else outward_within ns n (outer_of ns scope)))
      ∙ ap (λ c. or_else (here scope) (nearest ns name place (flat_map (with_bases ns) (if c then [] else outward_within ns n (outer_of ns scope))))) e
      ∙ split n scope b

  one_less : (n i at : ℕ) → i < n → found_within (n - i) at ≡ found_within (suc (n - (i + 1))) at
  one_less n i at h = ap (λ m. found_within m at) (let e : n - i ≡ suc (n - (i + 1)) = omega arith in e)

  -- it was found
  pub found_there : (n i at s : ℕ) (o : Option ℕ) → i < n → here at ≡ Some s → o ≡ found_within (n - i) at → Some s ≡ o
  found_there n i at s o h found k =
      sym (k ∙ one_less n i at h ∙ within_step (n - (i + 1)) at (at == 0) refl ∙ ap (λ f. or_else f (if at == 0 then None else found_within (n - (i + 1)) (outer_of ns at))) found)

  -- there is nothing further out
  pub all_seen : (n i at : ℕ) (o : Option ℕ) → i < n → here at ≡ None → at ≡ 0 → o ≡ found_within (n - i) at → None ≡ o
  all_seen n i at o h none last k =
      sym (k ∙ one_less n i at h ∙ within_step (n - (i + 1)) at true (ap (λ x. x == 0) last) ∙ ap (λ f. or_else f None) none)

  -- it goes on with the scope around
  pub goes_out : (n i at : ℕ) (o : Option ℕ) → i < n → here at ≡ None → (at == 0) ≡ false → o ≡ found_within (n - i) at → o ≡ found_within (n - (i + 1)) (outer_of ns at)
  goes_out n i at o h none more k =
      k ∙ one_less n i at h ∙ within_step (n - (i + 1)) at false more ∙ ap (λ f. or_else f (found_within (n - (i + 1)) (outer_of ns at))) none

  -- the last step
  pub at_last : (n i at : ℕ) (o r : Option ℕ) → n ≤ i → r ≡ here at → o ≡ found_within (n - i) at → r ≡ o
  at_last n i at o r h e k = e ∙ sym (k ∙ ap (λ m. found_within m at) (let e : n - i ≡ 0 = omega arith in e) ∙ last_within at)

-- the same walk for a test of the scopes
module _ (ns : Names) (test : ℕ → Bool) where
  abbrev pub any_within : ℕ → ℕ → Bool
  any_within n scope = list_any test (outward_within ns n scope)

  or_false : (b : Bool) → (b || false) ≡ b
  or_false true = refl
  or_false false = refl

  any_split : (n scope : ℕ) (b : Bool) → (test scope || list_any test (if b then [] else outward_within ns n (outer_of ns scope))) ≡ (test scope || (if b then false else any_within n (outer_of ns scope)))
  any_split n scope true = refl
  any_split n scope false = refl

  any_step : (n scope : ℕ) (b : Bool) → (scope == 0) ≡ b → any_within (suc n) scope ≡ (test scope || (if b then false else any_within n (outer_of ns scope)))
  any_step n scope b e = ap (λ c. test scope || list_any test (if c then [] else outward_within ns n (outer_of ns scope))) e ∙ any_split n scope b

  any_less : (n i at : ℕ) → i < n → any_within (n - i) at ≡ any_within (suc (n - (i + 1))) at
  any_less n i at h = ap (λ m. any_within m at) (let e : n - i ≡ suc (n - (i + 1)) = omega arith in e)

  pub any_there : (n i at : ℕ) (o : Bool) → i < n → test at ≡ true → o ≡ any_within (n - i) at → true ≡ o
  any_there n i at o h found k =
      sym (k ∙ any_less n i at h ∙ any_step (n - (i + 1)) at (at == 0) refl ∙ ap (λ f. f || (if at == 0 then false else any_within (n - (i + 1)) (outer_of ns at))) found)

  pub any_seen : (n i at : ℕ) (o : Bool) → i < n → test at ≡ false → at ≡ 0 → o ≡ any_within (n - i) at → false ≡ o
  any_seen n i at o h none last k =
      sym (k ∙ any_less n i at h ∙ any_step (n - (i + 1)) at true (ap (λ x. x == 0) last) ∙ ap (λ f. f || false) none)

  pub any_out : (n i at : ℕ) (o : Bool) → i < n → test at ≡ false → (at == 0) ≡ false → o ≡ any_within (n - i) at → o ≡ any_within (n - (i + 1)) (outer_of ns at)
  any_out n i at o h none more k =
      k ∙ any_less n i at h ∙ any_step (n - (i + 1)) at false more ∙ ap (λ f. f || any_within (n - (i + 1)) (outer_of ns at)) none

  pub any_last : (n i at : ℕ) (o r : Bool) → n ≤ i → r ≡ test at → o ≡ any_within (n - i) at → r ≡ o
  any_last n i at o r h e k = e ∙ sym (k ∙ ap (λ m. any_within m at) (let e : n - i ≡ 0 = omega arith in e) ∙ or_false (test at))

-- what was met, with what is still to be looked at
abbrev pub only_with : Option ℕ → List ℕ → Meaning
only_with None xs = only xs
only_with (Some s) xs = if list_all (λ t. t == s) xs then Is s else Ambiguous

module _ (ns : Names) (name : List ℕ) (place : ℕ) where
  met_cut : (scopes : List ℕ) (i : ℕ) (o : Option ℕ) → i < length scopes → first_in ns (get_or scopes i 0) name place ≡ o → met ns name place (drop i scopes) ≡ cons_option o (met ns name place (drop (i + 1) scopes))
  met_cut scopes i o h e =
      let cut : drop i scopes ≡ get_or scopes i 0 ∷ drop (i + 1) scopes = drop_more scopes i 0 h in
      ap (met ns name place) cut ∙ ap (λ f. cons_option f (met ns name place (drop (i + 1) scopes))) e

  pub met_none : (scopes : List ℕ) (i : ℕ) (before : Option ℕ) (m : Meaning) → i < length scopes → first_in ns (get_or scopes i 0) name place ≡ None → m ≡ only_with before (met ns name place (drop i scopes)) → m ≡ only_with before (met ns name place (drop (i + 1) scopes))
  met_none scopes i before m h e k = k ∙ ap (only_with before) (met_cut scopes i None h e)

  same_by : (s : ℕ) (before : Option ℕ) (xs : List ℕ) → is_same before s ≡ true → only_with before (s ∷ xs) ≡ only_with (Some s) xs
  same_by s None xs e = refl
  same_by s (Some t) xs e = ap (λ b. if b && list_all (λ u. u == t) xs then Is t else Ambiguous) e ∙ ap (λ v. if list_all (λ u. u == v) xs then Is v else Ambiguous) (let q : t ≡ s = grind (arith) in q)

  other_by : (s : ℕ) (before : Option ℕ) (xs : List ℕ) → is_same before s ≡ false → only_with before (s ∷ xs) ≡ Ambiguous
  other_by s None xs e = grind (arith)
  other_by s (Some t) xs e = ap (λ b. if b && list_all (λ u. u == t) xs then Is t else Ambiguous) e

  pub met_same : (scopes : List ℕ) (i s : ℕ) (before : Option ℕ) (m : Meaning) → i < length scopes → first_in ns (get_or scopes i 0) name place ≡ Some s → is_same before s ≡ true → m ≡ only_with before (met ns name place (drop i scopes)) → m ≡ only_with (Some s) (met ns name place (drop (i + 1) scopes))
  met_same scopes i s before m h e q k = k ∙ ap (only_with before) (met_cut scopes i (Some s) h e) ∙ same_by s before (met ns name place (drop (i + 1) scopes)) q

  pub met_other : (scopes : List ℕ) (i s : ℕ) (before : Option ℕ) (m : Meaning) → i < length scopes → first_in ns (get_or scopes i 0) name place ≡ Some s → is_same before s ≡ false → m ≡ only_with before (met ns name place (drop i scopes)) → Err N3 ≡ one_meaning m
  met_other scopes i s before m h e q k = ap one_meaning (sym (k ∙ ap (only_with before) (met_cut scopes i (Some s) h e) ∙ other_by s before (met ns name place (drop (i + 1) scopes)) q))

  met_end : (scopes : List ℕ) (i : ℕ) (before : Option ℕ) (m : Meaning) → length scopes ≤ i → m ≡ only_with before (met ns name place (drop i scopes)) → m ≡ only_with before []
  met_end scopes i before m h k = k ∙ ap (λ z. only_with before (met ns name place z)) (drop_all i scopes h)

  pub met_one : (scopes : List ℕ) (i s : ℕ) (before : Option ℕ) (m : Meaning) → length scopes ≤ i → before ≡ Some s → m ≡ only_with before (met ns name place (drop i scopes)) → Ok s ≡ one_meaning m
  met_one scopes i s before m h e k = ap one_meaning (sym (met_end scopes i before m h k ∙ ap (λ b. only_with b []) e))

  pub met_nothing : (scopes : List ℕ) (i : ℕ) (before : Option ℕ) (m : Meaning) → length scopes ≤ i → before ≡ None → m ≡ only_with before (met ns name place (drop i scopes)) → Err N1 ≡ one_meaning m
  met_nothing scopes i before m h e k = ap one_meaning (sym (met_end scopes i before m h k ∙ ap (λ b. only_with b []) e))
