-- The base classes of a class: a chain that ends has no repetition, and is the one that is computed.
use Rattle.std.proofs.Common.{◌≡◌, ◌∙◌, refl, sym, ap, subst, ℕ, zero, suc, ◌+◌, ◌<◌, ◌≤◌, ◌==◌, ◌||◌, Bool, true, false, List, [], ◌∷◌, length, map, Option, Some, None, slice_get, ◌⊎◌, inl, inr, arith}
use Rattle.std.proofs.lemmas.Bool.{eqb-true, cases_Bool}
use Rattle.std.proofs.lemmas.Option.{slice_get_cases}
use Rattle.std.proofs.lemmas.Map.Steps.{length-le_from_distinct_below}
use Rattle.std.specs.List.{AllByRecursion, IsDistinct, list_any, filter_map, flat_map}
use Rattle.std.specs.Option.{option_map}
use Rattle.vala_tree.specs.declared.member.FileTree.{FileTree}
use Rattle.symbols.specs.declared.table.Names.{Names}
use Rattle.symbols.specs.declared.table.Symbol.{Symbol}
use Rattle.symbols.specs.Laws.{IsIn, now, later}
use Rattle.symbols.specs.Outline.{and_then}
use Rattle.class_table.specs.Trees.{Program, program_of, members_in, member_at, written_of}
use Rattle.class_table.specs.Bases.{base_of, and_above, chain_within, chain, steps_of, first_class, base_number, standings, bases_by}
use Rattle.class_table.specs.Laws.{Chain, top, under, HasNoCycle}

module _ (p : Program) where
  some_is_none : (n b : ℕ) → base_of p n ≡ None → base_of p n ≡ Some b → ⊥
  some_is_none n b e f = grind (arith)

  same_base : (n a b : ℕ) → base_of p n ≡ Some a → base_of p n ≡ Some b → a ≡ b
  same_base n a b e f = grind (arith)

  -- a class has one chain
  pub same_chain : (n : ℕ) (xs bs : List ℕ) → Chain p n xs → Chain p n bs → xs ≡ bs
  same_chain n xs bs (top _ e) (top _ f) = refl
  same_chain n xs bs (top _ e) (under _ b cs f d) = absurd (some_is_none n b e f)
  same_chain n xs bs (under _ a cs e c) (top _ f) = absurd (some_is_none n a f e)
  same_chain n xs bs (under _ a cs e c) (under _ b ds f d) =
      let q : a ≡ b = same_base n a b e f in
      ap (λ (x : ℕ). x ∷ cs) q ∙ ap (λ (ys : List ℕ). b ∷ ys) (same_chain b cs ds (subst (λ (x : ℕ). Chain p x cs) q c) d)

  -- what stands in a chain has a shorter one
  pub data Shorter (m : ℕ) (cs : List ℕ) : Type 0 where
    shorter : (ds : List ℕ) → Chain p m ds → length ds < length cs → Shorter m cs

  beyond : (m b : ℕ) (bs : List ℕ) → Shorter m bs → Shorter m (b ∷ bs)
  beyond m b bs (shorter ds d h) = shorter ds d (omega (arith, h))

  pub chain_of : (n m : ℕ) (cs : List ℕ) → Chain p n cs → IsIn m cs → Shorter m cs
  chain_of n m cs (top _ e) i = elim i [ ]
  chain_of n m cs (under _ b bs e c) (now _) = shorter bs c (omega arith)
  chain_of n m cs (under _ b bs e c) (later _ _ i) = beyond m b bs (chain_of b m bs c i)

  not_shorter : (n : ℕ) (cs : List ℕ) → Chain p n cs → Shorter n cs → ⊥
  not_shorter n cs c (shorter ds d h) = let e : length cs ≡ length ds = ap length (same_chain n cs ds c d) in omega (arith, e, h)

  -- a class is not above itself
  pub not_above : (n : ℕ) (cs : List ℕ) → Chain p n cs → IsIn n cs → ⊥
  not_above n cs c i = not_shorter n cs c (chain_of n n cs c i)

  all_other : (n : ℕ) (cs : List ℕ) → (IsIn n cs → ⊥) → AllByRecursion (λ y. (n == y) ≡ false) cs
  all_other n [] h = tt
  all_other n (b ∷ bs) h = (differ (n == b) refl, all_other n bs (λ i. h (later b bs i)))
    where
      differ : (t : Bool) → (n == b) ≡ t → t ≡ false
      differ false e = refl
      differ true e = absurd (h (subst (λ (x : ℕ). IsIn x (b ∷ bs)) (sym (same e)) (now bs)))
        where
          same : (n == b) ≡ true → n ≡ b
          same q = grind (arith)

  -- A CHAIN HAS NO REPETITION
  pub chain_is_distinct : (n : ℕ) (cs : List ℕ) → Chain p n cs → IsDistinct (λ x y. x == y) (n ∷ cs)
  unfolding IsDistinct
  chain_is_distinct n cs (top _ e) = (tt, tt)
  chain_is_distinct n cs (under _ b bs e c) = (all_other n (b ∷ bs) (not_above n (b ∷ bs) (under n b bs e c)), chain_is_distinct b bs c)

  -- so many steps find a chain that is no longer
  pub chain_found : (k n : ℕ) (cs : List ℕ) → Chain p n cs → length cs ≤ k → chain_within p k n ≡ cs
  chain_found zero n cs (top _ e) h = refl
  chain_found (suc k) n cs (top _ e) h = ap (and_above (chain_within p k)) e
  chain_found zero n cs (under _ b bs e c) h = grind (arith)
  chain_found (suc k) n cs (under _ b bs e c) h = ap (and_above (chain_within p k)) e ∙ ap (λ (xs : List ℕ). b ∷ xs) (chain_found k b bs c (omega (arith, h)))

-- the classes of a chain that have a base class: all but the last
pub behind : ℕ → List ℕ → List ℕ
behind n [] = []
behind n (b ∷ bs) = n ∷ behind b bs

length_behind : (n : ℕ) (cs : List ℕ) → length (behind n cs) ≡ length cs
unfolding behind
length_behind n [] = refl
length_behind n (b ∷ bs) = ap (λ k. suc k) (length_behind b bs)

other_behind : (x n : ℕ) (cs : List ℕ) → AllByRecursion (λ y. (x == y) ≡ false) (n ∷ cs) → AllByRecursion (λ y. (x == y) ≡ false) (behind n cs)
unfolding behind
other_behind x n [] h = tt
other_behind x n (b ∷ bs) (e, h) = (e, other_behind x b bs h)

distinct_behind : (n : ℕ) (cs : List ℕ) → IsDistinct (λ x y. x == y) (n ∷ cs) → IsDistinct (λ x y. x == y) (behind n cs)
unfolding behind IsDistinct
distinct_behind n [] h = tt
distinct_behind n (b ∷ bs) (e, h) = (other_behind n b bs e, distinct_behind b bs h)

-- what is one number or among some
one_or : (q n : ℕ) (rest : Bool) → ((q == n) || rest) ≡ true → (q ≡ n) ⊎ (rest ≡ true)
one_or q n rest h = by (q == n) refl h
  where
    by : (t : Bool) → (q == n) ≡ t → (t || rest) ≡ true → (q ≡ n) ⊎ (rest ≡ true)
    by true e g = inl (eqb-true q n e)
    by false e g = inr g

-- only a declaration has a base class
abbrev pub HasNumber : Program → Type 0
HasNumber p = (m b : ℕ) → base_of p m ≡ Some b → m < steps_of p

pub program_has_numbers : (ns : Names) (files : List FileTree) → HasNumber (program_of ns files)
program_has_numbers ns files m b h = elim (slice_get_cases ns.symbols m).1 as (λ s. m < length ns.symbols) [ inl found ↦ found.1 | inr past ↦ absurd (none_is_some b (sym (without past.1) ∙ h)) ]
  where
    none_is_some : (b : ℕ) → None ≡ Some b → ⊥
    none_is_some b e = grind (arith)

    without : slice_get ns.symbols m ≡ None → base_of (program_of ns files) m ≡ None
    without e = ap (λ (o : Option Symbol). first_class (program_of ns files) (filter_map base_number (standings (program_of ns files) m false (bases_by (option_map written_of (and_then o (member_at (flat_map members_in files)))))))) e

module _ (p : Program) (bound : HasNumber p) where
  below : (n : ℕ) (cs : List ℕ) → Chain p n cs → (q : ℕ) → list_any (λ y. q == y) (behind n cs) ≡ true → q < steps_of p
  unfolding behind
  below n cs (top _ e) q h = grind (arith)
  below n cs (under _ b bs e c) q h =
      elim (one_or q n (list_any (λ y. q == y) (behind b bs)) h) as (λ s. q < steps_of p) [ inl same ↦ subst (λ (x : ℕ). x < steps_of p) (sym same) (bound n b e) | inr rest ↦ below b bs c q rest ]

  -- A CHAIN THAT ENDS is the one that is computed
  pub chain_is_computed : (n : ℕ) (cs : List ℕ) → Chain p n cs → chain p n ≡ cs
  chain_is_computed n cs c =
      let few : length (behind n cs) ≤ steps_of p = length-le_from_distinct_below (behind n cs) (steps_of p) (distinct_behind n cs (chain_is_distinct p n cs c)) (below n cs c) in
      let same : length (behind n cs) ≡ length cs = length_behind n cs in
      chain_found p (steps_of p) n cs c (omega (arith, few, same))

-- where no class is above itself, each chain ends
module _ (p : Program) (bound : HasNumber p) (free : HasNoCycle p) where
  more_above : (k l x : ℕ) (o : Option ℕ) → ((b : ℕ) → IsIn x (chain_within p k b) → IsIn x (chain_within p l b)) → IsIn x (and_above (chain_within p k) o) → IsIn x (and_above (chain_within p l) o)
  more_above k l x None more i = elim i [ ]
  more_above k l x (Some b) more (now _) = now (chain_within p l b)
  more_above k l x (Some b) more (later _ _ i) = later b (chain_within p l b) (more b i)

  more : (k l n x : ℕ) → k ≤ l → IsIn x (chain_within p k n) → IsIn x (chain_within p l n)
  more zero l n x h i = elim i [ ]
  more (suc k) zero n x h i = grind (arith)
  more (suc k) (suc l) n x h i = more_above k l x (base_of p n) (λ b. more k l b x (omega (arith, h))) i

  not_within : (k n : ℕ) → k ≤ steps_of p → IsIn n (chain_within p k n) → ⊥
  not_within k n h i = free n (more k (steps_of p) n n h i)

  distinct_above : (k n : ℕ) (o : Option ℕ) → (IsIn n (and_above (chain_within p k) o) → ⊥) → ((b : ℕ) → IsDistinct (λ x y. x == y) (b ∷ chain_within p k b)) → IsDistinct (λ x y. x == y) (n ∷ and_above (chain_within p k) o)
  unfolding IsDistinct
  distinct_above k n None out known = (tt, tt)
  distinct_above k n (Some b) out known = (all_other p n (b ∷ chain_within p k b) out, known b)

  within_is_distinct : (k n : ℕ) → k ≤ steps_of p → IsDistinct (λ x y. x == y) (n ∷ chain_within p k n)
  unfolding IsDistinct
  within_is_distinct zero n h = (tt, tt)
  within_is_distinct (suc k) n h = distinct_above k n (base_of p n) (not_within (suc k) n h) (λ b. within_is_distinct k b (omega (arith, h)))

  -- so many steps come to the end, or find so many classes that all have a base class
  pub data Steps (k n : ℕ) : Type 0 where
    ended : Chain p n (chain_within p k n) → Steps k n
    going : ((q : ℕ) → list_any (λ y. q == y) (n ∷ chain_within p k n) ≡ true → q < steps_of p) → length (chain_within p k n) ≡ k → Steps k n

  no_step : (n : ℕ) (o : Option ℕ) → base_of p n ≡ o → Steps zero n
  no_step n None e = ended (top n e)
  no_step n (Some b) e = going (λ q h. elim (one_or q n false h) as (λ s. q < steps_of p) [ inl same ↦ subst (λ (x : ℕ). x < steps_of p) (sym same) (bound n b e) | inr rest ↦ grind (arith) ]) refl

  step_on : (k n b : ℕ) → base_of p n ≡ Some b → Steps k b → Steps (suc k) n
  step_on k n b e (ended c) = ended (subst (λ (o : Option ℕ). Chain p n (and_above (chain_within p k) o)) (sym e) (under n b (chain_within p k b) e c))
  step_on k n b e (going f l) =
      going (λ q h. let g : list_any (λ y. q == y) (n ∷ b ∷ chain_within p k b) ≡ true = subst (λ (o : Option ℕ). list_any (λ y. q == y) (n ∷ and_above (chain_within p k) o) ≡ true) e h in
      elim (one_or q n (list_any (λ y. q == y) (b ∷ chain_within p k b)) g) as (λ s. q < steps_of p) [ inl same ↦ subst (λ (x : ℕ). x < steps_of p) (sym same) (bound n b e) | inr rest ↦ f q rest ])
      (ap (λ (o : Option ℕ). length (and_above (chain_within p k) o)) e ∙ ap (λ j. suc j) l)

  next_step : (k n : ℕ) (o : Option ℕ) → base_of p n ≡ o → ((b : ℕ) → Steps k b) → Steps (suc k) n
  next_step k n None e known = ended (subst (λ (o : Option ℕ). Chain p n (and_above (chain_within p k) o)) (sym e) (top n e))
  next_step k n (Some b) e known = step_on k n b e (known b)

  steps : (k n : ℕ) → Steps k n
  steps zero n = no_step n (base_of p n) refl
  steps (suc k) n = next_step k n (base_of p n) refl (steps k)

  all_ended : (n : ℕ) → Steps (steps_of p) n → Chain p n (chain p n)
  all_ended n (ended c) = c
  all_ended n (going f l) =
      let few : length (n ∷ chain p n) ≤ steps_of p = length-le_from_distinct_below (n ∷ chain p n) (steps_of p) (within_is_distinct (steps_of p) n (omega arith)) f in
      absurd (too_many (length (chain p n)) (steps_of p) few l)
    where
      too_many : (a b : ℕ) → suc a ≤ b → a ≡ b → ⊥
      too_many a b h e = omega (arith, h, e)

  -- WHERE NO CLASS IS ABOVE ITSELF what is computed is a whole chain
  pub computed_is_chain : (n : ℕ) → Chain p n (chain p n)
  computed_is_chain n = all_ended n (steps (steps_of p) n)
