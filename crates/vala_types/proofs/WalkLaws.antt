-- The walk over bases, step by step.
use Rattle.std.proofs.Common.{◌≡◌, ℕ, ◌+◌, ◌<◌, ◌≤◌, ◌==◌, true, false, List, [], ◌∷◌, length, slice_index_or, ◌⊎◌, inl, inr, refl, sym, ap, ◌∙◌, subst, arith}
use Rattle.std.proofs.lemmas.Bool.{eq-eqb, eqb-true, cases_Bool, cases_lt}
use Rattle.std.proofs.lemmas.List.{get_or_default, get_or_append_left}
use Rattle.std.proofs.lemmas.List.Elements.{Contains-append_left, Contains-get_or}
use Rattle.std.proofs.lemmas.List.Folds.{Any-from_list_any, list_any_at}
use Rattle.std.specs.List.{Any, Contains, list_any}
use Rattle.vala_types.specs.declared.ties.Ties.{Ties}
use Rattle.vala_types.specs.declared.walk.Found.{Found}
use Rattle.vala_types.specs.Ties.{bases_of, IsDirectBase, HasBase, direct, beyond}
use Rattle.vala_types.specs.Tests.{has_base}
use Rattle.vala_types.specs.Walk.{IsCounted, add, add_all}
use Rattle.vala_types.proofs.FitsLaws.{join}
use Rattle.vala_types.proofs.TiesLemmas.{decides_base, none_past}
use Rattle.vala_types.proofs.WalkLemmas.{IsSound, count_at_most, counted_add, counted_all, size_add, size_all, longer_all, mark_set, marks_kept, marks_set, sound_add, sound_all}

-- what the walk may list: the number that it begins with, and its bases
abbrev pub IsOnWay : Ties → ℕ → ℕ → Type 0
IsOnWay ties number x = (x ≡ number) ⊎ HasBase ties number x

-- a direct base of what was looked at is not the one that is looked for, and has its mark
abbrev IsPassed : ℕ → Found → ℕ → Type 0
IsPassed base found next = (next ≡ base → ⊥) × (next < 131072 → slice_index_or found.marks next false ≡ true)

-- The walk from a number: it lists that and bases of it, and the bases of the first `at` of them are passed.
pub record IsWalk (ties : Ties) (number base : ℕ) (found : Found) (at : ℕ) : Type 0 where
  pub counted : IsCounted found
  pub sized : length found.marks ≡ 131072
  pub sound : IsSound (IsOnWay ties number) found
  pub first : Contains found.list.items number
  pub passed :
      (i : ℕ) → i < at → i < length found.list.items → (next : ℕ) → IsDirectBase ties (slice_index_or found.list.items i 0) next → IsPassed base found next

-- from a number without a row nothing is reached
no_base_past : (ties : Ties) (x b : ℕ) → length ties.rows ≤ x → HasBase ties x b → ⊥
no_base_past ties x b past h =
    let t : true ≡ false = sym ((decides_base ties x b).1 h) ∙ none_past ties b (length ties.rows) x past in
    absurd (cc)

none_listed : (xs : List ℕ) (x : ℕ) → xs ≡ [] → Contains xs x → ⊥
none_listed xs x e c = let z : length xs ≡ 0 = ap length e in let low : c.0 < length xs = c.1 in absurd (omega (arith, z, low))

pub walk_begins :
    (ties : Ties) (number base : ℕ) (found : Found) → IsCounted found → length found.marks ≡ 131072
    → ((x : ℕ) → slice_index_or found.marks x false ≡ false) → found.list.items ≡ [] → number < 131072 → IsWalk ties number base (add number found) 0
walk_begins ties number base found counted sized unmarked empty low =
    let sound : IsSound (IsOnWay ties number) found = record {
      listed = λ x c. absurd (none_listed found.list.items x empty c);
      marked = λ x h. let t : true ≡ false = sym h ∙ unmarked x in cc;
    } in
    let more : IsSound (IsOnWay ties number) (add number found) = sound_add (IsOnWay ties number) number found (inl refl) sound in
    record {
      counted = counted_add number found counted;
      sized = size_add number found ∙ sized;
      sound = more;
      first = more.marked number (mark_set number found (rw sized low));
      passed = λ i h _ _ _. absurd (omega (arith, h));
    }

-- a base of what is on the way is a base
pub on_way : (ties : Ties) (number x next : ℕ) → IsOnWay ties number x → IsDirectBase ties x next → HasBase ties number next
on_way ties number x next (inl same) d = let P : ℕ → Type 0 = λ y. IsDirectBase ties y next in direct number next (subst P same d)
on_way ties number x next (inr h) d = join ties number x next h (direct x next d)

listed_at : (ties : Ties) (number base at : ℕ) (found : Found) → IsWalk ties number base found at → (i : ℕ) → i < length found.list.items → IsOnWay ties number (slice_index_or found.list.items i 0)
listed_at ties number base at found walk i low = walk.sound.listed (slice_index_or found.list.items i 0) (Contains-get_or found.list.items i 0 low)

not_that : (base : ℕ) (xs : List ℕ) → list_any (λ y. y == base) xs ≡ false → (next : ℕ) → Contains xs next → next ≡ base → ⊥
not_that base xs none next (i, low, e) same =
    let t : list_any (λ y. y == base) xs ≡ true = list_any_at (λ y. y == base) xs i next low (ap (λ y. y == base) e ∙ eq-eqb next base same) in
    let f : true ≡ false = sym t ∙ none in
    absurd (cc)

pub walk_goes_on :
    (ties : Ties) (number base at : ℕ) (found : Found) → IsWalk ties number base found at → at < length found.list.items
    → list_any (λ y. y == base) (bases_of ties (slice_index_or found.list.items at 0)) ≡ false
    → IsWalk ties number base (add_all (bases_of ties (slice_index_or found.list.items at 0)) found) (at + 1)
walk_goes_on ties number base at found walk low none =
    let here : ℕ = slice_index_or found.list.items at 0 in
    let bases : List ℕ = bases_of ties here in
    let way : IsOnWay ties number here = listed_at ties number base at found walk at low in
    let longer = longer_all bases found in
    let sound : IsSound (IsOnWay ties number) (add_all bases found) =
    sound_all (IsOnWay ties number) bases found (λ x c. inr (on_way ties number here x way c)) walk.sound in
    let passed_here : (next : ℕ) → IsDirectBase ties here next → IsPassed base (add_all bases found) next =
    λ next d. (not_that base bases none next d, λ h. marks_set bases found next d (rw walk.sized h)) in
    let same_at : (i : ℕ) → i < length found.list.items → slice_index_or (add_all bases found).list.items i 0 ≡ slice_index_or found.list.items i 0 =
    λ i h. ap (λ xs. slice_index_or xs i 0) longer.1 ∙ get_or_append_left found.list.items longer.0 0 i h in
    let passed_at : (i : ℕ) → i < at + 1 → (next : ℕ) → IsDirectBase ties (slice_index_or (add_all bases found).list.items i 0) next → IsPassed base (add_all bases found) next =
    λ i h next d. elim (cases_lt i at) [
      | inl before ↦
          let inside : i < length found.list.items = omega (arith, before, low) in
          let D : ℕ → Type 0 = λ y. IsDirectBase ties y next in
          let old : IsPassed base found next = walk.passed i before inside next (subst D (same_at i inside) d) in
          (old.0, λ l. marks_kept bases found next (old.1 l))
      | inr after ↦
          let e : i ≡ at = omega (arith, h, after) in
          let D : ℕ → Type 0 = λ y. IsDirectBase ties y next in
          let I : ℕ → Type 0 = λ k. IsDirectBase ties (slice_index_or (add_all bases found).list.items k 0) next in
          passed_here next (subst D (same_at at low) (subst I e d))
    ] in
    let C : List ℕ → Type 0 = λ xs. Contains xs number in
    record {
      counted = counted_all bases found walk.counted;
      sized = size_all bases found ∙ walk.sized;
      sound = sound;
      first = subst C (sym longer.1) (Contains-append_left found.list.items longer.0 number walk.first);
      passed = λ i h _ next d. passed_at i h next d;
    }

-- where everything that is listed is passed, no chain leads from it to the one that is looked for
no_chain :
    (ties : Ties) (number base at : ℕ) (found : Found) → IsWalk ties number base found at → length found.list.items ≤ at → length ties.rows ≤ 131072
    → (x b : ℕ) → HasBase ties x b → Contains found.list.items x → b ≡ base → ⊥
no_chain ties number base at found walk all few _ _ (direct x b d) (i, low, e) same =
    let D : ℕ → Type 0 = λ y. IsDirectBase ties y b in
    let here : slice_index_or found.list.items i 0 ≡ x = get_or_default found.list.items i 0 x low ∙ e in
    let passed : IsPassed base found b = walk.passed i (omega (arith, low, all)) low b (subst D (sym here) d) in
    passed.0 same
no_chain ties number base at found walk all few _ _ (beyond x next b d rest) (i, low, e) same =
    let D : ℕ → Type 0 = λ y. IsDirectBase ties y next in
    let here : slice_index_or found.list.items i 0 ≡ x = get_or_default found.list.items i 0 x low ∙ e in
    let passed : IsPassed base found next = walk.passed i (omega (arith, low, all)) low next (subst D (sym here) d) in
    elim (cases_lt next 131072) [
      | inl inside ↦ no_chain ties number base at found walk all few next b rest (walk.sound.marked next (passed.1 inside)) same
      | inr past ↦ no_base_past ties next b (omega (arith, few, past)) rest
    ]

pub has_no_base : (ties : Ties) (number base : ℕ) → (HasBase ties number base → ⊥) → false ≡ has_base ties number base
has_no_base ties number base none =
    elim (cases_Bool (has_base ties number base)) [
      | inl there ↦ absurd (none ((decides_base ties number base).0 there))
      | inr other ↦ sym other
    ]

-- the walk ends where it has looked at all that it lists
pub walk_ends :
    (ties : Ties) (number base at : ℕ) (found : Found) → IsWalk ties number base found at → length found.list.items ≤ at → length ties.rows ≤ 131072
    → false ≡ has_base ties number base
walk_ends ties number base at found walk all few =
    has_no_base ties number base (λ h. no_chain ties number base at found walk all few number base h walk.first refl)

-- the first base is a direct one
pub first_of : (ties : Ties) (at first : ℕ) (others : List ℕ) → bases_of ties at ≡ first ∷ others → IsDirectBase ties at first
first_of ties at first others e =
    let C : List ℕ → Type 0 = λ xs. Contains xs first in
    subst C (sym e) (0, omega arith, refl)

-- a number that is among the direct bases of what is on the way is a base
pub near_base :
    (ties : Ties) (number at base : ℕ) → IsOnWay ties number at → list_any (λ y. y == base) (bases_of ties at) ≡ true → HasBase ties number base
near_base ties number at base way any =
    let hit : Any (λ x. (x == base) ≡ true) (bases_of ties at) = Any-from_list_any (λ y. y == base) (bases_of ties at) any in
    let next : ℕ = hit.1 in
    let d : IsDirectBase ties at next = (hit.0, hit.2, hit.3) in
    let P : ℕ → Type 0 = λ b. HasBase ties number b in
    subst P (eqb-true next base hit.4) (on_way ties number at next way d)

-- and where that is one of the bases that it comes to
pub walk_finds :
    (ties : Ties) (number base at : ℕ) (found : Found) → IsWalk ties number base found at → at < length found.list.items
    → list_any (λ y. y == base) (bases_of ties (slice_index_or found.list.items at 0)) ≡ true → true ≡ has_base ties number base
walk_finds ties number base at found walk low any =
    let here : ℕ = slice_index_or found.list.items at 0 in
    let h : HasBase ties number base = near_base ties number here base (listed_at ties number base at found walk at low) any in
    sym ((decides_base ties number base).1 h)

-- there is no more to list than there are marks
pub walk_is_full : (ties : Ties) (number base at : ℕ) (found : Found) → IsWalk ties number base found at → length found.list.items ≤ 131072
walk_is_full ties number base at found walk =
    let h = count_at_most found.marks in
    let c = walk.counted in
    let s = walk.sized in
    omega (arith, h, c, s)
