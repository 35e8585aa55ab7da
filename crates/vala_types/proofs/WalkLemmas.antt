-- What a walk over bases met, and that it misses none.
use Rattle.std.proofs.Common.{◌≡◌, ℕ, zero, suc, ◌<◌, ◌≤◌, ◌==◌, ◌++◌, Bool, true, false, List, [], ◌∷◌, length, replicate, slice_index_or, slice_set, inl, inr, refl, sym, ap, ◌∙◌, subst, arith}
use Rattle.std.proofs.lemmas.Bool.{eq-eqb, eqb-true, cases_Bool, cases_lt}
use Rattle.std.proofs.lemmas.List.{get_or_past, get_or_default, length-set, get_or-set_same, get_or-set_other, length-append, length-replicate, get_or-replicate, append-nil, append_assoc}
use Rattle.std.proofs.lemmas.List.Elements.{Contains-append_left, Contains-push, Contains-push_cases}
use Rattle.std.proofs.lemmas.List.Sums.{sum_by-cons, sum_by-set}
use Rattle.std.specs.List.{Contains}
use Rattle.vala_types.specs.declared.walk.Found.{Found}
use Rattle.vala_types.specs.Walk.{value_of, count_marks, IsCounted, add, add_all}

mark_at_most : (t : Bool) → value_of t ≤ 1
mark_at_most true = omega arith
mark_at_most false = omega arith

pub count_at_most : (marks : List Bool) → count_marks marks ≤ length marks
count_at_most [] = omega arith
count_at_most (m ∷ ms) =
    let h : count_marks ms ≤ length ms = count_at_most ms in
    let t : value_of m ≤ 1 = mark_at_most m in
    rw (sum_by-cons value_of m ms) (omega (arith, h, t))

-- one more mark
count_marked : (marks : List Bool) (i : ℕ) → i < length marks → slice_index_or marks i true ≡ false → count_marks (slice_set marks i true) ≡ suc (count_marks marks)
count_marked marks i low e =
    let h = sum_by-set value_of marks i true true low in
    let z : value_of (slice_index_or marks i true) ≡ 0 = ap value_of e in
    omega (arith, h, z)

-- while a number is not marked there is room for it
pub room : (found : Found) (n i : ℕ) → IsCounted found → length found.marks ≡ n → i < n → slice_index_or found.marks i false ≡ false → length found.list.items < n
room found n i counted sized low e =
    let inside : i < length found.marks = omega (arith, sized, low) in
    let more = count_marked found.marks i inside (get_or_default found.marks i true false inside ∙ e) in
    let most = count_at_most (slice_set found.marks i true) in
    let same = length-set found.marks i true in
    omega (arith, counted, sized, more, most, same)

below : (marks : List Bool) (i : ℕ) → slice_index_or marks i true ≡ false → i < length marks
below marks i e =
    elim (cases_lt i (length marks)) [
      | inl low ↦ low
      | inr high ↦ let t : true ≡ false = sym (get_or_past marks i true high) ∙ e in cc
    ]

pub counted_add : (number : ℕ) (found : Found) → IsCounted found → IsCounted (add number found)
counted_add number found counted =
    elim (cases_Bool (slice_index_or found.marks number true)) [
      | inl there ↦ rw there counted
      | inr free ↦
          let more = count_marked found.marks number (below found.marks number free) free in
          let longer = length-append found.list.items (number ∷ []) in
          rw free (omega (arith, counted, more, longer))
    ]

pub counted_all : (numbers : List ℕ) (found : Found) → IsCounted found → IsCounted (add_all numbers found)
counted_all [] found counted = counted
counted_all (number ∷ others) found counted = counted_all others (add number found) (counted_add number found counted)

pub unmarked : (n i : ℕ) → slice_index_or (replicate n false) i false ≡ false
unmarked n i =
    elim (cases_lt i n) [
      | inl low ↦ get_or-replicate n i false false low
      | inr high ↦ get_or_past (replicate n false) i false (rw (length-replicate n false) high)
    ]

pub size_add : (number : ℕ) (found : Found) → length (add number found).marks ≡ length found.marks
size_add number found =
    elim (cases_Bool (slice_index_or found.marks number true)) [
      | inl there ↦ rw there refl
      | inr free ↦ rw free (length-set found.marks number true)
    ]

pub size_all : (numbers : List ℕ) (found : Found) → length (add_all numbers found).marks ≡ length found.marks
size_all [] found = refl
size_all (number ∷ others) found = size_all others (add number found) ∙ size_add number found

-- what is listed stays where it is
abbrev pub IsLonger : List ℕ → List ℕ → Type 0
IsLonger xs ys = (more : List ℕ) × (ys ≡ xs ++ more)

longer_add : (number : ℕ) (found : Found) → IsLonger found.list.items (add number found).list.items
longer_add number found =
    elim (cases_Bool (slice_index_or found.marks number true)) [
      | inl there ↦ rw there ([], sym (append-nil found.list.items))
      | inr free ↦ rw free (number ∷ [], refl)
    ]

pub longer_all : (numbers : List ℕ) (found : Found) → IsLonger found.list.items (add_all numbers found).list.items
longer_all [] found = ([], sym (append-nil found.list.items))
longer_all (number ∷ others) found =
    let one = longer_add number found in
    let rest = longer_all others (add number found) in
    (one.0 ++ rest.0, rest.1 ∙ ap (λ xs. xs ++ rest.0) one.1 ∙ append_assoc found.list.items one.0 rest.0)

-- a mark stays
mark_kept : (number : ℕ) (found : Found) (x : ℕ) → slice_index_or found.marks x false ≡ true → slice_index_or (add number found).marks x false ≡ true
mark_kept number found x h =
    elim (cases_Bool (slice_index_or found.marks number true)) [
      | inl there ↦ rw there h
      | inr free ↦
          rw free (elim (cases_Bool (x == number)) [
            | inl same ↦
                let e : x ≡ number = eqb-true x number same in
                rw e (get_or-set_same found.marks number true false (below found.marks number free))
            | inr other ↦ get_or-set_other found.marks number x true false (λ e. let t = eq-eqb x number e in cc) ∙ h
          ])
    ]

pub marks_kept : (numbers : List ℕ) (found : Found) (x : ℕ) → slice_index_or found.marks x false ≡ true → slice_index_or (add_all numbers found).marks x false ≡ true
marks_kept [] found x h = h
marks_kept (number ∷ others) found x h = marks_kept others (add number found) x (mark_kept number found x h)

-- what is added has its mark
pub mark_set : (number : ℕ) (found : Found) → number < length found.marks → slice_index_or (add number found).marks number false ≡ true
mark_set number found low =
    elim (cases_Bool (slice_index_or found.marks number true)) [
      | inl there ↦ rw there (get_or_default found.marks number false true low ∙ there)
      | inr free ↦ rw free (get_or-set_same found.marks number true false low)
    ]

pub marks_set : (numbers : List ℕ) (found : Found) (x : ℕ) → Contains numbers x → x < length found.marks → slice_index_or (add_all numbers found).marks x false ≡ true
marks_set [] found x (i, low, e) inside = absurd (omega (arith, low))
marks_set (number ∷ others) found x (zero, low, e) inside =
    let same : number ≡ x = e in
    marks_kept others (add number found) x (subst (λ y. slice_index_or (add number found).marks y false ≡ true) same (mark_set number found (rw same inside)))
marks_set (number ∷ others) found x (suc i, low, e) inside =
    let less : i < length others = omega (arith, low) in
    marks_set others (add number found) x (i, less, e) (rw (size_add number found) inside)

-- Each number in the list is of a kind, and each mark is that of a listed number.
pub record IsSound (kind : ℕ → Type 0) (found : Found) : Type 0 where
  pub listed : (x : ℕ) → Contains found.list.items x → kind x
  pub marked : (x : ℕ) → slice_index_or found.marks x false ≡ true → Contains found.list.items x

pub sound_add : (kind : ℕ → Type 0) (number : ℕ) (found : Found) → kind number → IsSound kind found → IsSound kind (add number found)
sound_add kind number found k sound =
    elim (cases_Bool (slice_index_or found.marks number true)) [
      | inl there ↦ rw there sound
      | inr free ↦
          rw free (record {
            listed =
                λ x c. elim (Contains-push_cases found.list.items number x c) [
                  | inl old ↦ sound.listed x old
                  | inr new ↦ subst kind new k
                ];
            marked =
                λ x h. elim (cases_Bool (x == number)) [
                  | inl same ↦ let e : x ≡ number = eqb-true x number same in rw e (Contains-push found.list.items number)
                  | inr other ↦
                      Contains-append_left found.list.items (number ∷ []) x
                      (sound.marked x (sym (get_or-set_other found.marks number x true false (λ e. let t = eq-eqb x number e in cc)) ∙ h))
                ];
          })
    ]

pub sound_all : (kind : ℕ → Type 0) (numbers : List ℕ) (found : Found) → ((x : ℕ) → Contains numbers x → kind x) → IsSound kind found → IsSound kind (add_all numbers found)
sound_all kind [] found k sound = sound
sound_all kind (number ∷ others) found k sound =
    let z : 0 < length (number ∷ others) = omega arith in
    sound_all kind others (add number found) (λ x c. k x (suc c.0, omega (arith, c.1), c.2)) (sound_add kind number found (k number (0, z, refl)) sound)
