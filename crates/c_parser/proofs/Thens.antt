-- What goes on with what is read.
use Rattle.std.proofs.Common.{◌≡◌, Bool, true, false, if◌then◌else◌, List, [], ◌∷◌, ◌++◌, Some, None, refl, sym, ap, append_assoc, append-nil}
use Rattle.mending_readers.specs.Mending.{mend_then}
use Rattle.c_cursor.specs.Reading.{Read, Place, first_then, behind}

pub then_just : {A : Type 0} (o : Read A) → mend_then o (λ a z. Some (a, z)) ≡ o
then_just None = refl
then_just (Some x) = refl

pub then_assoc : {A B D : Type 0} (o : Read A) (f : A → Place → Read B) (g : B → Place → Read D)
    → mend_then (mend_then o f) g ≡ mend_then o (λ a z. mend_then (f a z) g)
then_assoc None f g = refl
then_assoc (Some x) f g = refl

pub way_same : {A : Type 0} (b : Bool) {a c d e : Read A} → a ≡ d → c ≡ e → (if b then a else c) ≡ (if b then d else e)
way_same true h g = h
way_same false h g = g

-- lists
pub behind_start : {A : Type 0} (o : Read (List A)) → behind [] o ≡ o
unfolding behind
behind_start None = refl
behind_start (Some x) = refl

pub behind_more : {A : Type 0} (xs : List A) (x : A) (o : Read (List A)) → behind xs (first_then x o) ≡ behind (xs ++ x ∷ []) o
unfolding behind first_then
behind_more xs x None = refl
behind_more xs x (Some y) = ap (λ zs. Some (zs, y.1)) (sym (append_assoc xs (x ∷ []) y.0))

pub behind_end : {A : Type 0} (xs : List A) (z : Place) → behind xs (Some ([], z)) ≡ Some (xs, z)
unfolding behind
behind_end xs z = ap (λ ys. Some (ys, z)) (append-nil xs)

pub first_one : {A : Type 0} (x : A) (xs : List A) (z : Place) → first_then x (Some (xs, z)) ≡ Some (x ∷ xs, z)
unfolding first_then
first_one x xs z = refl

pub ruleset list_laws = (behind_start, behind_more, behind_end, first_one)
