-- Marks that are added and set.
use Rattle.std.proofs.Common.{inl, inr, ◌≢◌, eq-eqb, ne_eqb, ◌≡◌, ◌∙◌, refl, sym, ap, ℕ, zero, suc, ◌-◌, ◌<◌, ◌≤◌, false, List, [], ◌∷◌, ◌++◌, length, Option, None, Result, Ok, Err, arith, set, cond, nat_eq}
use Rattle.std.specs.Prelude.{slice_get}
use Rattle.std.proofs.lemmas.Bool.Decides.{eqb_tells}
use Rattle.std.specs.Result.{is_ok, is_err}
use Rattle.glib_model.specs.declared.kinds.Mark.{Mark}
use Rattle.glib_model.specs.Kinds.{joined, mark_at}

-- what was pushed stands last
pub pushed_on : {A E V : Type 0} (r : Result A E) (now long short : List V) → is_err r ≡ false → now ≡ cond (is_ok r) long short → now ≡ long
pushed_on (Ok x) now long short ok is = is
pushed_on (Err e) now long short ok is = cc

none_behind : (marks : List (Option Mark)) (n : ℕ) → joined (slice_get (marks ++ None ∷ []) n) ≡ joined (slice_get marks n)
none_behind [] zero = refl
none_behind [] (suc n) = refl
none_behind (m ∷ marks) zero = refl
none_behind (m ∷ marks) (suc n) = none_behind marks n

pub nothing_more : (marks : List (Option Mark)) (k : ℕ) → mark_at (marks ++ None ∷ []) k ≡ mark_at marks k
nothing_more marks zero = refl
nothing_more marks (suc n) = none_behind marks n

eq_suc : (a b : ℕ) → nat_eq (suc a) (suc b) ≡ nat_eq a b
eq_suc a b =
    elim (eqb_tells a b) [
      | inl same ↦ eq-eqb (suc a) (suc b) (ap suc same.1) ∙ sym same.0
      | inr apart ↦ ne_eqb (suc a) (suc b) (λ e. let other : a ≢ b = apart.1 in omega arith) ∙ sym apart.0
    ]

set_at : (marks : List (Option Mark)) (n : ℕ) (mark : Option Mark) (k : ℕ) → n < length marks → joined (slice_get (set marks n mark) k) ≡ cond (nat_eq k n) mark (joined (slice_get marks k))
set_at [] n mark k within = absurd (omega arith)
set_at (m ∷ marks) zero mark zero within = refl
set_at (m ∷ marks) zero mark (suc k) within = ap (λ b. cond b mark (joined (slice_get marks k))) (sym (ne_eqb (suc k) 0 (λ e. omega arith)))
set_at (m ∷ marks) (suc n) mark zero within = ap (λ b. cond b mark m) (sym (ne_eqb 0 (suc n) (λ e. omega arith)))
set_at (m ∷ marks) (suc n) mark (suc k) within = set_at marks n mark k (omega arith) ∙ ap (λ b. cond b mark (joined (slice_get marks k))) (sym (eq_suc k n))

-- just the mark with the number is another one
pub mark_set : (marks : List (Option Mark)) (n : ℕ) (mark : Option Mark) (k : ℕ) → 0 < n → n ≤ length marks → mark_at (set marks (n - 1) mark) k ≡ cond (nat_eq k n) mark (mark_at marks k)
mark_set marks zero mark k some within = absurd (omega arith)
mark_set marks (suc n) mark zero some within = ap (λ b. let o : Option Mark = cond b mark None in o) (sym (ne_eqb 0 (suc n) (λ e. omega arith)))
mark_set marks (suc n) mark (suc k) some within =
    ap (λ i. joined (slice_get (set marks i mark) k)) (let same : suc n - 1 ≡ n = omega arith in same) ∙ set_at marks n mark k (omega arith)
    ∙ ap (λ b. cond b mark (joined (slice_get marks k))) (sym (eq_suc k n))
