-- How many of the steps that are asked for are made.
use Rattle.std.proofs.Common.{◌≡◌, ℕ, zero, suc, ◌+◌, ◌≤◌, Option, Some, None, refl, ap, ◌∙◌, arith}
use Rattle.vg_base.specs.Machine.{Machine, move, moves}
use Rattle.vg_base.proofs.MachineLaws.{moves_ended, run_is}
use Rattle.c_interpreter.specs.Kept.{made_unless, steps_made}

-- at an end none is made
pub made_end : {S E F : Type 0} → (M : Machine S E F) (n : ℕ) (s : S) (e : F) → M.ended s ≡ Some e → steps_made M n s ≡ 0
made_end M zero s e h = refl
made_end M (suc n) s e h = ap (λ o. made_unless o (steps_made M n (move M s).0)) h

-- n steps and then m
pub made_add : {S E F : Type 0} → (M : Machine S E F) (n m : ℕ) (s : S) → steps_made M (n + m) s ≡ steps_made M n s + steps_made M m (moves M n s)
made_add M zero m s = let e : 0 + m ≡ m = omega arith in let all : steps_made M (0 + m) s ≡ steps_made M m s = ap (λ k. steps_made M k s) e in omega (arith, all)
made_add {F = F} M (suc n) m s =
    let e : suc n + m ≡ suc (n + m) = omega arith in
    ap (λ k. steps_made M k s) e ∙ at (M.ended s) refl (made_add M n m (move M s).0)
  where
    at : (o : Option F) → M.ended s ≡ o
        → steps_made M (n + m) (move M s).0 ≡ steps_made M n (move M s).0 + steps_made M m (moves M n (move M s).0)
        → steps_made M (suc (n + m)) s ≡ steps_made M (suc n) s + steps_made M m (moves M (suc n) s)
    at None h more =
        let a : steps_made M (suc (n + m)) s ≡ steps_made M (n + m) (move M s).0 + 1 = ap (λ o. made_unless o (steps_made M (n + m) (move M s).0)) h in
        let b : steps_made M (suc n) s ≡ steps_made M n (move M s).0 + 1 = ap (λ o. made_unless o (steps_made M n (move M s).0)) h in
        omega (arith, more, a, b)
    at (Some x) h more =
        let a : steps_made M (suc (n + m)) s ≡ 0 = made_end M (suc (n + m)) s x h in
        let b : steps_made M (suc n) s ≡ 0 = made_end M (suc n) s x h in
        let d : steps_made M m (moves M (suc n) s) ≡ 0 = ap (steps_made M m) (moves_ended M (suc n) s x h) ∙ made_end M m s x h in
        omega (arith, a, b, d)

-- where there is no end, there was none before
pub none_before : {S E F : Type 0} → (M : Machine S E F) (k n : ℕ) (s : S) → k ≤ n → M.ended (moves M n s) ≡ None → M.ended (moves M k s) ≡ None
none_before {F = F} M k n s h last = at (M.ended (moves M k s)) refl
  where
    at : (o : Option F) → M.ended (moves M k s) ≡ o → M.ended (moves M k s) ≡ None
    at None e = e
    at (Some x) e = let stays : M.ended (moves M n s) ≡ Some x = (run_is M s).stays k n x h e in cc

-- without an end every step is made
pub made_all : {S E F : Type 0} → (M : Machine S E F) (n : ℕ) (s : S) → M.ended (moves M n s) ≡ None → steps_made M n s ≡ n
made_all M zero s h = refl
made_all M (suc n) s h =
    let first : M.ended s ≡ None = none_before M 0 (suc n) s (omega arith) h in
    let rest : steps_made M n (move M s).0 ≡ n = made_all M n (move M s).0 h in
    let a : steps_made M (suc n) s ≡ steps_made M n (move M s).0 + 1 = ap (λ o. made_unless o (steps_made M n (move M s).0)) first in
    omega (arith, a, rest)

-- no more steps are made than were asked for
pub made_bound : {S E F : Type 0} → (M : Machine S E F) (n : ℕ) (s : S) → steps_made M n s ≤ n
made_bound M zero s = omega arith
made_bound {F = F} M (suc n) s = at (M.ended s) (made_bound M n (move M s).0)
  where
    at : (o : Option F) → steps_made M n (move M s).0 ≤ n → made_unless o (steps_made M n (move M s).0) ≤ suc n
    at None h = omega arith
    at (Some x) h = omega arith
