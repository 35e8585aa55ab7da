-- The class sizes, and what is held when one block changes.
use Rattle.std.proofs.Common.{inl, inr, ◌≡◌, ◌∙◌, refl, sym, ap, subst, ℕ, zero, suc, ◌+◌, ◌*◌, ◌/◌, ◌^◌, ◌<◌, ◌≤◌, Bool, List, [], ◌∷◌, ◌++◌, length, Option, Some, None, arith, set}
use Rattle.std.specs.Prelude.{slice_get, cond, max}
use Rattle.std.specs.Int.{IsPowerOfTwo}
use Rattle.std.proofs.Math.Nat.{pow-suc, mul-le-mul_left}
use Rattle.std.proofs.lemmas.Nat.{pow_pos}
use Rattle.std.proofs.Math.Pow.{pow_mono}
use Rattle.std.proofs.lemmas.Bool.Decides.{leb_tells}
use Rattle.c_meaning.specs.declared.cell.Cell.{Cell}
use Rattle.c_meaning.specs.Blocks.{power_from}
use Rattle.cell_heap.specs.Sizes.{class_cells, held}

-- 1. Class sizes

-- twice a power that is at least 1 and at least n, halved, is no smaller than both
halved : (q n c : ℕ) → c ≡ q * 2 → 0 < q → n ≤ q → c / 2 < max 1 n → ⊥
halved q n c is positive le small = omega arith

doubled : (p x : ℕ) → p * (x * 2) ≡ (p * x) * 2
doubled p x = omega arith

moved : (p x : ℕ) → p * (x * 2) ≡ (p * 2) * x
moved p x = omega arith

grows : (p i : ℕ) → p ≤ p * 2 ^ i
grows p i = let more : p * 1 ≤ p * 2 ^ i = mul-le-mul_left p (let h : 1 ≤ 2 ^ i = pow_pos i in h) in omega arith

-- a power that is large enough is the first one
at_once : (p n c j : ℕ) → c ≡ p * 2 ^ j → n ≤ p → c / 2 < max 1 n → 0 < p → p ≡ c
at_once p n c zero is le small positive = omega arith
at_once p n c (suc i) is le small positive =
    let more = grows p i in
    let twice : c ≡ (p * 2 ^ i) * 2 = is ∙ ap (λ x. p * x) (pow-suc 2 i) ∙ doubled p (2 ^ i) in
    absurd (halved (p * 2 ^ i) n c twice (omega arith) (omega arith) small)

abbrev chosen : ℕ → ℕ → ℕ → ℕ → Bool → Type 0
chosen k p n c b = cond b p (power_from k (p * 2) n) ≡ c

-- of the powers p, 2 p, 4 p .. the first that is at least n
least : (k p n c j : ℕ) → c ≡ p * 2 ^ j → j ≤ k → n ≤ c → c / 2 < max 1 n → 0 < p → power_from k p n ≡ c
least zero p n c zero is le fits small positive = omega arith
least zero p n c (suc j) is le fits small positive = absurd (omega arith)
least (suc k) p n c zero is le fits small positive =
    elim (leb_tells n p) [
      | inl enough ↦ subst (chosen k p n c) (sym enough.0) (at_once p n c zero is enough.1 small positive)
      | inr less ↦ absurd (let lt : p < n = less.1 in omega arith)
    ]
least (suc k) p n c (suc i) is le fits small positive =
    let next : c ≡ (p * 2) * 2 ^ i = is ∙ ap (λ x. p * x) (pow-suc 2 i) ∙ moved p (2 ^ i) in
    elim (leb_tells n p) [
      | inl enough ↦ subst (chosen k p n c) (sym enough.0) (at_once p n c (suc i) is enough.1 small positive)
      | inr less ↦ subst (chosen k p n c) (sym less.0) (least k (p * 2) n c i next (omega arith) fits small (omega arith))
    ]

few : (k p n : ℕ) → p ≡ 2 ^ k → n ≤ 2 ^ 63 → p / 2 < max 1 n → k ≤ 64
few k p n is bound small =
    elim (leb_tells k 64) [
      | inl fits ↦ fits.1
      | inr more ↦ absurd (let large : 2 ^ 65 ≤ 2 ^ k = pow_mono (let h : 65 ≤ k = (let lt : 64 < k = more.1 in omega arith) in h) in omega arith)
    ]

-- the least power of two that is at least n is the class of n
pub class_is : (n p : ℕ) → n ≤ 2 ^ 63 → IsPowerOfTwo p → n ≤ p → p / 2 < max 1 n → p ≡ class_cells n
unfolding class_cells
class_is n p bound power fits small = sym (least 64 1 n p power.0 (power.1 ∙ sym (once (2 ^ power.0))) (few power.0 p n power.1 bound small) fits small (omega arith))
  where
    once : (x : ℕ) → 1 * x ≡ x
    once x = omega arith

-- 2. What is held

abbrev pub size_of : Option (List Cell) → ℕ
size_of None = 0
size_of (Some cells) = class_cells (length cells)

held-cons : (b : Option (List Cell)) (bs : List (Option (List Cell))) → held (b ∷ bs) ≡ size_of b + held bs
held-cons None bs = omega arith
held-cons (Some cells) bs = refl

pub held-push : (bs : List (Option (List Cell))) (b : Option (List Cell)) → held (bs ++ b ∷ []) ≡ held bs + size_of b
held-push [] b = let one = held-cons b [] in omega arith
held-push (x ∷ bs) b =
    let all = held-cons x (bs ++ b ∷ []) in
    let old = held-cons x bs in
    let more = held-push bs b in
    omega arith

pub held-set : (bs : List (Option (List Cell))) (i : ℕ) (old new : Option (List Cell)) → slice_get bs i ≡ Some old → held (set bs i new) + size_of old ≡ held bs + size_of new
held-set [] i old new is = cc
held-set (b ∷ bs) zero old new is =
    let same : b ≡ old = cc in
    let sizes : size_of b ≡ size_of old = ap size_of same in
    let was = held-cons b bs in
    let now = held-cons new bs in
    omega arith
held-set (b ∷ bs) (suc i) old new is =
    let was = held-cons b bs in
    let now = held-cons b (set bs i new) in
    let more = held-set bs i old new is in
    omega arith
