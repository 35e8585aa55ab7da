-- Reading a number, from a place on.
use Rattle.std.proofs.Common.{inl, inr, ◌≡◌, ◌∙◌, sym, ap, ℕ, ◌+◌, ◌-◌, ◌*◌, ◌^◌, ◌<◌, ◌≤◌, min, Bool, true, false, List, [], ◌∷◌, length, drop, get_or, arith, cond}
use Rattle.std.proofs.lemmas.List.{drop_more}
use Rattle.std.proofs.lemmas.Bool.Decides.{leb_tells}
use Rattle.c_meaning.specs.Texts.{is_digit, digits_from}

more_or_not : (n : ℕ) (m : ℕ) (e : Bool) → n ≤ m → n ≤ cond e m n
more_or_not n m true le = le
more_or_not n m false le = omega arith

-- more digits do not make a number less
digits_grow : (n : ℕ) (bs : List ℕ) → n ≤ digits_from n bs
digits_grow n [] = omega arith
digits_grow n (b ∷ bs) =
    let up = digits_grow (n * 10 + (b - 48)) bs in
    more_or_not n (digits_from (n * 10 + (b - 48)) bs) (is_digit b) (omega arith)

-- what is held at the limit stays held
pub held_digits : (n : ℕ) (bs : List ℕ) → min (digits_from (min n (2 ^ 63)) bs) (2 ^ 63) ≡ min (digits_from n bs) (2 ^ 63)
held_digits n bs =
    elim (leb_tells n (2 ^ 63)) [
      | inl small ↦ (let same : min n (2 ^ 63) ≡ n = (let le : n ≤ 2 ^ 63 = small.1 in omega arith) in ap (λ m. min (digits_from m bs) (2 ^ 63)) same)
      | inr large ↦ (let lt : 2 ^ 63 < n = large.1 in let one = digits_grow (min n (2 ^ 63)) bs in let other = digits_grow n bs in omega arith)
    ]

digit_at : (n : ℕ) (bytes : List ℕ) (i : ℕ) (e : Bool) → i < length bytes → is_digit (get_or bytes i 0) ≡ e
    → digits_from n (drop i bytes) ≡ cond e (digits_from (n * 10 + (get_or bytes i 0 - 48)) (drop (i + 1) bytes)) n
digit_at n bytes i e lt is = ap (digits_from n) (drop_more bytes i 0 lt) ∙ ap (λ t. cond t (digits_from (n * 10 + (get_or bytes i 0 - 48)) (drop (i + 1) bytes)) n) is

-- another digit
pub digit_more : (bytes : List ℕ) (i n m : ℕ) → i < length bytes → is_digit (get_or bytes i 0) ≡ true → m ≡ min (n * 10 + (get_or bytes i 0 - 48)) (2 ^ 63)
    → min (digits_from n (drop i bytes)) (2 ^ 63) ≡ min (digits_from 0 bytes) (2 ^ 63)
    → min (digits_from m (drop (i + 1) bytes)) (2 ^ 63) ≡ min (digits_from 0 bytes) (2 ^ 63)
digit_more bytes i n m lt is now so_far =
    ap (λ k. min (digits_from k (drop (i + 1) bytes)) (2 ^ 63)) now ∙ held_digits (n * 10 + (get_or bytes i 0 - 48)) (drop (i + 1) bytes)
    ∙ ap (λ k. min k (2 ^ 63)) (sym (digit_at n bytes i true lt is)) ∙ so_far
