-- How far classes of bytes go, and what digits say, byte by byte.
use Rattle.std.proofs.Common.{◌≡◌, ℕ, suc, ◌+◌, ◌*◌, ◌^◌, ◌<◌, ◌≤◌, Bool, true, false, cond, List, ◌∷◌, length, drop, get_or, Option, Some, None, refl, sym, ap, ◌∙◌, nat_lt, arith}
use Rattle.std.specs.Option.{option_map}
use Rattle.std.proofs.lemmas.Bool.{le-ltb, lt-ltb, ltb-false, ltb-true}
use Rattle.std.proofs.lemmas.List.{drop_more, drop_all}
use Rattle.std.proofs.Math.Nat.{pow-succ', pow-zero, one-le-pow, mul-le-mul_left}
use Rattle.c_lexer.specs.Bytes.{value, digit_value, with_digit, in_64_bits, comment_end, ends_comment}

-- one more byte in front of a place
pub one_more : (i : ℕ) (o : Option ℕ) → option_map (λ n. i + n) (option_map (λ n. suc n) o) ≡ option_map (λ n. i + 1 + n) o
one_more i None = refl
one_more i (Some n) = ap Some (let e : i + suc n ≡ i + 1 + n = omega arith in e)

pub comment_step : (z : List ℕ) (i : ℕ) (o : Option ℕ) → i < length z → ends_comment (drop i z) ≡ false
    → o ≡ option_map (λ n. i + n) (comment_end (drop i z)) → o ≡ option_map (λ n. i + 1 + n) (comment_end (drop (i + 1) z))
comment_step z i o h none k =
    let cut : drop i z ≡ get_or z i 0 ∷ drop (i + 1) z = drop_more z i 0 h in
    let none_here : ends_comment (get_or z i 0 ∷ drop (i + 1) z) ≡ false = ap ends_comment (sym cut) ∙ none in
    k ∙ ap (λ x. option_map (λ n. i + n) (comment_end x)) cut
    ∙ ap (λ t. option_map (λ n. i + n) (cond t (Some 0) (option_map (λ n. suc n) (comment_end (drop (i + 1) z))))) none_here
    ∙ one_more i (comment_end (drop (i + 1) z))

pub is_some_number : (n v : ℕ) → Some v ≡ in_64_bits n → v ≡ n
is_some_number n v h = go (nat_lt n (2 ^ 64)) h
  where
    go : (t : Bool) → Some v ≡ cond t (Some n) None → v ≡ n
    go true h = cc
    go false h = absurd cc

pub is_small_number : (n v : ℕ) → Some v ≡ in_64_bits n → v < 2 ^ 64
is_small_number n v h = go (nat_lt n (2 ^ 64)) refl h
  where
    go : (t : Bool) → nat_lt n (2 ^ 64) ≡ t → Some v ≡ cond t (Some n) None → v < 2 ^ 64
    go true e h = let small : n < 2 ^ 64 = ltb-true n (2 ^ 64) e in let same : v ≡ n = cc in omega arith
    go false e h = absurd cc

-- a value with digits behind it
abbrev pub value_behind : ℕ → ℕ → List ℕ → ℕ
value_behind base v z = v * base ^ length z + value base z

value_more : (base v d : ℕ) (z : List ℕ) → value_behind base v (d ∷ z) ≡ value_behind base (with_digit base v d) z
value_more base v d z = let e : base ^ suc (length z) ≡ base * base ^ length z = pow-succ' base (length z) in
    ap (λ p. v * p + (digit_value d * base ^ length z + value base z)) e ∙ products v base (base ^ length z) (digit_value d) (value base z)
  where
    products : (v b p d r : ℕ) → v * (b * p) + (d * p + r) ≡ (v * b + d) * p + r
    products v b p d r = omega arith

pub value_step : (base v : ℕ) (z : List ℕ) (i all : ℕ) → i < length z → all ≡ value_behind base v (drop i z) → all ≡ value_behind base (with_digit base v (get_or z i 0)) (drop (i + 1) z)
value_step base v z i all h k = k ∙ ap (value_behind base v) (drop_more z i 0 h) ∙ value_more base v (get_or z i 0) (drop (i + 1) z)

pub value_begins : (base : ℕ) (z : List ℕ) → value base z ≡ value_behind base 0 z
value_begins base z = omega arith

pub value_ends : (base v : ℕ) (z : List ℕ) (i all : ℕ) → length z ≤ i → all ≡ value_behind base v (drop i z) → all ≡ v
value_ends base v z i all h k = k ∙ ap (value_behind base v) (drop_all i z h) ∙ ap (λ p. v * p + 0) (pow-zero base) ∙ last v
  where
    last : (v : ℕ) → v * 1 + 0 ≡ v
    last v = omega arith

pub value_large : (base v : ℕ) (z : List ℕ) → 1 ≤ base → v ≤ value_behind base v z
value_large base v z h =
    let one : 1 ≤ base ^ length z = one-le-pow (length z) base h in
    let large : v * 1 ≤ v * base ^ length z = mul-le-mul_left v one in
    omega arith

pub value_over : (base v : ℕ) (z : List ℕ) (i all : ℕ) → 1 ≤ base → i < length z → all ≡ value_behind base v (drop i z) → with_digit base v (get_or z i 0) ≤ all
value_over base v z i all one h k =
    let step : all ≡ value_behind base (with_digit base v (get_or z i 0)) (drop (i + 1) z) = value_step base v z i all h k in
    let large : with_digit base v (get_or z i 0) ≤ value_behind base (with_digit base v (get_or z i 0)) (drop (i + 1) z) = value_large base (with_digit base v (get_or z i 0)) (drop (i + 1) z) one in
    transport_le (sym step) large
  where
    transport_le : {a b c : ℕ} → b ≡ c → a ≤ b → a ≤ c
    transport_le e h = omega arith

pub value_next : (base v w : ℕ) (z : List ℕ) (i all : ℕ) → i < length z → Some w ≡ in_64_bits (with_digit base v (get_or z i 0)) → all ≡ value_behind base v (drop i z) → all ≡ value_behind base w (drop (i + 1) z)
value_next base v w z i all h is k = value_step base v z i all h k ∙ ap (λ x. value_behind base x (drop (i + 1) z)) (sym (is_some_number (with_digit base v (get_or z i 0)) w is))

pub fits_64 : (n : ℕ) → n < 2 ^ 64 → Some n ≡ in_64_bits n
fits_64 n h = ap (λ t. cond t (Some n) None) (sym (lt-ltb n (2 ^ 64) h))

pub over_64 : (n m : ℕ) → in_64_bits n ≡ None → n ≤ m → None ≡ in_64_bits m
over_64 n m h k = go (nat_lt n (2 ^ 64)) refl h
  where
    go : (t : Bool) → nat_lt n (2 ^ 64) ≡ t → cond t (Some n) None ≡ None → None ≡ in_64_bits m
    go true e h = absurd cc
    go false e h = let large : 2 ^ 64 ≤ n = ltb-false n (2 ^ 64) e in let larger : 2 ^ 64 ≤ m = omega arith in ap (λ t. cond t (Some m) None) (sym (le-ltb m (2 ^ 64) larger))
