-- Hexadecimal digits, two and two.
use Rattle.std.proofs.Common.{◌≡◌, ℕ, suc, ◌+◌, ◌*◌, ◌^◌, ◌<◌, Bool, true, false, cond, List, [], ◌∷◌, drop, Option, Some, None, refl, sym, ap, ◌∙◌, nat_le, arith}
use Rattle.std.proofs.lemmas.Bool.{le-leb, lt-ltb}
use Rattle.std.proofs.lemmas.Bool.Decides.{nat_tests}
use Rattle.vala_lexer.specs.declared.bytes.Class.TheVariants.{HexDigit}
use Rattle.vala_lexer.specs.Bytes.{run, value, is_hex_digit, digit_value, in_64_bits}
use Rattle.vala_lexer.specs.Texts.{hex_number}

-- two pairs of digits as one number
abbrev joined : Option ℕ → Option ℕ → Option ℕ
joined None o = None
joined (Some h) None = None
joined (Some h) (Some l) = Some (256 * h + l)

digit_small : (b : ℕ) → digit_value b < 16
digit_small b = grind (arith, nat_tests)

fits_64 : (n : ℕ) → n < 65536 → in_64_bits n ≡ Some n
fits_64 n h = ap (λ t. cond t (Some n) None) (lt-ltb n (2 ^ 64) (omega arith))

-- the number of digits in front, where as many are there
all_digits : (a b c d : ℕ) → in_64_bits (value 16 (a ∷ b ∷ c ∷ d ∷ [])) ≡ joined (in_64_bits (value 16 (a ∷ b ∷ []))) (in_64_bits (value 16 (c ∷ d ∷ [])))
all_digits a b c d =
    let sa : digit_value a < 16 = digit_small a in
    let sb : digit_value b < 16 = digit_small b in
    let sc : digit_value c < 16 = digit_small c in
    let sd : digit_value d < 16 = digit_small d in
    let four : in_64_bits (value 16 (a ∷ b ∷ c ∷ d ∷ [])) ≡ Some (value 16 (a ∷ b ∷ c ∷ d ∷ [])) = fits_64 (value 16 (a ∷ b ∷ c ∷ d ∷ [])) (omega arith) in
    let high : in_64_bits (value 16 (a ∷ b ∷ [])) ≡ Some (value 16 (a ∷ b ∷ [])) = fits_64 (value 16 (a ∷ b ∷ [])) (omega arith) in
    let low : in_64_bits (value 16 (c ∷ d ∷ [])) ≡ Some (value 16 (c ∷ d ∷ [])) = fits_64 (value 16 (c ∷ d ∷ [])) (omega arith) in
    let same : value 16 (a ∷ b ∷ c ∷ d ∷ []) ≡ 256 * value 16 (a ∷ b ∷ []) + value 16 (c ∷ d ∷ []) = omega arith in
    four ∙ ap Some same ∙ sym (ap (λ o. joined o (in_64_bits (value 16 (c ∷ d ∷ [])))) high ∙ ap (λ o. joined (Some (value 16 (a ∷ b ∷ []))) o) low)

joined_none : (o : Option ℕ) → None ≡ joined o None
joined_none None = refl
joined_none (Some h) = refl

-- how many digits are in front, by whether each of the bytes is one
abbrev count : Bool → ℕ → ℕ
count p n = cond p (suc n) 0

few : (p q r : Bool) (all high low : Option ℕ)
    → cond (nat_le 4 (count p (count q (count r 0)))) all None ≡ joined (cond (nat_le 2 (count p (count q (count r 0)))) high None) (cond (nat_le 2 (count r 0)) low None)
few true true true all high low = joined_none high
few true true false all high low = joined_none high
few true false r all high low = refl
few false q r all high low = refl

enough : (p q r s : Bool) (n : ℕ) (all high low : Option ℕ) → all ≡ joined high low
    → cond (nat_le 4 (count p (count q (count r (count s n))))) all None ≡ joined (cond (nat_le 2 (count p (count q (count r (count s n))))) high None) (cond (nat_le 2 (count r (count s n))) low None)
enough true true true true n all high low h =
    let four : nat_le 4 (suc (suc (suc (suc n)))) ≡ true = le-leb 4 (suc (suc (suc (suc n)))) (omega arith) in
    let first : nat_le 2 (suc (suc (suc (suc n)))) ≡ true = le-leb 2 (suc (suc (suc (suc n)))) (omega arith) in
    let second : nat_le 2 (suc (suc n)) ≡ true = le-leb 2 (suc (suc n)) (omega arith) in
    ap (λ t. cond t all None) four ∙ h ∙ sym (ap (λ t. joined (cond t high None) (cond (nat_le 2 (suc (suc n))) low None)) first ∙ ap (λ t. joined high (cond t low None)) second)
enough true true true false n all high low h = few true true true all high low
enough true true false s n all high low h = few true true false all high low
enough true false r s n all high low h = refl
enough false q r s n all high low h = refl

pub two_and_two : (z : List ℕ) → hex_number 4 z ≡ joined (hex_number 2 z) (hex_number 2 (drop 2 z))
two_and_two [] = refl
two_and_two (a ∷ []) = few (is_hex_digit a) false false _ _ None
two_and_two (a ∷ b ∷ []) = few (is_hex_digit a) (is_hex_digit b) false _ _ None
two_and_two (a ∷ b ∷ c ∷ []) = few (is_hex_digit a) (is_hex_digit b) (is_hex_digit c) _ _ _
two_and_two (a ∷ b ∷ c ∷ d ∷ z) = enough (is_hex_digit a) (is_hex_digit b) (is_hex_digit c) (is_hex_digit d) (run HexDigit z) _ _ _ (all_digits a b c d)

pub no_low : (z : List ℕ) → hex_number 2 (drop 2 z) ≡ None → None ≡ hex_number 4 z
no_low z h = joined_none (hex_number 2 z) ∙ sym (two_and_two z ∙ ap (joined (hex_number 2 z)) h)

pub both : (z : List ℕ) (high low : ℕ) → Some high ≡ hex_number 2 z → Some low ≡ hex_number 2 (drop 2 z) → Some (256 * high + low) ≡ hex_number 4 z
both z high low h l = ap (λ o. joined o (Some low)) h ∙ ap (joined (hex_number 2 z)) l ∙ sym (two_and_two z)
