-- Which bytes are numbers.
use Rattle.std.proofs.Common.{◌≡◌, ◌≢◌, ℕ, suc, ◌+◌, ◌^◌, ◌<◌, ◌≤◌, Bool, true, false, cond, ◌&&◌, ◌==◌, nat_lt, List, [], ◌∷◌, ◌++◌, length, take, drop, get_or, codes, Option, Some, None, refl, sym, ap, ap₂, subst, ◌∙◌, length-append, arith}
use Rattle.std.specs.Option.{option_map}
use Rattle.std.specs.Str.{bytes_eq}
use Rattle.std.proofs.lemmas.Slice.Eq.{bytes_eq-Decides}
use Rattle.std.proofs.lemmas.Bool.{cond_both, eqb-false, ne_eqb, ltb-true}
use Rattle.std.proofs.lemmas.List.{take-append-drop}
use Rattle.c_lexer.specs.declared.token.NumberType.{NumberType}
use Rattle.c_lexer.specs.declared.token.NumberType.TheVariants.{Glong, Gulong}
use Rattle.c_lexer.specs.declared.token.TokenKind.{TokenKind}
use Rattle.c_lexer.specs.declared.token.TokenKind.TheVariants as k
use Rattle.c_lexer.specs.declared.bytes.Class.{Class}
use Rattle.c_lexer.specs.declared.bytes.Class.TheVariants as class
use Rattle.c_lexer.specs.declared.numbers.Suffix.{Suffix}
use Rattle.c_lexer.specs.declared.numbers.Suffix.TheVariants as suffix
use Rattle.c_lexer.specs.declared.pieces.Found.{Found}
use Rattle.c_lexer.specs.Bytes.{is_in, is_digit, is_hex_digit, run, in_64_bits, value}
use Rattle.c_lexer.specs.Numbers.{suffix_bytes, suffix_of, below, number_type, of_parts, of_digits, is_prefixed, has_leading_zero, number_of, number}
use Rattle.c_lexer.specs.Written.{IsDecimal, IsHexadecimal, IsToken}
use Rattle.c_lexer.specs.Written as written
use Rattle.c_lexer.proofs.ByteLemmas.{is_some_number, fits_64}
use Rattle.c_lexer.proofs.ListLemmas.{two_bytes, take_front, drop_front, take_first, run_append, run_wider, front_run}

-- ---- suffixes

suffix_is : (z : List ℕ) (s : Suffix) → suffix_of z ≡ Some s → z ≡ suffix_bytes s
suffix_is z s = cond_both (bytes_eq z []) _ _ P (λ e h. (bytes_eq-Decides z []).0 e ∙ ap suffix_bytes (let same : suffix.Plain ≡ s = cc in same))
    (λ _. cond_both (bytes_eq z (codes "U")) _ _ P (λ e h. (bytes_eq-Decides z (codes "U")).0 e ∙ ap suffix_bytes (let same : suffix.U ≡ s = cc in same))
    (λ _. cond_both (bytes_eq z (codes "L")) _ _ P (λ e h. (bytes_eq-Decides z (codes "L")).0 e ∙ ap suffix_bytes (let same : suffix.L ≡ s = cc in same))
    (λ _. cond_both (bytes_eq z (codes "UL")) _ _ P (λ e h. (bytes_eq-Decides z (codes "UL")).0 e ∙ ap suffix_bytes (let same : suffix.Ul ≡ s = cc in same)) (λ _ h. absurd cc))))
  where
    P : Option Suffix → Type 0
    P o = o ≡ Some s → z ≡ suffix_bytes s

suffix_found : (s : Suffix) → suffix_of (suffix_bytes s) ≡ Some s
suffix_found suffix.Plain = refl
suffix_found suffix.U = refl
suffix_found suffix.L = refl
suffix_found suffix.Ul = refl

no_digits : (s : Suffix) → run class.Digit (suffix_bytes s) ≡ 0
no_digits suffix.Plain = refl
no_digits suffix.U = refl
no_digits suffix.L = refl
no_digits suffix.Ul = refl

no_hex_digits : (s : Suffix) → run class.HexDigit (suffix_bytes s) ≡ 0
no_hex_digits suffix.Plain = refl
no_hex_digits suffix.U = refl
no_hex_digits suffix.L = refl
no_hex_digits suffix.Ul = refl

number_bytes : (s : Suffix) → run class.Number (suffix_bytes s) ≡ length (suffix_bytes s)
number_bytes suffix.Plain = refl
number_bytes suffix.U = refl
number_bytes suffix.L = refl
number_bytes suffix.Ul = refl

no_x : (s : Suffix) → (get_or (suffix_bytes s) 0 0 == 120) ≡ false
no_x suffix.Plain = refl
no_x suffix.U = refl
no_x suffix.L = refl
no_x suffix.Ul = refl

no_digit : (s : Suffix) → is_digit (get_or (suffix_bytes s) 0 0) ≡ false
no_digit suffix.Plain = refl
no_digit suffix.U = refl
no_digit suffix.L = refl
no_digit suffix.Ul = refl

-- ---- types

below_small : (n bound : ℕ) (x t : NumberType) → below n bound x ≡ Some t → n < bound
below_small n bound x t = cond_both (nat_lt n bound) _ _ (λ o. o ≡ Some t → n < bound) (λ e _. ltb-true n bound e) (λ _ h. absurd cc)

typed_small : (s : Suffix) (n : ℕ) (t : NumberType) → number_type s n ≡ Some t → n < 2 ^ 64
typed_small suffix.Plain n t given = cond_both (nat_lt n (2 ^ 31)) _ _ (λ o. o ≡ Some t → n < 2 ^ 64) (λ e _. let small : n < 2 ^ 31 = ltb-true n (2 ^ 31) e in omega arith) (λ _ h. let small : n < 2 ^ 63 = below_small n (2 ^ 63) Glong t h in omega arith) given
typed_small suffix.U n t given = cond_both (nat_lt n (2 ^ 32)) _ _ (λ o. o ≡ Some t → n < 2 ^ 64) (λ e _. let small : n < 2 ^ 32 = ltb-true n (2 ^ 32) e in omega arith) (λ _ h. below_small n (2 ^ 64) Gulong t h) given
typed_small suffix.L n t h = let small : n < 2 ^ 63 = below_small n (2 ^ 63) Glong t h in omega arith
typed_small suffix.Ul n t h = below_small n (2 ^ 64) Gulong t h

-- ---- from what is found to what is written

record Parts (v : Option ℕ) (z : List ℕ) (kind : TokenKind) : Type 0 where
  n : ℕ
  s : Suffix
  t : NumberType
  value_is : v ≡ Some n
  suffix_are : z ≡ suffix_bytes s
  type_is : number_type s n ≡ Some t
  kind_is : k.Number n t ≡ kind

parts_of : (v : Option ℕ) (z : List ℕ) (kind : TokenKind) → of_parts v (suffix_of z) ≡ Some kind → Parts v z kind
parts_of v z kind = go v (suffix_of z) refl
  where
    by_type : (n : ℕ) (s : Suffix) → suffix_of z ≡ Some s → (o : Option NumberType) → number_type s n ≡ o → option_map (λ t. k.Number n t) o ≡ Some kind → Parts (Some n) z kind
    by_type n s e None f h = absurd cc
    by_type n s e (Some t) f h = record { n = n; s = s; t = t; value_is = refl; suffix_are = suffix_is z s e; type_is = f; kind_is = (let same : k.Number n t ≡ kind = cc in same) }

    go : (v : Option ℕ) (o : Option Suffix) → suffix_of z ≡ o → of_parts v o ≡ Some kind → Parts v z kind
    go None o e h = absurd cc
    go (Some n) None e h = absurd cc
    go (Some n) (Some s) e h = by_type n s e (number_type s n) refl h

-- the digits and the suffix of a number
record Digits (base n : ℕ) (z : List ℕ) (kind : TokenKind) : Type 0 where
  some : n ≢ 0
  s : Suffix
  t : NumberType
  whole : take n z ++ suffix_bytes s ≡ z
  type_is : number_type s (value base (take n z)) ≡ Some t
  kind_is : k.Number (value base (take n z)) t ≡ kind

digits_of : (base n : ℕ) (z : List ℕ) (kind : TokenKind) → of_digits base n z ≡ Some kind → Digits base n z kind
digits_of base n z kind = cond_both (n == 0) _ _ (λ o. o ≡ Some kind → Digits base n z kind) (λ _ h. absurd cc)
    (λ e h.
    let p : Parts (in_64_bits (value base (take n z))) (drop n z) kind = parts_of (in_64_bits (value base (take n z))) (drop n z) kind h in
    let v : p.n ≡ value base (take n z) = is_some_number (value base (take n z)) p.n (sym p.value_is) in
    record {
      some = eqb-false n 0 e;
      s = p.s;
      t = p.t;
      whole = ap (λ x. take n z ++ x) (sym p.suffix_are) ∙ take-append-drop n z;
      type_is = ap (number_type p.s) (sym v) ∙ p.type_is;
      kind_is = ap (λ (x : ℕ). k.Number x p.t) (sym v) ∙ p.kind_is;
    })

hexadecimal_is : (y : List ℕ) (kind : TokenKind) → of_digits 16 (run class.HexDigit y) y ≡ Some kind → IsToken (48 ∷ 120 ∷ y) kind
hexadecimal_is y kind h =
    let d : Digits 16 (run class.HexDigit y) y kind = digits_of 16 (run class.HexDigit y) y kind h in
    let f = front_run class.HexDigit y in
    let len : length (take (run class.HexDigit y) y) ≡ run class.HexDigit y = f.0 in
    let some : run class.HexDigit y ≢ 0 = d.some in
    subst (λ x. IsToken (48 ∷ 120 ∷ x) kind) d.whole (subst (λ x. IsToken (48 ∷ 120 ∷ take (run class.HexDigit y) y ++ suffix_bytes d.s) x) d.kind_is
    (written.hexadecimal (take (run class.HexDigit y) y) d.s d.t (record { some = omega arith; all = f.1 }) d.type_is))

-- one digit stands where no second follows
one_digit : (w : List ℕ) → is_digit (get_or w 1 0) ≡ false → run class.Digit w ≤ 1
one_digit [] h = omega arith
one_digit (b ∷ []) h = cond_both (is_digit b) 1 0 (λ n. n ≤ 1) (λ _. omega arith) (λ _. omega arith)
one_digit (b ∷ c ∷ w) h = rw h (cond_both (is_digit b) 1 0 (λ n. n ≤ 1) (λ _. omega arith) (λ _. omega arith))

decimal_is : (w : List ℕ) (kind : TokenKind) → has_leading_zero w ≡ false → of_digits 10 (run class.Digit w) w ≡ Some kind → IsToken w kind
decimal_is w kind zero h =
    let d : Digits 10 (run class.Digit w) w kind = digits_of 10 (run class.Digit w) w kind h in
    let f = front_run class.Digit w in
    let len : length (take (run class.Digit w) w) ≡ run class.Digit w = f.0 in
    let some : run class.Digit w ≢ 0 = d.some in
    let more : 0 < run class.Digit w = omega arith in
    subst (λ x. IsToken x kind) d.whole (subst (λ x. IsToken (take (run class.Digit w) w ++ suffix_bytes d.s) x) d.kind_is
    (written.decimal (take (run class.Digit w) w) d.s d.t (record { some = omega arith; all = f.1; no_leading_zero = λ e. let first : get_or w 0 0 ≡ 48 = sym (take_first (run class.Digit w) w more) ∙ e in let most : run class.Digit w ≤ 1 = one_digit w (second first) in omega arith }) d.type_is))
  where
    second : get_or w 0 0 ≡ 48 → is_digit (get_or w 1 0) ≡ false
    second e = subst (λ (x : ℕ). (x == 48 && is_digit (get_or w 1 0)) ≡ false) e zero

pub number_is : (w : List ℕ) (kind : TokenKind) → number_of w ≡ Some kind → IsToken w kind
number_is w kind = cond_both (is_prefixed w) _ _ P
    (λ p h. subst (λ x. IsToken x kind) (sym (two_bytes 48 120 w (omega arith) (omega arith) p)) (hexadecimal_is (drop 2 w) kind h))
    (λ _. cond_both (has_leading_zero w) _ _ P (λ _ h. absurd cc) (λ zero h. decimal_is w kind zero h))
  where
    P : Option TokenKind → Type 0
    P o = o ≡ Some kind → IsToken w kind

-- ---- from what is written to what is found

digits_found : (base n : ℕ) (d : List ℕ) (s : Suffix) (t : NumberType) → n ≡ length d → 0 < length d → number_type s (value base d) ≡ Some t → of_digits base n (d ++ suffix_bytes s) ≡ Some (k.Number (value base d) t)
digits_found base n d s t e some h =
    let none : (length d == 0) ≡ false = ne_eqb (length d) 0 (λ (f : length d ≡ 0). absurd (omega arith)) in
    let v : in_64_bits (value base (take (length d) (d ++ suffix_bytes s))) ≡ Some (value base d) = ap (λ x. in_64_bits (value base x)) (take_front d (suffix_bytes s)) ∙ sym (fits_64 (value base d) (typed_small s (value base d) t h)) in
    let x : suffix_of (drop (length d) (d ++ suffix_bytes s)) ≡ Some s = ap suffix_of (drop_front d (suffix_bytes s)) ∙ suffix_found s in
    ap (λ m. of_digits base m (d ++ suffix_bytes s)) e ∙ ap (λ b. cond b None (of_parts (in_64_bits (value base (take (length d) (d ++ suffix_bytes s)))) (suffix_of (drop (length d) (d ++ suffix_bytes s))))) none
    ∙ ap₂ of_parts v x ∙ ap (option_map (λ t. k.Number (value base d) t)) h

second_in : (c : Class) (x y : ℕ) (d : List ℕ) → run c (x ∷ y ∷ d) ≡ suc (suc (length d)) → is_in c y ≡ true
second_in c x y d h = go (is_in c x) (is_in c y) h
  where
    go : (t u : Bool) → cond t (suc (cond u (suc (run c d)) 0)) 0 ≡ suc (suc (length d)) → u ≡ true
    go true true h = refl
    go true false h = absurd (omega arith)
    go false u h = absurd (omega arith)

both_false : (a b : Bool) → b ≡ false → (a && b) ≡ false
both_false true b h = h
both_false false b h = refl

no_prefix : (d : List ℕ) (s : Suffix) → IsDecimal d → is_prefixed (d ++ suffix_bytes s) ≡ false
no_prefix [] s i = let some : 0 < 0 = i.some in absurd (omega arith)
no_prefix (x ∷ []) s i = both_false (x == 48) (get_or (suffix_bytes s) 0 0 == 120) (no_x s)
no_prefix (x ∷ y ∷ d) s i = both_false (x == 48) (y == 120) (ne_eqb y 120 (λ (e : y ≡ 120). no e (second_in class.Digit x y d i.all)))
  where
    no : y ≡ 120 → is_digit y ≡ true → ⊥
    no e h = let both : is_digit 120 ≡ true = subst (λ (v : ℕ). is_digit v ≡ true) e h in absurd cc

no_zero : (d : List ℕ) (s : Suffix) → IsDecimal d → has_leading_zero (d ++ suffix_bytes s) ≡ false
no_zero [] s i = let some : 0 < 0 = i.some in absurd (omega arith)
no_zero (x ∷ []) s i = both_false (x == 48) (is_digit (get_or (suffix_bytes s) 0 0)) (no_digit s)
no_zero (x ∷ y ∷ d) s i = ap (λ b. b && is_digit y) (ne_eqb x 48 (λ (e : x ≡ 48). let long : suc (suc (length d)) ≡ 1 = i.no_leading_zero e in absurd (omega arith)))

pub decimal_found : (d : List ℕ) (s : Suffix) (t : NumberType) → IsDecimal d → number_type s (value 10 d) ≡ Some t → number_of (d ++ suffix_bytes s) ≡ Some (k.Number (value 10 d) t)
decimal_found d s t i h =
    let counted : run class.Digit (d ++ suffix_bytes s) ≡ length d + run class.Digit (suffix_bytes s) = run_append class.Digit d (suffix_bytes s) i.all in
    let none : run class.Digit (suffix_bytes s) ≡ 0 = no_digits s in
    ap (λ b. cond b (of_digits 16 (run class.HexDigit (drop 2 (d ++ suffix_bytes s))) (drop 2 (d ++ suffix_bytes s))) (cond (has_leading_zero (d ++ suffix_bytes s)) None (of_digits 10 (run class.Digit (d ++ suffix_bytes s)) (d ++ suffix_bytes s)))) (no_prefix d s i)
    ∙ ap (λ b. cond b None (of_digits 10 (run class.Digit (d ++ suffix_bytes s)) (d ++ suffix_bytes s))) (no_zero d s i)
    ∙ digits_found 10 (run class.Digit (d ++ suffix_bytes s)) d s t (omega arith) i.some h

pub hexadecimal_found : (d : List ℕ) (s : Suffix) (t : NumberType) → IsHexadecimal d → number_type s (value 16 d) ≡ Some t → number_of (48 ∷ 120 ∷ d ++ suffix_bytes s) ≡ Some (k.Number (value 16 d) t)
hexadecimal_found d s t i h =
    let counted : run class.HexDigit (d ++ suffix_bytes s) ≡ length d + run class.HexDigit (suffix_bytes s) = run_append class.HexDigit d (suffix_bytes s) i.all in
    let none : run class.HexDigit (suffix_bytes s) ≡ 0 = no_hex_digits s in
    digits_found 16 (run class.HexDigit (d ++ suffix_bytes s)) d s t (omega arith) i.some h

-- ---- how far a number goes

digit_wider : (b : ℕ) → is_digit b ≡ true → is_in class.Number b ≡ true
digit_wider b h = rw h refl

hex_wider : (b : ℕ) → is_hex_digit b ≡ true → is_in class.Number b ≡ true
hex_wider b h = search (arith) depth 9

with_suffix : (c : Class) (d : List ℕ) (s : Suffix) → ((b : ℕ) → is_in c b ≡ true → is_in class.Number b ≡ true) → run c d ≡ length d → run class.Number (d ++ suffix_bytes s) ≡ length (d ++ suffix_bytes s)
with_suffix c d s wider h =
    let all : run class.Number (d ++ suffix_bytes s) ≡ length d + run class.Number (suffix_bytes s) = run_append class.Number d (suffix_bytes s) (run_wider c class.Number d wider h) in
    let more : run class.Number (suffix_bytes s) ≡ length (suffix_bytes s) = number_bytes s in
    let len : length (d ++ suffix_bytes s) ≡ length d + length (suffix_bytes s) = length-append d (suffix_bytes s) in
    omega arith

pub decimal_goes : (d : List ℕ) (s : Suffix) → IsDecimal d → run class.Number (d ++ suffix_bytes s) ≡ length (d ++ suffix_bytes s)
decimal_goes d s i = with_suffix class.Digit d s digit_wider i.all

pub hexadecimal_goes : (d : List ℕ) (s : Suffix) → IsHexadecimal d → run class.Number (48 ∷ 120 ∷ d ++ suffix_bytes s) ≡ length (48 ∷ 120 ∷ d ++ suffix_bytes s)
hexadecimal_goes d s i = ap (λ (n : ℕ). suc (suc n)) (with_suffix class.HexDigit d s hex_wider i.all)

pub number_found : (w rest : List ℕ) (kind : TokenKind) → number_of w ≡ Some kind → run class.Number w ≡ length w → run class.Number rest ≡ 0 → number (w ++ rest) ≡ Some (record { kind = kind; len = length w })
number_found w rest kind h all none =
    let counted : run class.Number (w ++ rest) ≡ length w + run class.Number rest = run_append class.Number w rest all in
    let len : run class.Number (w ++ rest) ≡ length w = omega arith in
    ap (λ (n : ℕ). option_map (λ kind. record { kind = kind; len = n }) (number_of (take n (w ++ rest)))) len
    ∙ ap (λ x. option_map (λ kind. record { kind = kind; len = length w }) (number_of x)) (take_front w rest)
    ∙ ap (option_map (λ kind. record { kind = kind; len = length w })) h

-- a number that is found: how long it is, and what it is
pub number_parts : (z : List ℕ) (t : Found) → number z ≡ Some t → (t.len ≡ run class.Number z) × (number_of (take (run class.Number z) z) ≡ Some t.kind)
number_parts z t = go (number_of (take (run class.Number z) z)) refl
  where
    go : (o : Option TokenKind) → number_of (take (run class.Number z) z) ≡ o → option_map (λ kind. record { kind = kind; len = run class.Number z }) o ≡ Some t → (t.len ≡ run class.Number z) × (number_of (take (run class.Number z) z) ≡ Some t.kind)
    go None e h = absurd cc
    go (Some kind) e h = let same : record { kind = kind; len = run class.Number z } ≡ t = cc in (ap (λ (x : Found). x.len) (sym same), e ∙ ap (λ (x : Found). Some x.kind) same)

pub number_written : (z : List ℕ) (t : Found) → number z ≡ Some t → IsToken (take t.len z) t.kind
number_written z t h = let p = number_parts z t h in subst (λ (n : ℕ). IsToken (take n z) t.kind) (sym p.0) (number_is (take (run class.Number z) z) t.kind p.1)
