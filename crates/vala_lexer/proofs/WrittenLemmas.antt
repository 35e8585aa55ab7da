-- What is found is written as a token of its class.
use Rattle.std.proofs.Common.{◌≡◌, ℕ, zero, suc, ◌+◌, ◌-◌, ◌<◌, ◌≤◌, Bool, true, false, not, ◌||◌, ◌&&◌, ◌==◌, nat_lt, nat_le, List, [], ◌∷◌, ◌++◌, length, take, drop, get_or, Option, Some, None, Result, Ok, refl, sym, ap, ap₂, subst, ◌∙◌, ⊎_elim, arith}
use Rattle.std.specs.Option.{option_map}
use Rattle.std.specs.Str.Lossy.{utf8_valid_len}
use Rattle.std.proofs.lemmas.Str.{utf8_valid_len_le}
use Rattle.std.proofs.lemmas.Bool.{cond_both, and_parts, or_right, eqb-true, eqb-false, ltb-false, leb-false, and_cases}
use Rattle.std.proofs.lemmas.List.{length-take-le, length-drop}
use Rattle.std.proofs.Math.Seq.{take-add}
use Rattle.vala_lexer.specs.declared.token.IntegerType.{IntegerType}
use Rattle.vala_lexer.specs.declared.token.TokenKind.{TokenKind}
use Rattle.vala_lexer.specs.declared.token.TokenKind.TheVariants as k
use Rattle.vala_lexer.specs.declared.bytes.Class.{Class}
use Rattle.vala_lexer.specs.declared.bytes.Class.TheVariants as class
use Rattle.vala_lexer.specs.declared.bytes.Ending.TheVariants as ending
use Rattle.vala_lexer.specs.declared.numbers.Suffix.{Suffix}
use Rattle.vala_lexer.specs.declared.numbers.Suffix.TheVariants as suffix
use Rattle.vala_lexer.specs.declared.texts.Escape.{Escape}
use Rattle.vala_lexer.specs.declared.texts.Literal.TheVariants as literal
use Rattle.vala_lexer.specs.declared.pieces.Found.{Found}
use Rattle.vala_lexer.specs.declared.pieces.Fault.{Fault}
use Rattle.vala_lexer.specs.Bytes.{is_letter, is_digit, is_hex_digit, run, is_ending, place_of, starts_with_quotes, in_64_bits, value}
use Rattle.vala_lexer.specs.Words.{word_kind, word_starting, is_identifier}
use Rattle.vala_lexer.specs.Signs.{sign_of_one, sign_of_two, sign_of_three, or_shorter}
use Rattle.vala_lexer.specs.Numbers.{is_u, is_l, suffix_of, suffix_len, integer_type, integer_of, integer, hexadecimal, decimal, is_fraction, is_prefixed, number}
use Rattle.vala_lexer.specs.Texts.{inside, inside_behind, sound_bytes, sound_behind, sound_escapes, is_escape, checked, plain_text_of, plain_text, verbatim_text_of, verbatim_text, text, character_of, escaped_character, character_inside, character_between, character, escape}
use Rattle.vala_lexer.specs.Cut.{word, marked_word, sign_or_bad, sign_or_bad_of, cut}
use Rattle.vala_lexer.specs.Written.{IsWord, IsDecimal, IsHexadecimal, IsSuffix, IsToken}
use Rattle.vala_lexer.specs.Written as written
use Rattle.vala_lexer.specs.Tokens.{Left, Lexeme, next_of}
use Rattle.vala_lexer.proofs.ByteLemmas.{is_some_number}
use Rattle.vala_lexer.proofs.NextLemmas.{TokenFound, token_found, found_within}
use Rattle.vala_lexer.proofs.FitLemmas.{run_within, run_some, there, two_some, three_some, within_two, suffix_within, inside_within, quotes_place, quotes_within}
use Rattle.vala_lexer.proofs.CoverLemmas.{run_front}
use Rattle.vala_lexer.proofs.LongestLemmas.{longest}

take_first : (n : ℕ) (z : List ℕ) → 0 < n → get_or (take n z) 0 0 ≡ get_or z 0 0
take_first zero z h = absurd (omega arith)
take_first (suc n) [] h = refl
take_first (suc n) (b ∷ z) h = refl

take_more : (n m : ℕ) (b : ℕ) (z : List ℕ) → m ≡ suc n → take m (b ∷ z) ≡ b ∷ take n z
take_more n m b z e = ap (λ i. take i (b ∷ z)) e

pub cons_of : (x : ℕ) (z : List ℕ) → 0 < x → (get_or z 0 0 == x) ≡ true → z ≡ x ∷ drop 1 z
cons_of x [] some h = let e : 0 ≡ x = eqb-true 0 x h in absurd (omega arith)
cons_of x (b ∷ z) some h = ap (λ y. y ∷ z) (eqb-true b x h)

-- a token, by how it was found
abbrev Written : List ℕ → Found → Type 0
Written z t = IsToken (take t.len z) t.kind

-- ---- words

front_run : (c : Class) (z : List ℕ) → (length (take (run c z) z) ≡ run c z) × (run c (take (run c z) z) ≡ length (take (run c z) z))
front_run c z = let len : length (take (run c z) z) ≡ run c z = length-take-le (run c z) z (run_within c z) in (len, run_front c (run c z) z (omega arith) ∙ sym len)

is_word : (z : List ℕ) → 0 < length z → is_letter (get_or z 0 0) ≡ true → IsWord (take (run class.Word z) z)
is_word z some h =
    let enough : 0 < run class.Word z = run_some class.Word z some (or_right (is_digit (get_or z 0 0)) (is_letter (get_or z 0 0)) h) in
    let f = front_run class.Word z in
    let len : length (take (run class.Word z) z) ≡ run class.Word z = f.0 in
    record { some = omega arith; letter = ap is_letter (take_first (run class.Word z) z enough) ∙ h; all = f.1 }

word_written : (z : List ℕ) (t : Found) → 0 < length z → is_letter (get_or z 0 0) ≡ true → word z ≡ Ok t → Written z t
word_written z t some h = cond_both (nat_lt 200 (run class.Word z)) _ _ (λ r. r ≡ Ok t → Written z t) (λ _ e. absurd cc)
    (λ small e.
    let same : record { kind = word_kind (take (run class.Word z) z); len = run class.Word z } ≡ t = cc in
    let len : length (take (run class.Word z) z) ≡ run class.Word z = (front_run class.Word z).0 in
    let most : run class.Word z ≤ 200 = ltb-false 200 (run class.Word z) small in
    subst (Written z) same (written.word (take (run class.Word z) z) (is_word z some h) (omega arith)))

keyword_letter : (b : ℕ) (w : List ℕ) → is_identifier (word_starting b w) ≡ false → is_letter b ≡ true
keyword_letter b w = cond_both (b == 97) _ _ P (λ e _. subst (λ x. is_letter x ≡ true) (sym (eqb-true b 97 e)) refl) (λ _. cond_both (b == 98) _ _ P (λ e _. subst (λ x. is_letter x ≡ true) (sym (eqb-true b 98 e)) refl) (λ _. cond_both (b == 99) _ _ P (λ e _. subst (λ x. is_letter x ≡ true) (sym (eqb-true b 99 e)) refl) (λ _. cond_both (b == 100) _ _ P (λ e _. subst (λ x. is_letter x ≡ true) (sym (eqb-true b 100 e)) refl) (λ _. cond_both (b == 101) _ _ P (λ e _. subst (λ x. is_letter x ≡ true) (sym (eqb-true b 101 e)) refl) (λ _. cond_both (b == 102) _ _ P (λ e _. subst (λ x. is_letter x ≡ true) (sym (eqb-true b 102 e)) refl) (λ _. cond_both (b == 105) _ _ P (λ e _. subst (λ x. is_letter x ≡ true) (sym (eqb-true b 105 e)) refl) (λ _. cond_both (b == 108) _ _ P (λ e _. subst (λ x. is_letter x ≡ true) (sym (eqb-true b 108 e)) refl) (λ _. cond_both (b == 110) _ _ P (λ e _. subst (λ x. is_letter x ≡ true) (sym (eqb-true b 110 e)) refl) (λ _. cond_both (b == 111) _ _ P (λ e _. subst (λ x. is_letter x ≡ true) (sym (eqb-true b 111 e)) refl) (λ _. cond_both (b == 112) _ _ P (λ e _. subst (λ x. is_letter x ≡ true) (sym (eqb-true b 112 e)) refl) (λ _. cond_both (b == 114) _ _ P (λ e _. subst (λ x. is_letter x ≡ true) (sym (eqb-true b 114 e)) refl) (λ _. cond_both (b == 115) _ _ P (λ e _. subst (λ x. is_letter x ≡ true) (sym (eqb-true b 115 e)) refl) (λ _. cond_both (b == 116) _ _ P (λ e _. subst (λ x. is_letter x ≡ true) (sym (eqb-true b 116 e)) refl) (λ _. cond_both (b == 117) _ _ P (λ e _. subst (λ x. is_letter x ≡ true) (sym (eqb-true b 117 e)) refl) (λ _. cond_both (b == 118) _ _ P (λ e _. subst (λ x. is_letter x ≡ true) (sym (eqb-true b 118 e)) refl) (λ _. cond_both (b == 119) _ _ P (λ e _. subst (λ x. is_letter x ≡ true) (sym (eqb-true b 119 e)) refl) (λ _. cond_both (b == 121) _ _ P (λ e _. subst (λ x. is_letter x ≡ true) (sym (eqb-true b 121 e)) refl) (λ _. λ h. absurd cc))))))))))))))))))
  where
    P : TokenKind → Type 0
    P kind = is_identifier kind ≡ false → is_letter b ≡ true

marked_written : (y : List ℕ) (t : Found) → marked_word (64 ∷ y) ≡ Ok t → Written (64 ∷ y) t
marked_written y t = cond_both (get_or y 0 0 == 34) _ _ P (λ _ e. absurd cc)
    (λ _. cond_both (is_identifier (word_kind (take (run class.Word y) y))) _ _ P (λ _ e. absurd cc)
    (λ keyword e.
    let same : record { kind = k.Identifier; len = run class.Word y + 1 } ≡ t = cc in
    let letter : is_letter (get_or (take (run class.Word y) y) 0 0) ≡ true = keyword_letter (get_or (take (run class.Word y) y) 0 0) (take (run class.Word y) y) keyword in
    let some : 0 < length (take (run class.Word y) y) = there is_letter (take (run class.Word y) y) 0 refl letter in
    let is : IsWord (take (run class.Word y) y) = record { some = some; letter = letter; all = (front_run class.Word y).1 } in
    let one_more : run class.Word y + 1 ≡ suc (run class.Word y) = omega arith in
    subst (Written (64 ∷ y)) same (subst (λ x. IsToken x k.Identifier) (sym (take_more (run class.Word y) (run class.Word y + 1) 64 y one_more)) (written.marked (take (run class.Word y) y) is keyword))))
  where
    P : Result Found Fault → Type 0
    P r = r ≡ Ok t → Written (64 ∷ y) t

-- ---- signs

take_one : (z : List ℕ) → 0 < length z → take 1 z ≡ get_or z 0 0 ∷ []
take_one [] h = absurd (omega arith)
take_one (b ∷ z) h = refl

take_two : (z : List ℕ) → 1 < length z → take 2 z ≡ get_or z 0 0 ∷ get_or z 1 0 ∷ []
take_two [] h = absurd (omega arith)
take_two (b ∷ []) h = absurd (omega arith)
take_two (b ∷ c ∷ z) h = refl

take_three : (z : List ℕ) → 2 < length z → take 3 z ≡ get_or z 0 0 ∷ get_or z 1 0 ∷ get_or z 2 0 ∷ []
take_three [] h = absurd (omega arith)
take_three (b ∷ []) h = absurd (omega arith)
take_three (b ∷ c ∷ []) h = absurd (omega arith)
take_three (b ∷ c ∷ d ∷ z) h = refl

sign_written : (z : List ℕ) (t : Found) → 0 < length z → sign_or_bad z ≡ Ok t → Written z t
sign_written z t some = three (sign_of_three (get_or z 0 0) (get_or z 1 0) (get_or z 2 0)) refl
  where
    one : (o : Option TokenKind) → sign_of_one (get_or z 0 0) ≡ o → sign_or_bad_of (or_shorter o 1 None) ≡ Ok t → Written z t
    one None i e = absurd cc
    one (Some kind) i e = let same : record { kind = kind; len = 1 } ≡ t = cc in subst (Written z) same (subst (λ x. IsToken x kind) (sym (take_one z some)) (written.one (get_or z 0 0) kind i))

    two : (o : Option TokenKind) → sign_of_two (get_or z 0 0) (get_or z 1 0) ≡ o → sign_or_bad_of (or_shorter o 2 (or_shorter (sign_of_one (get_or z 0 0)) 1 None)) ≡ Ok t → Written z t
    two None i e = one (sign_of_one (get_or z 0 0)) refl e
    two (Some kind) i e = let same : record { kind = kind; len = 2 } ≡ t = cc in let more : 1 < length z = within_two z 1 (two_some (get_or z 0 0) (get_or z 1 0) kind i) in
        subst (Written z) same (subst (λ x. IsToken x kind) (sym (take_two z more)) (written.two (get_or z 0 0) (get_or z 1 0) kind i))

    three : (o : Option TokenKind) → sign_of_three (get_or z 0 0) (get_or z 1 0) (get_or z 2 0) ≡ o → sign_or_bad_of (or_shorter o 3 (or_shorter (sign_of_two (get_or z 0 0) (get_or z 1 0)) 2 (or_shorter (sign_of_one (get_or z 0 0)) 1 None))) ≡ Ok t → Written z t
    three None i e = two (sign_of_two (get_or z 0 0) (get_or z 1 0)) refl e
    three (Some kind) i e = let same : record { kind = kind; len = 3 } ≡ t = cc in let more : 2 < length z = within_two z 2 (three_some (get_or z 0 0) (get_or z 1 0) (get_or z 2 0) kind i) in
        subst (Written z) same (subst (λ x. IsToken x kind) (sym (take_three z more)) (written.three (get_or z 0 0) (get_or z 1 0) (get_or z 2 0) kind i))

-- ---- numbers

-- the suffix in front is one alone
suffix_front : (y : List ℕ) → suffix_of (take (suffix_len (suffix_of y)) y) ≡ suffix_of y
suffix_front [] = refl
suffix_front (a ∷ y) = cond_both (is_u a) _ _ P
    (λ u. cond_both (is_l (get_or y 0 0)) _ _ P
    (λ l. cond_both (is_l (get_or y 1 0)) _ _ P (λ m. three u y l m) (λ m. two_u u y l))
    (λ l. rw u refl))
    (λ u. cond_both (is_l a) _ _ P
    (λ l. cond_both (is_l (get_or y 0 0)) _ _ P (λ m. two_l u l y m) (λ m. rw (u, l) refl))
    (λ l. refl))
  where
    P : Suffix → Type 0
    P s = suffix_of (take (suffix_len s) (a ∷ y)) ≡ s

    three : is_u a ≡ true → (y : List ℕ) → is_l (get_or y 0 0) ≡ true → is_l (get_or y 1 0) ≡ true → suffix_of (take 3 (a ∷ y)) ≡ suffix.Ull
    three u [] l m = absurd cc
    three u (b ∷ []) l m = absurd cc
    three u (b ∷ c ∷ y) l m = rw (u, l, m) refl

    two_u : is_u a ≡ true → (y : List ℕ) → is_l (get_or y 0 0) ≡ true → suffix_of (take 2 (a ∷ y)) ≡ suffix.Ul
    two_u u [] l = absurd cc
    two_u u (b ∷ y) l = rw (u, l) refl

    two_l : is_u a ≡ false → is_l a ≡ true → (y : List ℕ) → is_l (get_or y 0 0) ≡ true → suffix_of (take 2 (a ∷ y)) ≡ suffix.Ll
    two_l u l [] m = absurd cc
    two_l u l (b ∷ y) m = rw (u, l, m) refl

suffix_at : (y : List ℕ) → suffix_len (suffix_of y) ≤ length y → IsSuffix (take (suffix_len (suffix_of y)) y)
suffix_at y h = ap suffix_len (suffix_front y) ∙ sym (length-take-le (suffix_len (suffix_of y)) y h)

-- what a number denotes that is found
integer_found : (v : Option ℕ) (len : ℕ) (behind : List ℕ) (t : Found) → integer v len behind ≡ Ok t
    → (n : ℕ) × (it : IntegerType) × (v ≡ Some n) × (integer_type (suffix_of behind) n ≡ Some it) × (record { kind = k.Integer n it; len = len + suffix_len (suffix_of behind) } ≡ t)
integer_found None len behind t h = absurd cc
integer_found (Some n) len behind t h = go (integer_type (suffix_of behind) n) refl h
  where
    go : (o : Option IntegerType) → integer_type (suffix_of behind) n ≡ o → integer_of (len + suffix_len (suffix_of behind)) (Some n) o ≡ Ok t
        → (m : ℕ) × (it : IntegerType) × (Some n ≡ Some m) × (integer_type (suffix_of behind) m ≡ Some it) × (record { kind = k.Integer m it; len = len + suffix_len (suffix_of behind) } ≡ t)
    go None e h = absurd cc
    go (Some it) e h = (n, it, refl, e, (let same : record { kind = k.Integer n it; len = len + suffix_len (suffix_of behind) } ≡ t = cc in same))

integer_written : (base n : ℕ) (d y : List ℕ) (t : Found) → integer (in_64_bits (value base d)) n y ≡ Ok t
    → (it : IntegerType) × (integer_type (suffix_of (take (suffix_len (suffix_of y)) y)) (value base d) ≡ Some it) × (record { kind = k.Integer (value base d) it; len = n + suffix_len (suffix_of y) } ≡ t)
integer_written base n d y t h =
    let f = integer_found (in_64_bits (value base d)) n y t h in
    let v : f.0 ≡ value base d = is_some_number (value base d) f.0 (sym f.2) in
    (f.1, ap₂ integer_type (suffix_front y) (sym v) ∙ f.3, ap (λ (x : ℕ). record { kind = k.Integer x f.1; len = n + suffix_len (suffix_of y) }) (sym v) ∙ f.4)

decimal_written : (z : List ℕ) (t : Found) → 0 < length z → is_digit (get_or z 0 0) ≡ true → decimal z ≡ Ok t → Written z t
decimal_written z t some digit = cond_both (is_fraction (drop (run class.Digit z) z)) _ _ P (λ _ h. absurd cc)
    (λ _. cond_both (nat_lt 1 (run class.Digit z) && get_or z 0 0 == 48) _ _ P
    (λ _ h. absurd (none (integer_found None (run class.Digit z) (drop (run class.Digit z) z) t h).2))
    (λ no_zero h.
    let f = integer_written 10 (run class.Digit z) (take (run class.Digit z) z) (drop (run class.Digit z) z) t h in
    let within : suffix_len (suffix_of (drop (run class.Digit z) z)) ≤ length (drop (run class.Digit z) z) = suffix_within (drop (run class.Digit z) z) in
    let split : take (run class.Digit z + suffix_len (suffix_of (drop (run class.Digit z) z))) z ≡ take (run class.Digit z) z ++ take (suffix_len (suffix_of (drop (run class.Digit z) z))) (drop (run class.Digit z) z) = take-add (run class.Digit z) (suffix_len (suffix_of (drop (run class.Digit z) z))) z in
    subst (Written z) f.2 (subst (λ x. IsToken x (k.Integer (value 10 (take (run class.Digit z) z)) f.0)) (sym split)
    (written.decimal (take (run class.Digit z) z) (take (suffix_len (suffix_of (drop (run class.Digit z) z))) (drop (run class.Digit z) z)) f.0 (is_decimal no_zero) (suffix_at (drop (run class.Digit z) z) within) f.1))))
  where
    P : Result Found Fault → Type 0
    P r = r ≡ Ok t → Written z t

    none : {n : ℕ} → None ≡ Some n → ⊥
    none h = cc

    enough : 0 < run class.Digit z
    enough = run_some class.Digit z some digit

    first : get_or (take (run class.Digit z) z) 0 0 ≡ get_or z 0 0
    first = take_first (run class.Digit z) z enough

    is_decimal : (nat_lt 1 (run class.Digit z) && get_or z 0 0 == 48) ≡ false → IsDecimal (take (run class.Digit z) z)
    is_decimal no_zero =
        let f = front_run class.Digit z in
        let len : length (take (run class.Digit z) z) ≡ run class.Digit z = f.0 in
        let more : 0 < run class.Digit z = enough in
        record {
          some = omega arith;
          all = f.1;
          no_leading_zero = λ e. ⊎_elim
              (λ (small : nat_lt 1 (run class.Digit z) ≡ false). let least : run class.Digit z ≤ 1 = ltb-false 1 (run class.Digit z) small in let one : length (take (run class.Digit z) z) ≡ 1 = omega arith in one)
              (λ (other : (get_or z 0 0 == 48) ≡ false). absurd (eqb-false (get_or z 0 0) 48 other (sym first ∙ e)))
              (and_cases (nat_lt 1 (run class.Digit z)) (get_or z 0 0 == 48) no_zero);
        }

hexadecimal_written : (y : List ℕ) (t : Found) → is_hex_digit (get_or y 0 0) ≡ true → hexadecimal (48 ∷ 120 ∷ y) ≡ Ok t → Written (48 ∷ 120 ∷ y) t
hexadecimal_written y t digit h =
    let n : ℕ = run class.HexDigit y in
    let f = integer_written 16 (run class.HexDigit y + 2) (take (run class.HexDigit y) y) (drop (run class.HexDigit y) y) t h in
    let within : suffix_len (suffix_of (drop (run class.HexDigit y) y)) ≤ length (drop (run class.HexDigit y) y) = suffix_within (drop (run class.HexDigit y) y) in
    let count : run class.HexDigit y + 2 + suffix_len (suffix_of (drop (run class.HexDigit y) y)) ≡ suc (suc (run class.HexDigit y + suffix_len (suffix_of (drop (run class.HexDigit y) y)))) = omega arith in
    let split : take (run class.HexDigit y + 2 + suffix_len (suffix_of (drop (run class.HexDigit y) y))) (48 ∷ 120 ∷ y) ≡ 48 ∷ 120 ∷ take (run class.HexDigit y) y ++ take (suffix_len (suffix_of (drop (run class.HexDigit y) y))) (drop (run class.HexDigit y) y)
    = ap (λ i. take i (48 ∷ 120 ∷ y)) count ∙ ap (λ x. 48 ∷ 120 ∷ x) (take-add (run class.HexDigit y) (suffix_len (suffix_of (drop (run class.HexDigit y) y))) y) in
    let some : 0 < length y = there is_hex_digit y 0 refl digit in
    let enough : 0 < run class.HexDigit y = run_some class.HexDigit y some digit in
    let r = front_run class.HexDigit y in
    let len : length (take (run class.HexDigit y) y) ≡ run class.HexDigit y = r.0 in
    let is : IsHexadecimal (take (run class.HexDigit y) y) = record { some = omega arith; all = r.1 } in
    subst (Written (48 ∷ 120 ∷ y)) f.2 (subst (λ x. IsToken x (k.Integer (value 16 (take (run class.HexDigit y) y)) f.0)) (sym split)
    (written.hexadecimal (take (run class.HexDigit y) y) (take (suffix_len (suffix_of (drop (run class.HexDigit y) y))) (drop (run class.HexDigit y) y)) f.0 is (suffix_at (drop (run class.HexDigit y) y) within) f.1))

prefix_of : (z : List ℕ) → is_prefixed z ≡ true → (z ≡ 48 ∷ 120 ∷ drop 2 z) × (is_hex_digit (get_or (drop 2 z) 0 0) ≡ true)
prefix_of [] h = absurd cc
prefix_of (a ∷ []) h = let no : (0 == 120) ≡ true = (and_parts (a == 48) (0 == 120) (and_parts (a == 48 && 0 == 120) (is_hex_digit 0) h).0).1 in absurd cc
prefix_of (a ∷ b ∷ y) h =
    let front = and_parts (a == 48) (b == 120) (and_parts (a == 48 && b == 120) (is_hex_digit (get_or y 0 0)) h).0 in
    (ap₂ (λ (x w : ℕ). x ∷ w ∷ y) (eqb-true a 48 front.0) (eqb-true b 120 front.1), (and_parts (a == 48 && b == 120) (is_hex_digit (get_or y 0 0)) h).1)

number_written : (z : List ℕ) (t : Found) → 0 < length z → is_digit (get_or z 0 0) ≡ true → number z ≡ Ok t → Written z t
number_written z t some digit = cond_both (is_prefixed z) _ _ (λ r. r ≡ Ok t → Written z t)
    (λ p. let f = prefix_of z p in subst (λ x. hexadecimal x ≡ Ok t → Written x t) (sym f.0) (hexadecimal_written (drop 2 z) t f.1))
    (λ _. decimal_written z t some digit)

-- ---- texts and characters

-- what ends a text or a character is its quote, and ends it also where the bytes end behind it
inside_front : (q : ℕ) (e : Bool) (y : List ℕ) (n : ℕ) → inside_behind e q y ≡ Some n → (take (suc n) y ≡ take n y ++ q ∷ []) × (inside_behind e q (take n y ++ q ∷ []) ≡ Some n)
inside_front q e [] n given = absurd cc
inside_front q e (b ∷ y) n given = cond_both (b == 10) _ _ P (λ _ h. absurd cc)
    (λ line. cond_both (b == q && not e) _ _ P
    (λ ends h. first n line ends (let same : 0 ≡ n = cc in same))
    (λ goes_on h. later (inside_behind (b == 92 && not e) q y) (λ m f. inside_front q (b == 92 && not e) y m f) line goes_on n h)) given
  where
    P : Option ℕ → Type 0
    P o = o ≡ Some n → (take (suc n) (b ∷ y) ≡ take n (b ∷ y) ++ q ∷ []) × (inside_behind e q (take n (b ∷ y) ++ q ∷ []) ≡ Some n)

    first : (n : ℕ) → (b == 10) ≡ false → (b == q && not e) ≡ true → 0 ≡ n → (take (suc n) (b ∷ y) ≡ take n (b ∷ y) ++ q ∷ []) × (inside_behind e q (take n (b ∷ y) ++ q ∷ []) ≡ Some n)
    first (suc n) line ends same = absurd (omega arith)
    first zero line ends same =
        let is : b ≡ q = eqb-true b q (and_parts (b == q) (not e) ends).0 in
        (ap (λ x. x ∷ []) is, subst (λ x. inside_behind e q (x ∷ []) ≡ Some 0) is (rw (line, ends) refl))

    later : (o : Option ℕ) → ((m : ℕ) → o ≡ Some m → (take (suc m) y ≡ take m y ++ q ∷ []) × (inside_behind (b == 92 && not e) q (take m y ++ q ∷ []) ≡ Some m)) → (b == 10) ≡ false → (b == q && not e) ≡ false → (n : ℕ) → option_map (λ m. suc m) o ≡ Some n
        → (take (suc n) (b ∷ y) ≡ take n (b ∷ y) ++ q ∷ []) × (inside_behind e q (take n (b ∷ y) ++ q ∷ []) ≡ Some n)
    later None further line goes_on n h = absurd cc
    later (Some m) further line goes_on zero h = let no : suc m ≡ 0 = cc in absurd (omega arith)
    later (Some m) further line goes_on (suc n) h =
        let f = further n (let same : m ≡ n = cc in ap Some same) in
        (ap (λ x. b ∷ x) f.0, rw (line, goes_on) (ap (option_map (λ m. suc m)) f.1))

sound_within : (e : Bool) (z : List ℕ) → sound_behind e z ≤ length z
sound_within e [] = omega arith
sound_within e (b ∷ z) = cond_both ((b == 92 && not e) && not (is_escape z)) _ _ (λ n. n ≤ suc (length z)) (λ _. omega arith) (λ _. let more : sound_behind (b == 92 && not e) z ≤ length z = sound_within (b == 92 && not e) z in omega arith)

bytes_within : (z : List ℕ) → sound_bytes z ≤ length z
bytes_within z = cond_both (nat_lt (run class.NotZero z) (utf8_valid_len z)) _ _ (λ n. n ≤ length z) (λ _. run_within class.NotZero z) (λ _. utf8_valid_len_le z)

-- a text that is found has no fault
checked_found : (q n b e : ℕ) (t : Found) → checked q n b e ≡ Ok t → (n ≤ b) × (n ≤ e) × (record { kind = k.Text; len = q + n + q } ≡ t)
checked_found q n b e t = cond_both (nat_lt b n && nat_le b e) _ _ P (λ _ h. absurd cc)
    (λ bytes. cond_both (nat_lt e n) _ _ P (λ _ h. absurd cc)
    (λ escapes h. let all : n ≤ e = ltb-false e n escapes in
    ((⊎_elim (λ (f : nat_lt b n ≡ false). ltb-false b n f) (λ (f : nat_le b e ≡ false). let more : e < b = leb-false b e f in let far : n ≤ b = omega arith in far) (and_cases (nat_lt b n) (nat_le b e) bytes)), all, (let same : record { kind = k.Text; len = q + n + q } ≡ t = cc in same))))
  where
    P : Result Found Fault → Type 0
    P r = r ≡ Ok t → (n ≤ b) × (n ≤ e) × (record { kind = k.Text; len = q + n + q } ≡ t)

plain_written : (y : List ℕ) (t : Found) → plain_text y ≡ Ok t → Written (34 ∷ y) t
plain_written y t = go (inside 34 y) refl
  where
    go : (o : Option ℕ) → inside 34 y ≡ o → plain_text_of y o ≡ Ok t → Written (34 ∷ y) t
    go None i h = absurd cc
    go (Some n) i h =
        let f = checked_found 1 n (sound_bytes (take n y)) (sound_escapes (take n y)) t h in
        let small : n < length y = inside_within false 34 y n i in
        let len : length (take n y) ≡ n = length-take-le n y (omega arith) in
        let ends = inside_front 34 false y n i in
        let most_bytes : sound_bytes (take n y) ≤ length (take n y) = bytes_within (take n y) in
        let most_escapes : sound_escapes (take n y) ≤ length (take n y) = sound_within false (take n y) in
        let all_bytes : n ≤ sound_bytes (take n y) = f.0 in
        let all_escapes : n ≤ sound_escapes (take n y) = f.1 in
        let count : 1 + n + 1 ≡ suc (suc n) = omega arith in
        let written_is : take (1 + n + 1) (34 ∷ y) ≡ 34 ∷ take n y ++ 34 ∷ [] = ap (λ i. take i (34 ∷ y)) count ∙ ap (λ x. 34 ∷ x) ends.0 in
        subst (Written (34 ∷ y)) f.2 (subst (λ x. IsToken x k.Text) (sym written_is)
        (written.text (take n y) (ends.1 ∙ ap Some (sym len)) (let e : sound_bytes (take n y) ≡ length (take n y) = omega arith in e) (let e : sound_escapes (take n y) ≡ length (take n y) = omega arith in e)))

quotes_prefix : (z : List ℕ) → starts_with_quotes z ≡ true → z ≡ 34 ∷ 34 ∷ 34 ∷ drop 3 z
quotes_prefix [] h = let long : 2 < 0 = quotes_within [] h in absurd (omega arith)
quotes_prefix (a ∷ []) h = let long : 2 < length (a ∷ []) = quotes_within (a ∷ []) h in absurd (omega arith)
quotes_prefix (a ∷ b ∷ []) h = let long : 2 < length (a ∷ b ∷ []) = quotes_within (a ∷ b ∷ []) h in absurd (omega arith)
quotes_prefix (a ∷ b ∷ c ∷ y) h =
    let front = and_parts (a == 34) (b == 34) (and_parts (a == 34 && b == 34) (c == 34) h).0 in
    rw (eqb-true a 34 front.0, eqb-true b 34 front.1, eqb-true c 34 (and_parts (a == 34 && b == 34) (c == 34) h).1) refl

-- the first three `"` are the first ones also where the bytes end behind them
quotes_front : (n : ℕ) (y : List ℕ) → place_of ending.Quotes y ≡ Some n → (take (suc (suc (suc n))) y ≡ take n y ++ 34 ∷ 34 ∷ 34 ∷ []) × (place_of ending.Quotes (take n y ++ 34 ∷ 34 ∷ 34 ∷ []) ≡ Some n)
quotes_front n [] given = absurd cc
quotes_front n (b ∷ y) given = cond_both (is_ending ending.Quotes (b ∷ y)) _ _ P (λ q h. first n q (let same : 0 ≡ n = cc in same)) (λ none h. later (place_of ending.Quotes y) (λ m f. quotes_front m y f) none n h) given
  where
    P : Option ℕ → Type 0
    P o = o ≡ Some n → (take (suc (suc (suc n))) (b ∷ y) ≡ take n (b ∷ y) ++ 34 ∷ 34 ∷ 34 ∷ []) × (place_of ending.Quotes (take n (b ∷ y) ++ 34 ∷ 34 ∷ 34 ∷ []) ≡ Some n)

    first : (n : ℕ) → starts_with_quotes (b ∷ y) ≡ true → 0 ≡ n → (take (suc (suc (suc n))) (b ∷ y) ≡ take n (b ∷ y) ++ 34 ∷ 34 ∷ 34 ∷ []) × (place_of ending.Quotes (take n (b ∷ y) ++ 34 ∷ 34 ∷ 34 ∷ []) ≡ Some n)
    first (suc n) q same = absurd (omega arith)
    first zero q same = (ap (take 3) (quotes_prefix (b ∷ y) q), refl)

    zeroth_byte : (m : ℕ) (y : List ℕ) → get_or (take (suc m) y) 0 0 ≡ get_or y 0 0
    zeroth_byte m [] = refl
    zeroth_byte m (c ∷ y) = refl

    first_byte : (m : ℕ) (y : List ℕ) → get_or (take (suc (suc m)) y) 1 0 ≡ get_or y 1 0
    first_byte m [] = refl
    first_byte m (c ∷ []) = refl
    first_byte m (c ∷ d ∷ y) = refl

    later : (o : Option ℕ) → ((m : ℕ) → o ≡ Some m → (take (suc (suc (suc m))) y ≡ take m y ++ 34 ∷ 34 ∷ 34 ∷ []) × (place_of ending.Quotes (take m y ++ 34 ∷ 34 ∷ 34 ∷ []) ≡ Some m)) → is_ending ending.Quotes (b ∷ y) ≡ false → (n : ℕ) → option_map (λ m. suc m) o ≡ Some n
        → (take (suc (suc (suc n))) (b ∷ y) ≡ take n (b ∷ y) ++ 34 ∷ 34 ∷ 34 ∷ []) × (place_of ending.Quotes (take n (b ∷ y) ++ 34 ∷ 34 ∷ 34 ∷ []) ≡ Some n)
    later None further none n h = absurd cc
    later (Some m) further none zero h = let never : suc m ≡ 0 = cc in absurd (omega arith)
    later (Some m) further none (suc n) h =
        let f = further n (let same : m ≡ n = cc in ap Some same) in
        let zero_is : get_or (take n y ++ 34 ∷ 34 ∷ 34 ∷ []) 0 0 ≡ get_or y 0 0 = ap (λ x. get_or x 0 0) (sym f.0) ∙ zeroth_byte (suc (suc n)) y in
        let first_is : get_or (take n y ++ 34 ∷ 34 ∷ 34 ∷ []) 1 0 ≡ get_or y 1 0 = ap (λ x. get_or x 1 0) (sym f.0) ∙ first_byte (suc n) y in
        let no_ending : is_ending ending.Quotes (b ∷ take n y ++ 34 ∷ 34 ∷ 34 ∷ []) ≡ false = ap₂ (λ (x w : ℕ). b == 34 && x == 34 && w == 34) zero_is first_is ∙ none in
        (ap (λ x. b ∷ x) f.0, rw no_ending (ap (option_map (λ m. suc m)) f.1))

verbatim_written : (y : List ℕ) (t : Found) → verbatim_text y ≡ Ok t → Written (34 ∷ 34 ∷ 34 ∷ y) t
verbatim_written y t = go (place_of ending.Quotes y) refl
  where
    go : (o : Option ℕ) → place_of ending.Quotes y ≡ o → verbatim_text_of y o ≡ Ok t → Written (34 ∷ 34 ∷ 34 ∷ y) t
    go None i h = absurd cc
    go (Some n) i h =
        let f = checked_found 3 n (sound_bytes (take n y)) n t h in
        let small : n + 3 ≤ length y = quotes_place y n i in
        let len : length (take n y) ≡ n = length-take-le n y (omega arith) in
        let ends = quotes_front n y i in
        let most_bytes : sound_bytes (take n y) ≤ length (take n y) = bytes_within (take n y) in
        let all_bytes : n ≤ sound_bytes (take n y) = f.0 in
        let count : 3 + n + 3 ≡ suc (suc (suc (suc (suc (suc n))))) = omega arith in
        let written_is : take (3 + n + 3) (34 ∷ 34 ∷ 34 ∷ y) ≡ 34 ∷ 34 ∷ 34 ∷ take n y ++ 34 ∷ 34 ∷ 34 ∷ [] = ap (λ i. take i (34 ∷ 34 ∷ 34 ∷ y)) count ∙ ap (λ x. 34 ∷ 34 ∷ 34 ∷ x) ends.0 in
        subst (Written (34 ∷ 34 ∷ 34 ∷ y)) f.2 (subst (λ x. IsToken x k.Text) (sym written_is)
        (written.verbatim (take n y) (ends.1 ∙ ap Some (sym len)) (let e : sound_bytes (take n y) ≡ length (take n y) = omega arith in e)))

text_written : (z : List ℕ) (t : Found) → (get_or z 0 0 == 34) ≡ true → text z ≡ Ok t → Written z t
text_written z t is = cond_both (starts_with_quotes z) _ _ (λ r. r ≡ Ok t → Written z t)
    (λ q h. subst (λ x. Written x t) (sym (quotes_prefix z q)) (verbatim_written (drop 3 z) t h))
    (λ _ h. subst (λ x. Written x t) (sym (cons_of 34 z (omega arith) is)) (plain_written (drop 1 z) t h))

character_found : (z : List ℕ) (t : Found) → character_inside z ≡ Ok t → (code : ℕ) × (record { kind = k.Character code; len = length z + 2 } ≡ t)
character_found z t = cond_both (length z == 0) _ _ P (λ _ h. absurd cc)
    (λ _. cond_both (get_or z 0 0 == 0 || nat_le 128 (get_or z 0 0)) _ _ P (λ _ h. absurd cc)
    (λ _. cond_both (not (get_or z 0 0 == 92)) _ _ P
    (λ _. cond_both (length z == 1) _ _ P (λ one h. let len : length z ≡ 1 = eqb-true (length z) 1 one in found (get_or z 0 0) 1 len h) (λ _ h. absurd cc))
    (λ _. escaped (escape literal.Character (drop 1 z)))))
  where
    P : Result Found Fault → Type 0
    P r = r ≡ Ok t → (code : ℕ) × (record { kind = k.Character code; len = length z + 2 } ≡ t)

    found : (code n : ℕ) → length z ≡ n → character_of code n ≡ Ok t → (code : ℕ) × (record { kind = k.Character code; len = length z + 2 } ≡ t)
    found code n len h = let same : record { kind = k.Character code; len = n + 2 } ≡ t = cc in (code, ap (λ (m : ℕ). record { kind = k.Character code; len = m + 2 }) len ∙ same)

    escaped : (o : Option Escape) → P (escaped_character (length z) o)
    escaped None given = absurd cc
    escaped (Some e) given = cond_both (length z == e.len + 1) _ _ P (λ all h. found e.code (e.len + 1) (eqb-true (length z) (e.len + 1) all) h) (λ _ h. absurd cc) given

character_written : (y : List ℕ) (t : Found) → character (39 ∷ y) ≡ Ok t → Written (39 ∷ y) t
character_written y t = go (inside 39 y) refl
  where
    go : (o : Option ℕ) → inside 39 y ≡ o → character_between y o ≡ Ok t → Written (39 ∷ y) t
    go None i h = absurd cc
    go (Some n) i h =
        let f = character_found (take n y) t h in
        let small : n < length y = inside_within false 39 y n i in
        let len : length (take n y) ≡ n = length-take-le n y (omega arith) in
        let ends = inside_front 39 false y n i in
        let count : length (take n y) + 2 ≡ suc (suc n) = omega arith in
        let written_is : take (length (take n y) + 2) (39 ∷ y) ≡ 39 ∷ take n y ++ 39 ∷ [] = ap (λ i. take i (39 ∷ y)) count ∙ ap (λ x. 39 ∷ x) ends.0 in
        subst (Written (39 ∷ y)) f.1 (subst (λ x. IsToken x (k.Character f.0)) (sym written_is)
        (written.character (take n y) f.0 (ends.1 ∙ ap Some (sym len)) (h ∙ ap (λ (x : Found). Ok x) (sym f.1))))

-- ---- all classes

pub cut_written : (front z : List ℕ) (t : Found) → 0 < length z → cut front z ≡ Ok t → Written z t
unfolding cut
cut_written front z t some =
    cond_both (is_letter (get_or z 0 0)) _ _ P (λ h. word_written z t some h)
    (λ _. cond_both (is_digit (get_or z 0 0)) _ _ P (λ h. number_written z t some h)
    (λ _. cond_both (get_or z 0 0 == 34) _ _ P (λ h. text_written z t h)
    (λ _. cond_both (get_or z 0 0 == 39) _ _ P (λ h. subst (λ x. character x ≡ Ok t → Written x t) (sym (cons_of 39 z (omega arith) h)) (character_written (drop 1 z) t))
    (λ _. cond_both (get_or z 0 0 == 64) _ _ P (λ h. subst (λ x. marked_word x ≡ Ok t → Written x t) (sym (cons_of 64 z (omega arith) h)) (marked_written (drop 1 z) t))
    (λ _. cond_both (get_or z 0 0 == 35) _ _ P (λ _ h. absurd cc) (λ _. sign_written z t some))))))
  where
    P : Result Found Fault → Type 0
    P r = r ≡ Ok t → Written z t

pub token_written : (l : Left) (t : Lexeme) → next_of l ≡ Ok (Some t) → IsToken t.text t.kind
token_written l t h =
    let f : TokenFound l t = token_found l t h in
    let inside : l.at + f.n < length l.bytes = f.inside in
    let len : length (drop (l.at + f.n) l.bytes) ≡ length l.bytes - (l.at + f.n) = length-drop (l.at + f.n) l.bytes in
    subst (λ (x : Lexeme). IsToken x.text x.kind) f.is (cut_written (take (l.at + f.n) l.bytes) (drop (l.at + f.n) l.bytes) f.found (omega arith) f.cut_is)

pub token_longest : (l : Left) (t : Lexeme) → next_of l ≡ Ok (Some t) → (w rest : List ℕ) (kind : TokenKind) → drop t.span.start l.bytes ≡ w ++ rest → IsToken w kind → length w ≤ length t.text
token_longest l t h w rest kind =
    let f : TokenFound l t = token_found l t h in
    let bound : l.at + f.n + f.found.len ≤ length l.bytes = found_within l.bytes (l.at + f.n) f.found f.inside f.cut_is in
    let len : length (drop (l.at + f.n) l.bytes) ≡ length l.bytes - (l.at + f.n) = length-drop (l.at + f.n) l.bytes in
    let text_len : length (take f.found.len (drop (l.at + f.n) l.bytes)) ≡ f.found.len = length-take-le f.found.len (drop (l.at + f.n) l.bytes) (omega arith) in
    subst (λ (x : Lexeme). drop x.span.start l.bytes ≡ w ++ rest → IsToken w kind → length w ≤ length x.text) f.is
    (λ e i. let most : length w ≤ f.found.len = longest (take (l.at + f.n) l.bytes) w rest kind f.found i (ap (cut (take (l.at + f.n) l.bytes)) (sym e) ∙ f.cut_is) in omega arith)
