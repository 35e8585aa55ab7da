-- What is put is read as itself.
use Rattle.std.proofs.Common.{◌≡◌, ◌≢◌, ℕ, suc, ◌+◌, ◌-◌, ◌*◌, ◌/◌, ◌%◌, ◌^◌, ◌<◌, ◌≤◌, Bool, true, false, cond, not, ◌&&◌, ◌||◌, ◌==◌, nat_le, List, [], ◌∷◌, ◌++◌, length, get_or, append-nil, Option, Some, None, refl, sym, ap, subst, ◌∙◌, length-append, arith}
use Rattle.std.specs.Fmt.{decimal}
use Rattle.std.proofs.lemmas.Fmt.{decimal_by_steps}
use Rattle.std.proofs.lemmas.Bool.{cond_both, and_parts, eqb-true, eqb-false, leb-true, le-leb, lt-ltb}
use Rattle.std.proofs.Math.Nat.{pow-succ'}
use Rattle.c_lexer.specs.declared.bytes.Class.TheVariants as class
use Rattle.c_lexer.specs.declared.numbers.Suffix.TheVariants as suffix
use Rattle.c_lexer.specs.declared.token.NumberType.{NumberType}
use Rattle.c_lexer.specs.declared.token.NumberType.TheVariants.{Gint, Guint, Glong, Gulong}
use Rattle.c_lexer.specs.declared.token.TokenKind.TheVariants as k
use Rattle.c_lexer.specs.Bytes.{is_digit, is_octal_digit, run, value, digit_value}
use Rattle.c_lexer.specs.Texts.{simple_escape, octal_value, text_value}
use Rattle.c_lexer.specs.Written.{IsDecimal, IsToken, Denotes, nothing, byte, simple}
use Rattle.c_lexer.specs.Written as written
use Rattle.c_lexer.proofs.ListLemmas.{first_of, run_append}
use Rattle.c_lexer.proofs.DenotesLemmas.{text_denotes}
use Rattle.c_lexer.proofs.SpellingLemmas.{keyword_token, constant_token, sign_token}
use Rattle.c_printer.specs.declared.piece.Piece.{Piece}
use Rattle.c_printer.specs.declared.piece.Piece.TheVariants as piece
use Rattle.c_printer.specs.Put.{letter_of, is_plain, octal, by_letter, spelled_byte, spelled_bytes, spelled_text, spelled_character, spelled_number, spelled, kind_of, Holds, AreBytes, CanBePut}

-- ---- numbers

-- decimal digits of a value
record SaysDecimal (n : ℕ) (d : List ℕ) : Type 0 where
  digits : IsDecimal d
  says : value 10 d ≡ n

digit_is : (n : ℕ) → n < 10 → is_digit (48 + n) ≡ true
digit_is n h = rw (le-leb 48 (48 + n) (omega arith), le-leb (48 + n) 57 (omega arith)) refl

digit_says : (n : ℕ) → n < 10 → digit_value (48 + n) ≡ n
digit_says n h = rw (digit_is n h) (let e : 48 + n - 48 ≡ n = omega arith in e)

one_digit : (n : ℕ) → n < 10 → SaysDecimal n ((48 + n) ∷ [])
one_digit n h = record {
  digits = record { some = omega arith; all = rw (digit_is n h) refl; no_leading_zero = λ _. refl };
  says = let e : digit_value (48 + n) ≡ n = digit_says n h in let one : digit_value (48 + n) * 1 + 0 ≡ n = omega arith in one;
}

value_append : (d : ℕ) (u : List ℕ) → value 10 (u ++ d ∷ []) ≡ value 10 u * 10 + digit_value d
value_append d [] = let e : digit_value d * 1 + 0 ≡ 0 * 10 + digit_value d = omega arith in e
value_append d (x ∷ u) =
    let more : value 10 (u ++ d ∷ []) ≡ value 10 u * 10 + digit_value d = value_append d u in
    let len : length (u ++ d ∷ []) ≡ suc (length u) = (let l : length (u ++ d ∷ []) ≡ length u + 1 = length-append u (d ∷ []) in omega arith) in
    ap (λ (n : ℕ). digit_value x * 10 ^ n + value 10 (u ++ d ∷ [])) len ∙ ap (λ (p : ℕ). digit_value x * p + value 10 (u ++ d ∷ [])) (pow-succ' 10 (length u)) ∙ products (digit_value x) (10 ^ length u) (value 10 u) (value 10 (u ++ d ∷ [])) (digit_value d) more
  where
    products : (v p r s d : ℕ) → s ≡ r * 10 + d → v * (10 * p) + s ≡ (v * p + r) * 10 + d
    products v p r s d e = omega arith

one_zero : (d : List ℕ) → length d ≡ 1 → get_or d 0 0 ≡ 48 → value 10 d ≡ 0
one_zero [] l e = absurd (omega arith)
one_zero (x ∷ []) l e = subst (λ y. value 10 (y ∷ []) ≡ 0) (sym e) refl
one_zero (x ∷ y ∷ d) l e = absurd (omega arith)

more_digits : (n : ℕ) (d : List ℕ) → 10 ≤ n → SaysDecimal (n / 10) d → SaysDecimal n (d ++ ((48 + n % 10) ∷ []))
more_digits n d large s =
    let small : n % 10 < 10 = omega arith in
    let counted : run class.Digit (d ++ ((48 + n % 10) ∷ [])) ≡ length d + run class.Digit ((48 + n % 10) ∷ []) = run_append class.Digit d ((48 + n % 10) ∷ []) s.digits.all in
    let one : run class.Digit ((48 + n % 10) ∷ []) ≡ 1 = rw (digit_is (n % 10) small) refl in
    let len : length (d ++ ((48 + n % 10) ∷ [])) ≡ length d + 1 = length-append d ((48 + n % 10) ∷ []) in
    let front : value 10 d ≡ n / 10 = s.says in
    let last : digit_value (48 + n % 10) ≡ n % 10 = digit_says (n % 10) small in
    record {
      digits = record { some = omega arith; all = omega arith; no_leading_zero = λ e. absurd (no_zero (sym (first_of d ((48 + n % 10) ∷ []) 0 s.digits.some) ∙ e)) };
      says = value_append (48 + n % 10) d ∙ (let e : value 10 d * 10 + digit_value (48 + n % 10) ≡ n = omega arith in e);
    }
  where
    no_zero : get_or d 0 0 ≡ 48 → ⊥
    no_zero e = let nothing : value 10 d ≡ 0 = one_zero d (s.digits.no_leading_zero e) e in let front : value 10 d ≡ n / 10 = s.says in let some : 1 ≤ n / 10 = omega arith in omega arith

decimal_says : (n : ℕ) → n < 2 ^ 64 → SaysDecimal n (decimal n)
decimal_says n h = decimal_by_steps SaysDecimal one_digit more_digits n h

pub number_token : (v : ℕ) (t : NumberType) → Holds t v → IsToken (spelled_number v t) (k.Number v t)
number_token v Gint h = let s : SaysDecimal v (decimal v) = decimal_says v (omega arith) in
    subst (λ (x : ℕ). IsToken (spelled_number v Gint) (k.Number x Gint)) s.says (written.decimal (decimal v) suffix.Plain Gint s.digits (rw (s.says, lt-ltb v (2 ^ 31) h) refl))
number_token v Guint h = let s : SaysDecimal v (decimal v) = decimal_says v (omega arith) in
    subst (λ (x : ℕ). IsToken (spelled_number v Guint) (k.Number x Guint)) s.says (written.decimal (decimal v) suffix.U Guint s.digits (rw (s.says, lt-ltb v (2 ^ 32) h) refl))
number_token v Glong h = let s : SaysDecimal v (decimal v) = decimal_says v (omega arith) in
    subst (λ (x : ℕ). IsToken (spelled_number v Glong) (k.Number x Glong)) s.says (written.decimal (decimal v) suffix.L Glong s.digits (rw (s.says, lt-ltb v (2 ^ 63) h) refl))
number_token v Gulong h = let s : SaysDecimal v (decimal v) = decimal_says v h in
    subst (λ (x : ℕ). IsToken (spelled_number v Gulong) (k.Number x Gulong)) s.says (written.decimal (decimal v) suffix.Ul Gulong s.digits (rw (s.says, lt-ltb v (2 ^ 64) h) refl))

-- ---- texts and characters

letter_escape : (b c : ℕ) → letter_of b ≡ Some c → simple_escape c ≡ Some b
letter_escape b c = cond_both (b == 7) _ _ P (λ e h. subst (λ x. simple_escape x ≡ Some b) (let same : 97 ≡ c = cc in same) (ap Some (sym (eqb-true b 7 e)))) (λ _. cond_both (b == 8) _ _ P (λ e h. subst (λ x. simple_escape x ≡ Some b) (let same : 98 ≡ c = cc in same) (ap Some (sym (eqb-true b 8 e)))) (λ _. cond_both (b == 9) _ _ P (λ e h. subst (λ x. simple_escape x ≡ Some b) (let same : 116 ≡ c = cc in same) (ap Some (sym (eqb-true b 9 e)))) (λ _. cond_both (b == 10) _ _ P (λ e h. subst (λ x. simple_escape x ≡ Some b) (let same : 110 ≡ c = cc in same) (ap Some (sym (eqb-true b 10 e)))) (λ _. cond_both (b == 11) _ _ P (λ e h. subst (λ x. simple_escape x ≡ Some b) (let same : 118 ≡ c = cc in same) (ap Some (sym (eqb-true b 11 e)))) (λ _. cond_both (b == 12) _ _ P (λ e h. subst (λ x. simple_escape x ≡ Some b) (let same : 102 ≡ c = cc in same) (ap Some (sym (eqb-true b 12 e)))) (λ _. cond_both (b == 13) _ _ P (λ e h. subst (λ x. simple_escape x ≡ Some b) (let same : 114 ≡ c = cc in same) (ap Some (sym (eqb-true b 13 e)))) (λ _. λ h. absurd cc)))))))
  where
    P : Option ℕ → Type 0
    P o = o ≡ Some c → simple_escape c ≡ Some b

octal_is : (n : ℕ) → n < 8 → is_octal_digit (48 + n) ≡ true
octal_is n h = rw (le-leb 48 (48 + n) (omega arith), le-leb (48 + n) 55 (omega arith)) refl

octal_says : (b : ℕ) → b < 256 → octal_value (48 + b / 64) (48 + b / 8 % 8) (48 + b % 8) ≡ b
octal_says b h = omega arith

first_false : (a b : Bool) → (a || b) ≡ false → a ≡ false
first_false true b h = absurd cc
first_false false b h = refl

last_false : (a b : Bool) → (a || b) ≡ false → b ≡ false
last_false true b h = absurd cc
last_false false b h = h

either : (b q : ℕ) → simple_escape q ≡ Some q → (b == q || b == 92) ≡ true → simple_escape b ≡ Some b
either b q s h = go (b == q) refl h
  where
    go : (t : Bool) → (b == q) ≡ t → (t || b == 92) ≡ true → simple_escape b ≡ Some b
    go true e h = subst (λ x. simple_escape x ≡ Some x) (sym (eqb-true b q e)) s
    go false e h = subst (λ x. simple_escape x ≡ Some x) (sym (eqb-true b 92 h)) refl

-- a byte in front of others between quotes
byte_denotes : (q p b : ℕ) (body bytes : List ℕ) → simple_escape q ≡ Some q → b < 256 → Denotes q body bytes → Denotes q (spelled_byte q p b ++ body) (b ∷ bytes)
byte_denotes q p b body bytes s small d =
    cond_both (b == q || b == 92) _ _ P (λ e. simple b b (either b q s e) d)
    (λ e. by_form e (letter_of b) refl)
  where
    P : List ℕ → Type 0
    P w = Denotes q (w ++ body) (b ∷ bytes)

    as_octal : P (octal b)
    as_octal = subst (λ (x : ℕ). Denotes q (octal b ++ body) (x ∷ bytes)) (octal_says b small)
        (written.octal (48 + b / 64) (48 + b / 8 % 8) (48 + b % 8) (octal_is (b / 64) (omega arith)) (octal_is (b / 8 % 8) (omega arith)) (octal_is (b % 8) (omega arith)) (let e : octal_value (48 + b / 64) (48 + b / 8 % 8) (48 + b % 8) ≡ b = octal_says b small in omega arith) d)

    by_form : (b == q || b == 92) ≡ false → (o : Option ℕ) → letter_of b ≡ o → P (by_letter o (cond (is_plain p b) (b ∷ []) (octal b)))
    by_form e (Some c) l = simple c b (letter_escape b c l) d
    by_form e None l = cond_both (is_plain p b) _ _ P
        (λ h. byte b (eqb-false b q (first_false (b == q) (b == 92) e)) (λ (x : b ≡ 10). let large : 32 ≤ b = leb-true 32 b (and_parts (nat_le 32 b) (nat_le b 126) (and_parts (nat_le 32 b && nat_le b 126) (not (b == 63 && p == 63)) h).0).0 in omega arith) (eqb-false b 92 (last_false (b == q) (b == 92) e)) d)
        (λ _. as_octal)

bytes_denote : (q p : ℕ) (z : List ℕ) → simple_escape q ≡ Some q → AreBytes z → Denotes q (spelled_bytes q p z) z
bytes_denote q p [] s h = nothing
bytes_denote q p (b ∷ z) s h = byte_denotes q p b (spelled_bytes q b z) z s h.0 (bytes_denote q b z s h.1)

-- a character is written by no zero byte
no_zero : (b : ℕ) → spelled_byte 39 0 b ≢ 0 ∷ []
no_zero b = cond_both (b == 39 || b == 92) _ _ P (λ _ e. differ (ap (λ x. get_or x 0 0) e)) (λ _. by_form (letter_of b))
  where
    P : List ℕ → Type 0
    P w = w ≢ 0 ∷ []

    differ : ◌≡◌ {A = ℕ} 92 0 → ⊥
    differ e = omega arith

    by_form : (o : Option ℕ) → P (by_letter o (cond (is_plain 0 b) (b ∷ []) (octal b)))
    by_form (Some c) e = differ (ap (λ x. get_or x 0 0) e)
    by_form None given = cond_both (is_plain 0 b) _ _ P
        (λ h e. let is : b ≡ 0 = ap (λ x. get_or x 0 0) e in let large : 32 ≤ b = leb-true 32 b (and_parts (nat_le 32 b) (nat_le b 126) (and_parts (nat_le 32 b && nat_le b 126) (not (b == 63 && 0 == 63)) h).0).0 in omega arith)
        (λ _ e. differ (ap (λ x. get_or x 0 0) e)) given

pub character_token : (b : ℕ) → b < 256 → IsToken (spelled_character b) (k.Character b)
character_token b h = written.character (spelled_byte 39 0 b) b (subst (λ x. Denotes 39 x (b ∷ [])) (append-nil (spelled_byte 39 0 b)) (byte_denotes 39 0 b [] [] refl h nothing)) (no_zero b)

pub text_says : (z : List ℕ) → AreBytes z → text_value (spelled_text z) ≡ z
text_says z h = text_denotes (spelled_bytes 34 0 z) z (bytes_denote 34 0 z refl h)

pub text_token : (z : List ℕ) → AreBytes z → IsToken (spelled_text z) k.Text
text_token z h = written.text (spelled_bytes 34 0 z) z (bytes_denote 34 0 z refl h)

-- ---- all classes

pub put_token_is : (p : Piece) → CanBePut p → IsToken (spelled p) (kind_of p)
put_token_is (piece.Name w) h = subst (IsToken w.now) h.1 (written.word w.now h.0)
put_token_is (piece.Keyword word) h = keyword_token word
put_token_is (piece.Constant name) h = constant_token name
put_token_is (piece.Number v t) h = number_token v t h
put_token_is (piece.Text z) h = text_token z.now h
put_token_is (piece.Character b) h = character_token b h
put_token_is (piece.Sign sign) h = sign_token sign
