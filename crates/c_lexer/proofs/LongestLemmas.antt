-- A token that stands in front of bytes is found, and no longer one stands there.
use Rattle.std.proofs.Common.{◌≡◌, ◌⊎◌, inl, inr, ℕ, suc, ◌+◌, ◌<◌, ◌≤◌, Bool, true, false, ◌||◌, ◌&&◌, ◌==◌, nat_le, List, [], ◌∷◌, ◌++◌, length, take, get_or, append_assoc, Option, Some, None, refl, sym, ap, subst, ◌∙◌, option_and_then, length-append, arith}
use Rattle.std.specs.Option.{option_map}
use Rattle.std.proofs.lemmas.Bool.{cond_both, and_parts, eqb-true, leb-true, lt-leb, ne_eqb, cond-true, cond-false, or_from, and_left}
use Rattle.c_lexer.specs.declared.token.Sign.{Sign}
use Rattle.c_lexer.specs.declared.token.TokenKind.{TokenKind}
use Rattle.c_lexer.specs.declared.token.TokenKind.TheVariants as k
use Rattle.c_lexer.specs.declared.bytes.Class.TheVariants as class
use Rattle.c_lexer.specs.declared.numbers.Suffix.{Suffix}
use Rattle.c_lexer.specs.declared.pieces.Found.{Found}
use Rattle.c_lexer.specs.Bytes.{is_in, is_space, is_letter, is_digit, begins_number, run}
use Rattle.c_lexer.specs.Words.{word_kind}
use Rattle.c_lexer.specs.Signs.{sign_of_one, sign_of_two, sign_of_three, sign_with_equals, doubled_sign, or_shorter, sign}
use Rattle.c_lexer.specs.Numbers.{suffix_bytes, number_of, number}
use Rattle.c_lexer.specs.Texts.{quoted, text, character_byte, character_of, character}
use Rattle.c_lexer.specs.Cut.{word, cut}
use Rattle.c_lexer.specs.Written.{IsWord, IsDecimal, IsHexadecimal, IsToken, Denotes}
use Rattle.c_lexer.specs.Written as written
use Rattle.c_lexer.proofs.FitLemmas.{FitsIn, cut_fits}
use Rattle.c_lexer.proofs.ListLemmas.{first_of, run_more, first_in, first_out, take_front}
use Rattle.c_lexer.proofs.DenotesLemmas.{quoted_of, character_found}
use Rattle.c_lexer.proofs.NumberLemmas.{decimal_found, hexadecimal_found, decimal_goes, hexadecimal_goes, number_found, number_parts}

-- ---- which class of tokens is looked for

pub digit_no_letter : (b : ℕ) → is_digit b ≡ true → is_letter b ≡ false
digit_no_letter b h =
    let small : b ≤ 57 = leb-true b 57 (and_parts (nat_le 48 b) (nat_le b 57) h).1 in
    or_from ((nat_le 65 b && nat_le b 90) || b == 95) (nat_le 97 b && nat_le b 122)
    (or_from (nat_le 65 b && nat_le b 90) (b == 95) (and_left (nat_le 65 b) (nat_le b 90) (lt-leb 65 b (omega arith))) (ne_eqb b 95 (λ (e : b ≡ 95). absurd (omega arith))))
    (and_left (nat_le 97 b) (nat_le b 122) (lt-leb 97 b (omega arith)))

pub number_no_letter : (z : List ℕ) → begins_number z ≡ true → is_letter (get_or z 0 0) ≡ false
number_no_letter z = go (is_digit (get_or z 0 0)) refl
  where
    go : (t : Bool) → is_digit (get_or z 0 0) ≡ t → (t || (get_or z 0 0 == 46 && is_digit (get_or z 1 0))) ≡ true → is_letter (get_or z 0 0) ≡ false
    go true e h = digit_no_letter (get_or z 0 0) e
    go false e h = subst (λ x. is_letter x ≡ false) (sym (eqb-true (get_or z 0 0) 46 (and_parts (get_or z 0 0 == 46) (is_digit (get_or z 1 0)) h).0)) refl

module _ (z : List ℕ) where
  pub cut_word : is_letter (get_or z 0 0) ≡ true → cut z ≡ Some (word z)
  unfolding cut
  cut_word h = cond-true (is_letter (get_or z 0 0)) (Some (word z)) _ h

  pub cut_number : begins_number z ≡ true → cut z ≡ number z
  unfolding cut
  cut_number h = cond-false (is_letter (get_or z 0 0)) (Some (word z)) _ (number_no_letter z h) ∙ cond-true (begins_number z) (number z) _ h

-- bytes that begin no word, number, text or character, and are no white space
abbrev pub IsPlain : ℕ → Type 0
IsPlain b = (is_letter b ≡ false) × (is_digit b ≡ false) × ((b == 34) ≡ false) × ((b == 39) ≡ false) × (is_space b ≡ false)

pub cut_sign : (z : List ℕ) → IsPlain (get_or z 0 0) → begins_number z ≡ false → cut z ≡ sign z
unfolding cut
cut_sign z p n =
    cond-false (is_letter (get_or z 0 0)) (Some (word z)) _ p.0 ∙ cond-false (begins_number z) (number z) _ n ∙ cond-false (get_or z 0 0 == 34) (text z) _ p.2 ∙ cond-false (get_or z 0 0 == 39) (character z) (sign z) p.3

-- ---- signs

module _ (b : ℕ) (k : Sign) where
  abbrev P : Option Sign → Type 0
  P o = o ≡ Some k → IsPlain b

  pub plain_one : P (sign_of_one b)
  plain_one = cond_both (b == 123) _ _ P (λ e h. subst IsPlain (sym (eqb-true b 123 e)) (refl, refl, refl, refl, refl)) (λ _. cond_both (b == 125) _ _ P (λ e h. subst IsPlain (sym (eqb-true b 125 e)) (refl, refl, refl, refl, refl)) (λ _. cond_both (b == 40) _ _ P (λ e h. subst IsPlain (sym (eqb-true b 40 e)) (refl, refl, refl, refl, refl)) (λ _. cond_both (b == 41) _ _ P (λ e h. subst IsPlain (sym (eqb-true b 41 e)) (refl, refl, refl, refl, refl)) (λ _. cond_both (b == 91) _ _ P (λ e h. subst IsPlain (sym (eqb-true b 91 e)) (refl, refl, refl, refl, refl)) (λ _. cond_both (b == 93) _ _ P (λ e h. subst IsPlain (sym (eqb-true b 93 e)) (refl, refl, refl, refl, refl)) (λ _. cond_both (b == 44) _ _ P (λ e h. subst IsPlain (sym (eqb-true b 44 e)) (refl, refl, refl, refl, refl)) (λ _. cond_both (b == 59) _ _ P (λ e h. subst IsPlain (sym (eqb-true b 59 e)) (refl, refl, refl, refl, refl)) (λ _. cond_both (b == 58) _ _ P (λ e h. subst IsPlain (sym (eqb-true b 58 e)) (refl, refl, refl, refl, refl)) (λ _. cond_both (b == 46) _ _ P (λ e h. subst IsPlain (sym (eqb-true b 46 e)) (refl, refl, refl, refl, refl)) (λ _. cond_both (b == 63) _ _ P (λ e h. subst IsPlain (sym (eqb-true b 63 e)) (refl, refl, refl, refl, refl)) (λ _. cond_both (b == 61) _ _ P (λ e h. subst IsPlain (sym (eqb-true b 61 e)) (refl, refl, refl, refl, refl)) (λ _. cond_both (b == 60) _ _ P (λ e h. subst IsPlain (sym (eqb-true b 60 e)) (refl, refl, refl, refl, refl)) (λ _. cond_both (b == 62) _ _ P (λ e h. subst IsPlain (sym (eqb-true b 62 e)) (refl, refl, refl, refl, refl)) (λ _. cond_both (b == 43) _ _ P (λ e h. subst IsPlain (sym (eqb-true b 43 e)) (refl, refl, refl, refl, refl)) (λ _. cond_both (b == 45) _ _ P (λ e h. subst IsPlain (sym (eqb-true b 45 e)) (refl, refl, refl, refl, refl)) (λ _. cond_both (b == 42) _ _ P (λ e h. subst IsPlain (sym (eqb-true b 42 e)) (refl, refl, refl, refl, refl)) (λ _. cond_both (b == 47) _ _ P (λ e h. subst IsPlain (sym (eqb-true b 47 e)) (refl, refl, refl, refl, refl)) (λ _. cond_both (b == 37) _ _ P (λ e h. subst IsPlain (sym (eqb-true b 37 e)) (refl, refl, refl, refl, refl)) (λ _. cond_both (b == 38) _ _ P (λ e h. subst IsPlain (sym (eqb-true b 38 e)) (refl, refl, refl, refl, refl)) (λ _. cond_both (b == 124) _ _ P (λ e h. subst IsPlain (sym (eqb-true b 124 e)) (refl, refl, refl, refl, refl)) (λ _. cond_both (b == 94) _ _ P (λ e h. subst IsPlain (sym (eqb-true b 94 e)) (refl, refl, refl, refl, refl)) (λ _. cond_both (b == 33) _ _ P (λ e h. subst IsPlain (sym (eqb-true b 33 e)) (refl, refl, refl, refl, refl)) (λ _. cond_both (b == 126) _ _ P (λ e h. subst IsPlain (sym (eqb-true b 126 e)) (refl, refl, refl, refl, refl)) (λ _. cond_both (b == 35) _ _ P (λ e h. subst IsPlain (sym (eqb-true b 35 e)) (refl, refl, refl, refl, refl)) (λ _. λ h. absurd cc)))))))))))))))))))))))))

  plain_equals : P (sign_with_equals b)
  plain_equals = cond_both (b == 61) _ _ P (λ e h. subst IsPlain (sym (eqb-true b 61 e)) (refl, refl, refl, refl, refl)) (λ _. cond_both (b == 33) _ _ P (λ e h. subst IsPlain (sym (eqb-true b 33 e)) (refl, refl, refl, refl, refl)) (λ _. cond_both (b == 60) _ _ P (λ e h. subst IsPlain (sym (eqb-true b 60 e)) (refl, refl, refl, refl, refl)) (λ _. cond_both (b == 62) _ _ P (λ e h. subst IsPlain (sym (eqb-true b 62 e)) (refl, refl, refl, refl, refl)) (λ _. cond_both (b == 43) _ _ P (λ e h. subst IsPlain (sym (eqb-true b 43 e)) (refl, refl, refl, refl, refl)) (λ _. cond_both (b == 45) _ _ P (λ e h. subst IsPlain (sym (eqb-true b 45 e)) (refl, refl, refl, refl, refl)) (λ _. cond_both (b == 42) _ _ P (λ e h. subst IsPlain (sym (eqb-true b 42 e)) (refl, refl, refl, refl, refl)) (λ _. cond_both (b == 47) _ _ P (λ e h. subst IsPlain (sym (eqb-true b 47 e)) (refl, refl, refl, refl, refl)) (λ _. cond_both (b == 37) _ _ P (λ e h. subst IsPlain (sym (eqb-true b 37 e)) (refl, refl, refl, refl, refl)) (λ _. cond_both (b == 38) _ _ P (λ e h. subst IsPlain (sym (eqb-true b 38 e)) (refl, refl, refl, refl, refl)) (λ _. cond_both (b == 124) _ _ P (λ e h. subst IsPlain (sym (eqb-true b 124 e)) (refl, refl, refl, refl, refl)) (λ _. cond_both (b == 94) _ _ P (λ e h. subst IsPlain (sym (eqb-true b 94 e)) (refl, refl, refl, refl, refl)) (λ _. λ h. absurd cc))))))))))))

  plain_doubled : P (doubled_sign b)
  plain_doubled = cond_both (b == 38) _ _ P (λ e h. subst IsPlain (sym (eqb-true b 38 e)) (refl, refl, refl, refl, refl)) (λ _. cond_both (b == 124) _ _ P (λ e h. subst IsPlain (sym (eqb-true b 124 e)) (refl, refl, refl, refl, refl)) (λ _. cond_both (b == 60) _ _ P (λ e h. subst IsPlain (sym (eqb-true b 60 e)) (refl, refl, refl, refl, refl)) (λ _. cond_both (b == 62) _ _ P (λ e h. subst IsPlain (sym (eqb-true b 62 e)) (refl, refl, refl, refl, refl)) (λ _. cond_both (b == 43) _ _ P (λ e h. subst IsPlain (sym (eqb-true b 43 e)) (refl, refl, refl, refl, refl)) (λ _. cond_both (b == 45) _ _ P (λ e h. subst IsPlain (sym (eqb-true b 45 e)) (refl, refl, refl, refl, refl)) (λ _. cond_both (b == 35) _ _ P (λ e h. subst IsPlain (sym (eqb-true b 35 e)) (refl, refl, refl, refl, refl)) (λ _. λ h. absurd cc)))))))

  pub plain_two : (c : ℕ) → P (sign_of_two b c)
  plain_two c = cond_both (c == 61) _ _ P (λ _. plain_equals) (λ _. cond_both (b == c) _ _ P (λ _. plain_doubled)
      (λ _. cond_both (b == 45 && c == 62) _ _ P (λ e h. subst IsPlain (sym (eqb-true b 45 (and_parts (b == 45) (c == 62) e).0)) (refl, refl, refl, refl, refl)) (λ _ h. absurd cc)))

  pub plain_three : (c d : ℕ) → P (sign_of_three b c d)
  plain_three c d =
      cond_both (b == 60 && c == 60 && d == 61) _ _ P (λ e h. subst IsPlain (sym (eqb-true b 60 (and_parts (b == 60) (c == 60) (and_parts (b == 60 && c == 60) (d == 61) e).0).0)) (refl, refl, refl, refl, refl))
      (λ _. cond_both (b == 62 && c == 62 && d == 61) _ _ P (λ e h. subst IsPlain (sym (eqb-true b 62 (and_parts (b == 62) (c == 62) (and_parts (b == 62 && c == 62) (d == 61) e).0).0)) (refl, refl, refl, refl, refl))
      (λ _. cond_both (b == 46 && c == 46 && d == 46) _ _ P (λ e h. subst IsPlain (sym (eqb-true b 46 (and_parts (b == 46) (c == 46) (and_parts (b == 46 && c == 46) (d == 46) e).0).0)) (refl, refl, refl, refl, refl)) (λ _ h. absurd cc)))

-- the second byte of a sign is no digit
pub second_of_two : (b c : ℕ) (k : Sign) → sign_of_two b c ≡ Some k → is_digit c ≡ false
second_of_two b c k = cond_both (c == 61) _ _ P (λ e h. subst (λ x. is_digit x ≡ false) (sym (eqb-true c 61 e)) refl)
    (λ _. cond_both (b == c) _ _ P (λ e h. subst (λ x. is_digit x ≡ false) (eqb-true b c e) (plain_doubled b k h).1)
    (λ _. cond_both (b == 45 && c == 62) _ _ P (λ e h. subst (λ x. is_digit x ≡ false) (sym (eqb-true c 62 (and_parts (b == 45) (c == 62) e).1)) refl) (λ _ h. absurd cc)))
  where
    P : Option Sign → Type 0
    P o = o ≡ Some k → is_digit c ≡ false

pub second_of_three : (b c d : ℕ) (k : Sign) → sign_of_three b c d ≡ Some k → is_digit c ≡ false
second_of_three b c d k =
    cond_both (b == 60 && c == 60 && d == 61) _ _ P (λ e h. subst (λ x. is_digit x ≡ false) (sym (eqb-true c 60 (and_parts (b == 60) (c == 60) (and_parts (b == 60 && c == 60) (d == 61) e).0).1)) refl)
    (λ _. cond_both (b == 62 && c == 62 && d == 61) _ _ P (λ e h. subst (λ x. is_digit x ≡ false) (sym (eqb-true c 62 (and_parts (b == 62) (c == 62) (and_parts (b == 62 && c == 62) (d == 61) e).0).1)) refl)
    (λ _. cond_both (b == 46 && c == 46 && d == 46) _ _ P (λ e h. subst (λ x. is_digit x ≡ false) (sym (eqb-true c 46 (and_parts (b == 46) (c == 46) (and_parts (b == 46 && c == 46) (d == 46) e).0).1)) refl) (λ _ h. absurd cc)))
  where
    P : Option Sign → Type 0
    P o = o ≡ Some k → is_digit c ≡ false

pub no_number : (b c : ℕ) (z : List ℕ) → is_digit b ≡ false → is_digit c ≡ false → begins_number (b ∷ c ∷ z) ≡ false
no_number b c z d e = rw (d, e) (go (b == 46))
  where
    go : (t : Bool) → (t && false) ≡ false
    go true = refl
    go false = refl

-- ---- what is found where a token stands

-- a token is found that is no shorter than some bytes, and of a kind where it is as long
pub record Stands (n : ℕ) (kind : TokenKind) (z : List ℕ) : Type 0 where
  pub found : Found
  pub cut_is : cut z ≡ Some found
  pub long : n ≤ found.len
  pub same : found.len ≡ n → found.kind ≡ kind

found_word : (w rest : List ℕ) → IsWord w → Stands (length w) (word_kind w) (w ++ rest)
found_word w rest i =
    let letter : is_letter (get_or (w ++ rest) 0 0) ≡ true = ap is_letter (first_of w rest 0 i.some) ∙ i.letter in
    let more : run class.Word w ≤ run class.Word (w ++ rest) = run_more class.Word w rest in
    let all : run class.Word w ≡ length w = i.all in
    record { found = word (w ++ rest); cut_is = cut_word (w ++ rest) letter; long = omega arith; same = λ e. ap word_kind (ap (λ (n : ℕ). take n (w ++ rest)) e ∙ take_front w rest) }

pub text_cut : (body bytes rest : List ℕ) → Denotes 34 body bytes → cut (34 ∷ (body ++ 34 ∷ []) ++ rest) ≡ Some (record { kind = k.Text; len = length (34 ∷ body ++ 34 ∷ []) })
unfolding cut
text_cut body bytes rest d =
    let len : length (body ++ 34 ∷ []) ≡ length body + 1 = length-append body (34 ∷ []) in
    let ends : quoted 34 ((body ++ 34 ∷ []) ++ rest) ≡ Some (length body) = ap (quoted 34) (append_assoc body (34 ∷ []) rest) ∙ quoted_of 34 refl (λ (e : ◌≡◌ {A = ℕ} 92 34). omega arith) body bytes rest d in
    ap (option_map (λ n. record { kind = k.Text; len = n + 2 })) ends ∙ ap (λ (n : ℕ). Some (record { kind = k.Text; len = n })) (let all : length body + 2 ≡ suc (length (body ++ 34 ∷ [])) = omega arith in all)

pub character_cut : (body : List ℕ) (v : ℕ) (rest : List ℕ) → Denotes 39 body (v ∷ []) → (body ≡ 0 ∷ [] → ⊥) → cut (39 ∷ (body ++ 39 ∷ []) ++ rest) ≡ Some (record { kind = k.Character v; len = length (39 ∷ body ++ 39 ∷ []) })
unfolding cut
character_cut body v rest d some =
    let len : length (body ++ 39 ∷ []) ≡ length body + 1 = length-append body (39 ∷ []) in
    let whole : (body ++ 39 ∷ []) ++ rest ≡ body ++ 39 ∷ rest = append_assoc body (39 ∷ []) rest in
    let ends : quoted 39 ((body ++ 39 ∷ []) ++ rest) ≡ Some (length body) = ap (quoted 39) whole ∙ quoted_of 39 refl (λ (e : ◌≡◌ {A = ℕ} 92 39). omega arith) body (v ∷ []) rest d in
    let inside : take (length body) ((body ++ 39 ∷ []) ++ rest) ≡ body = ap (take (length body)) whole ∙ take_front body (39 ∷ rest) in
    let byte : character_byte (take (length body) ((body ++ 39 ∷ []) ++ rest)) ≡ Some v = ap character_byte inside ∙ character_found body (v ∷ []) v d refl some in
    ap (option_and_then (character_of ((body ++ 39 ∷ []) ++ rest))) ends ∙ ap (option_map (λ b. record { kind = k.Character b; len = length body + 2 })) byte
    ∙ ap (λ (n : ℕ). Some (record { kind = k.Character v; len = n })) (let all : length body + 2 ≡ suc (length (body ++ 39 ∷ [])) = omega arith in all)

found_text : (body bytes rest : List ℕ) → Denotes 34 body bytes → Stands (length (34 ∷ body ++ 34 ∷ [])) k.Text (34 ∷ (body ++ 34 ∷ []) ++ rest)
found_text body bytes rest d = record { found = record { kind = k.Text; len = length (34 ∷ body ++ 34 ∷ []) }; cut_is = text_cut body bytes rest d; long = omega arith; same = λ _. refl }

found_character : (body : List ℕ) (v : ℕ) (rest : List ℕ) → Denotes 39 body (v ∷ []) → (body ≡ 0 ∷ [] → ⊥) → Stands (length (39 ∷ body ++ 39 ∷ [])) (k.Character v) (39 ∷ (body ++ 39 ∷ []) ++ rest)
found_character body v rest d some = record { found = record { kind = k.Character v; len = length (39 ∷ body ++ 39 ∷ []) }; cut_is = character_cut body v rest d some; long = omega arith; same = λ _. refl }

found_one : (b : ℕ) (rest : List ℕ) (s : Sign) → sign_of_one b ≡ Some s → begins_number (b ∷ rest) ≡ false → Stands 1 (k.Sign s) (b ∷ rest)
found_one b rest s i n = three (sign_of_three b (get_or rest 0 0) (get_or rest 1 0)) (sign_of_two b (get_or rest 0 0)) (cut_sign (b ∷ rest) (plain_one b s i) n)
  where
    three : (o p : Option Sign) → cut (b ∷ rest) ≡ or_shorter o 3 (or_shorter p 2 (or_shorter (sign_of_one b) 1 None)) → Stands 1 (k.Sign s) (b ∷ rest)
    three (Some x) p e = record { found = record { kind = k.Sign x; len = 3 }; cut_is = e; long = omega arith; same = λ e. absurd (omega arith) }
    three None (Some x) e = record { found = record { kind = k.Sign x; len = 2 }; cut_is = e; long = omega arith; same = λ e. absurd (omega arith) }
    three None None e = record { found = record { kind = k.Sign s; len = 1 }; cut_is = e ∙ ap (λ o. or_shorter o 1 None) i; long = omega arith; same = λ _. refl }

found_two : (b c : ℕ) (rest : List ℕ) (s : Sign) → sign_of_two b c ≡ Some s → Stands 2 (k.Sign s) (b ∷ c ∷ rest)
found_two b c rest s i = three (sign_of_three b c (get_or rest 0 0)) (cut_sign (b ∷ c ∷ rest) (plain_two b s c i) (no_number b c rest (plain_two b s c i).1 (second_of_two b c s i)))
  where
    three : (o : Option Sign) → cut (b ∷ c ∷ rest) ≡ or_shorter o 3 (or_shorter (sign_of_two b c) 2 (or_shorter (sign_of_one b) 1 None)) → Stands 2 (k.Sign s) (b ∷ c ∷ rest)
    three (Some x) e = record { found = record { kind = k.Sign x; len = 3 }; cut_is = e; long = omega arith; same = λ e. absurd (omega arith) }
    three None e = record { found = record { kind = k.Sign s; len = 2 }; cut_is = e ∙ ap (λ o. or_shorter o 2 (or_shorter (sign_of_one b) 1 None)) i; long = omega arith; same = λ _. refl }

found_three : (b c d : ℕ) (rest : List ℕ) (s : Sign) → sign_of_three b c d ≡ Some s → Stands 3 (k.Sign s) (b ∷ c ∷ d ∷ rest)
found_three b c d rest s i = record {
  found = record { kind = k.Sign s; len = 3 };
  cut_is = cut_sign (b ∷ c ∷ d ∷ rest) (plain_three b s c d i) (no_number b c (d ∷ rest) (plain_three b s c d i).1 (second_of_three b c d s i)) ∙ ap (λ o. or_shorter o 3 (or_shorter (sign_of_two b c) 2 (or_shorter (sign_of_one b) 1 None))) i;
  long = omega arith;
  same = λ _. refl;
}

-- ---- numbers

number_begins : (w rest : List ℕ) → 0 < length w → is_digit (get_or w 0 0) ≡ true → begins_number (w ++ rest) ≡ true
number_begins w rest some h = rw (ap is_digit (first_of w rest 0 some) ∙ h) refl

pub begins_decimal : (d : List ℕ) (s : Suffix) (rest : List ℕ) → IsDecimal d → begins_number ((d ++ suffix_bytes s) ++ rest) ≡ true
begins_decimal d s rest i = ap begins_number (append_assoc d (suffix_bytes s) rest) ∙ number_begins d (suffix_bytes s ++ rest) i.some (first_in class.Digit d i.some i.all)

found_number : (w rest : List ℕ) (kind : TokenKind) → begins_number (w ++ rest) ≡ true → number_of w ≡ Some kind → run class.Number w ≡ length w → run class.Number rest ≡ 0 → Stands (length w) kind (w ++ rest)
found_number w rest kind b h all none = record { found = record { kind = kind; len = length w }; cut_is = cut_number (w ++ rest) b ∙ number_found w rest kind h all none; long = omega arith; same = λ _. refl }

-- no number goes on behind the bytes, or no number begins them
abbrev pub Ends : List ℕ → List ℕ → Type 0
Ends w rest = (begins_number (w ++ rest) ≡ false) ⊎ (run class.Number rest ≡ 0)

ends_number : (w rest : List ℕ) → begins_number (w ++ rest) ≡ true → Ends w rest → run class.Number rest ≡ 0
ends_number w rest b (inl e) = absurd cc
ends_number w rest b (inr e) = e

ends_one : (b : ℕ) (rest : List ℕ) → is_digit b ≡ false → Ends (b ∷ []) rest → begins_number (b ∷ rest) ≡ false
ends_one b rest d (inl e) = e
ends_one b rest d (inr e) = rw d (go (b == 46) (is_digit (get_or rest 0 0)) (first_no_digit (get_or rest 0 0) (first_out class.Number rest refl e)))
  where
    go : (t u : Bool) → u ≡ false → (t && u) ≡ false
    go true u h = h
    go false u h = refl

    by : (d l p : Bool) → (d || l || p) ≡ false → d ≡ false
    by true l p h = absurd cc
    by false l p h = refl

    first_no_digit : (x : ℕ) → is_in class.Number x ≡ false → is_digit x ≡ false
    first_no_digit x h = by (is_digit x) (is_letter x) (x == 46) h

-- ---- all classes

pub found : (w rest : List ℕ) (kind : TokenKind) → IsToken w kind → Ends w rest → Stands (length w) kind (w ++ rest)
found _ rest _ (written.word w i) e = found_word w rest i
found _ rest _ (written.decimal d s t i h) e =
    let b = begins_decimal d s rest i in found_number (d ++ suffix_bytes s) rest _ b (decimal_found d s t i h) (decimal_goes d s i) (ends_number (d ++ suffix_bytes s) rest b e)
found _ rest _ (written.hexadecimal d s t i h) e =
    found_number (48 ∷ 120 ∷ d ++ suffix_bytes s) rest _ refl (hexadecimal_found d s t i h) (hexadecimal_goes d s i) (ends_number (48 ∷ 120 ∷ d ++ suffix_bytes s) rest refl e)
found _ rest _ (written.text body bytes d) e = found_text body bytes rest d
found _ rest _ (written.character body v d some) e = found_character body v rest d some
found _ rest _ (written.one b s i) e = found_one b rest s i (ends_one b rest (plain_one b s i).1 e)
found _ rest _ (written.two b c s i) e = found_two b c rest s i
found _ rest _ (written.three b c d s i) e = found_three b c d rest s i

is_found : (n : ℕ) (kind : TokenKind) (z : List ℕ) (t : Found) → Stands n kind z → cut z ≡ Some t → n ≤ t.len
is_found n kind z t s e = let h : n ≤ s.found.len = s.long in let same : s.found ≡ t = some_is (sym s.cut_is ∙ e) in subst (λ (x : Found). n ≤ x.len) same h
  where
    some_is : Some s.found ≡ Some t → s.found ≡ t
    some_is h = cc

longest_number : (w rest : List ℕ) (t : Found) → begins_number (w ++ rest) ≡ true → run class.Number w ≡ length w → cut (w ++ rest) ≡ Some t → length w ≤ t.len
longest_number w rest t b all e =
    let len : t.len ≡ run class.Number (w ++ rest) = (number_parts (w ++ rest) t (sym (cut_number (w ++ rest) b) ∙ e)).0 in
    let more : run class.Number w ≤ run class.Number (w ++ rest) = run_more class.Number w rest in
    omega arith

pub longest : (w rest : List ℕ) (kind : TokenKind) (t : Found) → IsToken w kind → cut (w ++ rest) ≡ Some t → length w ≤ t.len
longest _ rest _ t (written.word w i) e = is_found (length w) _ (w ++ rest) t (found_word w rest i) e
longest _ rest _ t (written.decimal d s x i h) e = longest_number (d ++ suffix_bytes s) rest t (begins_decimal d s rest i) (decimal_goes d s i) e
longest _ rest _ t (written.hexadecimal d s x i h) e = longest_number (48 ∷ 120 ∷ d ++ suffix_bytes s) rest t refl (hexadecimal_goes d s i) e
longest _ rest _ t (written.text body bytes d) e = is_found (length (34 ∷ body ++ 34 ∷ [])) _ (34 ∷ (body ++ 34 ∷ []) ++ rest) t (found_text body bytes rest d) e
longest _ rest _ t (written.character body v d some) e = is_found (length (39 ∷ body ++ 39 ∷ [])) _ (39 ∷ (body ++ 39 ∷ []) ++ rest) t (found_character body v rest d some) e
longest _ rest _ t (written.one b s i) e = (subst (FitsIn (length (b ∷ rest))) e (cut_fits (b ∷ rest) (omega arith))).0
longest _ rest _ t (written.two b c s i) e = is_found 2 _ (b ∷ c ∷ rest) t (found_two b c rest s i) e
longest _ rest _ t (written.three b c d s i) e = is_found 3 _ (b ∷ c ∷ d ∷ rest) t (found_three b c d rest s i) e
