-- What is found in front of bytes lies within them.
use Rattle.std.proofs.Common.{◌≡◌, ◌≢◌, ℕ, zero, suc, ◌+◌, ◌-◌, ◌<◌, ◌≤◌, Bool, true, false, cond, not, ◌||◌, ◌&&◌, ◌==◌, nat_lt, nat_le, List, [], ◌∷◌, length, take, drop, get_or, Option, Some, None, Result, Ok, Err, refl, sym, ap, subst, ◌∙◌, option_and_then, arith}
use Rattle.std.specs.Option.{option_map}
use Rattle.std.proofs.lemmas.Bool.{cond_both, and_parts, or_right, eqb-true, eqb-false, ltb-true, ltb-false, lt-ltb, ne_eqb}
use Rattle.std.proofs.lemmas.List.{get_or_past, length-drop, length-take-le, drop-drop}
use Rattle.vala_lexer.specs.declared.token.TokenKind.{TokenKind}
use Rattle.vala_lexer.specs.declared.token.IntegerType.{IntegerType}
use Rattle.vala_lexer.specs.declared.bytes.Class.{Class}
use Rattle.vala_lexer.specs.declared.bytes.Class.TheVariants as class
use Rattle.vala_lexer.specs.declared.bytes.Ending.{Ending}
use Rattle.vala_lexer.specs.declared.bytes.Ending.TheVariants as ending
use Rattle.vala_lexer.specs.declared.numbers.Suffix.{Suffix}
use Rattle.vala_lexer.specs.declared.texts.Escape.{Escape}
use Rattle.vala_lexer.specs.declared.texts.Literal.TheVariants as literal
use Rattle.vala_lexer.specs.declared.pieces.Found.{Found}
use Rattle.vala_lexer.specs.declared.pieces.Fault.{Fault}
use Rattle.vala_lexer.specs.Bytes.{is_in, is_letter, is_digit, is_hex_digit, run, is_ending, place_of, starts_with_quotes, in_64_bits, value}
use Rattle.vala_lexer.specs.Words.{word_kind, is_identifier}
use Rattle.vala_lexer.specs.Signs.{sign_of_one, sign_of_two, sign_of_three, doubled_sign, or_shorter}
use Rattle.vala_lexer.specs.Numbers.{is_u, is_l, suffix_of, suffix_len, integer_type, integer_of, integer, hexadecimal, decimal, is_fraction, is_prefixed, number}
use Rattle.vala_lexer.specs.Texts.{inside, inside_behind, sound_bytes, sound_escapes, checked, plain_text_of, verbatim_text_of, text, escaped_character, character_inside, character_between, character, escape}
use Rattle.vala_lexer.specs.Pieces.{moved}
use Rattle.vala_lexer.specs.Blanks.{comment, block_comment_to, blank, blanks_then, blanks_within, blanks}
use Rattle.vala_lexer.specs.Cut.{word, marked_word, sign_or_bad, sign_or_bad_of, hash, begins_line, cut}

-- a token has a byte at least, and a token and a fault lie within a number of bytes
abbrev pub FitsIn : ℕ → Result Found Fault → Type 0
FitsIn n (Ok t) = (0 < t.len) × (t.len ≤ n)
FitsIn n (Err f) = (0 < f.len) × (f.start + f.len ≤ n)

-- white space and comments, and a fault in them, lie within a number of bytes
abbrev pub BlankIn : ℕ → Result ℕ Fault → Type 0
BlankIn n (Ok m) = m ≤ n
BlankIn n (Err f) = (0 < f.len) × (f.start + f.len ≤ n)

pub run_within : (c : Class) (z : List ℕ) → run c z ≤ length z
run_within c [] = omega arith
run_within c (b ∷ z) = cond_both (is_in c b) (suc (run c z)) 0 (λ n. n ≤ length (b ∷ z)) (λ h. let more : run c z ≤ length z = run_within c z in omega arith) (λ h. omega arith)

pub run_some : (c : Class) (z : List ℕ) → 0 < length z → is_in c (get_or z 0 0) ≡ true → 0 < run c z
run_some c [] some h = absurd (omega arith)
run_some c (b ∷ z) some h = rw h (omega arith)

-- a byte that passes a test that 0 does not pass stands within
pub there : (P : ℕ → Bool) (z : List ℕ) (i : ℕ) → P 0 ≡ false → P (get_or z i 0) ≡ true → i < length z
there P z i none h = go (nat_lt i (length z)) refl
  where
    go : (t : Bool) → nat_lt i (length z) ≡ t → i < length z
    go true e = ltb-true i (length z) e
    go false e = let past : get_or z i 0 ≡ 0 = get_or_past z i 0 (ltb-false i (length z) e) in let both : true ≡ false = sym h ∙ ap P past ∙ none in absurd cc

drop_len : (n : ℕ) (z : List ℕ) → length (drop n z) ≡ length z - n
drop_len n z = length-drop n z

take_len : (n : ℕ) (z : List ℕ) → n ≤ length z → length (take n z) ≡ n
take_len n z h = length-take-le n z h

-- ---- words

pub word_fits : (z : List ℕ) → 0 < length z → is_letter (get_or z 0 0) ≡ true → FitsIn (length z) (word z)
word_fits z some h =
    let enough : 0 < run class.Word z = run_some class.Word z some (or_right (is_digit (get_or z 0 0)) (is_letter (get_or z 0 0)) h) in
    let within : run class.Word z ≤ length z = run_within class.Word z in
    cond_both (nat_lt 200 (run class.Word z)) _ _ (FitsIn (length z)) (λ k. (omega arith, omega arith)) (λ k. (omega arith, omega arith))

pub marked_fits : (z : List ℕ) → 0 < length z → FitsIn (length z) (marked_word z)
marked_fits z some =
    let within : run class.Word (drop 1 z) ≤ length (drop 1 z) = run_within class.Word (drop 1 z) in
    let len : length (drop 1 z) ≡ length z - 1 = drop_len 1 z in
    cond_both (get_or (drop 1 z) 0 0 == 34) _ _ (FitsIn (length z)) (λ k. (omega arith, omega arith))
    (λ k. cond_both (is_identifier (word_kind (take (run class.Word (drop 1 z)) (drop 1 z)))) _ _ (FitsIn (length z)) (λ k. (omega arith, omega arith)) (λ k. (omega arith, omega arith)))

pub hash_fits : (front z : List ℕ) → 0 < length z → FitsIn (length z) (Err (hash front))
hash_fits front z some = cond_both (begins_line front) _ _ (λ f. FitsIn (length z) (Err f)) (λ k. (omega arith, omega arith)) (λ k. (omega arith, omega arith))

-- ---- signs

doubled_some : (b : ℕ) (k : TokenKind) → doubled_sign b ≡ Some k → 0 < b
doubled_some zero k h = absurd cc
doubled_some (suc b) k h = omega arith

pub two_some : (b c : ℕ) (k : TokenKind) → sign_of_two b c ≡ Some k → 0 < c
two_some b c k = cond_both (c == 61) _ _ (λ o. o ≡ Some k → 0 < c) (λ e h. let is : c ≡ 61 = eqb-true c 61 e in omega arith)
    (λ e. cond_both (b == c) _ _ (λ o. o ≡ Some k → 0 < c) (λ f h. let same : b ≡ c = eqb-true b c f in let some : 0 < b = doubled_some b k h in omega arith)
    (λ f. cond_both (b == 61 && c == 62) _ _ (λ o. o ≡ Some k → 0 < c) (λ g h. let is : c ≡ 62 = eqb-true c 62 (and_parts (b == 61) (c == 62) g).1 in omega arith) (λ g h. absurd cc)))

pub three_some : (b c d : ℕ) (k : TokenKind) → sign_of_three b c d ≡ Some k → 0 < d
three_some b c d k = cond_both (b == 60 && c == 60 && d == 61) _ _ (λ o. o ≡ Some k → 0 < d) (λ e h. let is : d ≡ 61 = last 60 60 61 e in omega arith)
    (λ e. cond_both (b == 62 && c == 62 && d == 61) _ _ (λ o. o ≡ Some k → 0 < d) (λ f h. let is : d ≡ 61 = last 62 62 61 f in omega arith)
    (λ f. cond_both (b == 46 && c == 46 && d == 46) _ _ (λ o. o ≡ Some k → 0 < d) (λ g h. let is : d ≡ 46 = last 46 46 46 g in omega arith) (λ g h. absurd cc)))
  where
    last : (x y w : ℕ) → (b == x && c == y && d == w) ≡ true → d ≡ w
    last x y w e = eqb-true d w (and_parts (b == x && c == y) (d == w) e).1

pub within_two : (z : List ℕ) (i : ℕ) → 0 < get_or z i 0 → i < length z
within_two z i h = there (λ b. nat_lt 0 b) z i refl (lt-ltb 0 (get_or z i 0) h)

pub sign_fits : (z : List ℕ) → 0 < length z → FitsIn (length z) (sign_or_bad z)
sign_fits z some = three (sign_of_three (get_or z 0 0) (get_or z 1 0) (get_or z 2 0)) refl
  where
    one : (o : Option TokenKind) → FitsIn (length z) (sign_or_bad_of (or_shorter o 1 None))
    one None = (omega arith, omega arith)
    one (Some k) = (omega arith, omega arith)

    two : (o : Option TokenKind) → sign_of_two (get_or z 0 0) (get_or z 1 0) ≡ o → FitsIn (length z) (sign_or_bad_of (or_shorter o 2 (or_shorter (sign_of_one (get_or z 0 0)) 1 None)))
    two None e = one (sign_of_one (get_or z 0 0))
    two (Some k) e = let enough : 1 < length z = within_two z 1 (two_some (get_or z 0 0) (get_or z 1 0) k e) in (omega arith, omega arith)

    three : (o : Option TokenKind) → sign_of_three (get_or z 0 0) (get_or z 1 0) (get_or z 2 0) ≡ o
        → FitsIn (length z) (sign_or_bad_of (or_shorter o 3 (or_shorter (sign_of_two (get_or z 0 0) (get_or z 1 0)) 2 (or_shorter (sign_of_one (get_or z 0 0)) 1 None))))
    three None e = two (sign_of_two (get_or z 0 0) (get_or z 1 0)) refl
    three (Some k) e = let enough : 2 < length z = within_two z 2 (three_some (get_or z 0 0) (get_or z 1 0) (get_or z 2 0) k e) in (omega arith, omega arith)

-- ---- numbers

pub suffix_within : (z : List ℕ) → suffix_len (suffix_of z) ≤ length z
suffix_within z =
    cond_both (is_u (get_or z 0 0)) _ _ P
    (λ u. let one : 0 < length z = there is_u z 0 refl u in
    cond_both (is_l (get_or z 1 0)) _ _ P
    (λ l. let two : 1 < length z = there is_l z 1 refl l in cond_both (is_l (get_or z 2 0)) _ _ P (λ m. let three : 2 < length z = there is_l z 2 refl m in omega arith) (λ m. omega arith))
    (λ l. omega arith))
    (λ u. cond_both (is_l (get_or z 0 0)) _ _ P
    (λ l. let one : 0 < length z = there is_l z 0 refl l in cond_both (is_l (get_or z 1 0)) _ _ P (λ m. let two : 1 < length z = there is_l z 1 refl m in omega arith) (λ m. omega arith))
    (λ l. omega arith))
  where
    P : Suffix → Type 0
    P s = suffix_len s ≤ length z

integer_of_fits : (n len : ℕ) (v : Option ℕ) (t : Option IntegerType) → 0 < len → len ≤ n → FitsIn n (integer_of len v t)
integer_of_fits n len None t some h = (some, (omega arith))
integer_of_fits n len (Some v) None some h = (some, (omega arith))
integer_of_fits n len (Some v) (Some t) some h = (some, h)

integer_fits : (n len : ℕ) (v : Option ℕ) (behind : List ℕ) → 0 < len → len + length behind ≤ n → FitsIn n (integer v len behind)
integer_fits n len v behind some h = let s : suffix_len (suffix_of behind) ≤ length behind = suffix_within behind in
    integer_of_fits n (len + suffix_len (suffix_of behind)) v (option_and_then (integer_type (suffix_of behind)) v) (omega arith) (omega arith)

hexadecimal_fits : (z : List ℕ) → 1 < length z → FitsIn (length z) (hexadecimal z)
hexadecimal_fits z some =
    let within : run class.HexDigit (drop 2 z) ≤ length (drop 2 z) = run_within class.HexDigit (drop 2 z) in
    let len : length (drop 2 z) ≡ length z - 2 = drop_len 2 z in
    let rest : length (drop (run class.HexDigit (drop 2 z)) (drop 2 z)) ≡ length (drop 2 z) - run class.HexDigit (drop 2 z) = drop_len (run class.HexDigit (drop 2 z)) (drop 2 z) in
    integer_fits (length z) (run class.HexDigit (drop 2 z) + 2) (in_64_bits (value 16 (take (run class.HexDigit (drop 2 z)) (drop 2 z)))) (drop (run class.HexDigit (drop 2 z)) (drop 2 z)) (omega arith) (omega arith)

decimal_fits : (z : List ℕ) → 0 < length z → is_digit (get_or z 0 0) ≡ true → FitsIn (length z) (decimal z)
decimal_fits z some h =
    let enough : 0 < run class.Digit z = run_some class.Digit z some h in
    let within : run class.Digit z ≤ length z = run_within class.Digit z in
    let rest : length (drop (run class.Digit z) z) ≡ length z - run class.Digit z = drop_len (run class.Digit z) z in
    cond_both (is_fraction (drop (run class.Digit z) z)) _ _ (FitsIn (length z)) (λ k. (enough, (omega arith)))
    (λ k. cond_both (nat_lt 1 (run class.Digit z) && get_or z 0 0 == 48) _ _ (FitsIn (length z))
    (λ l. integer_fits (length z) (run class.Digit z) None (drop (run class.Digit z) z) enough (omega arith))
    (λ l. integer_fits (length z) (run class.Digit z) (in_64_bits (value 10 (take (run class.Digit z) z))) (drop (run class.Digit z) z) enough (omega arith)))

pub number_fits : (z : List ℕ) → 0 < length z → is_digit (get_or z 0 0) ≡ true → FitsIn (length z) (number z)
number_fits z some h = cond_both (is_prefixed z) _ _ (FitsIn (length z))
    (λ k. hexadecimal_fits z (there (λ b. b == 120) z 1 refl (and_parts (get_or z 0 0 == 48) (get_or z 1 0 == 120) (and_parts (get_or z 0 0 == 48 && get_or z 1 0 == 120) (is_hex_digit (get_or z 2 0)) k).0).1))
    (λ k. decimal_fits z some h)

-- ---- texts and characters

SomeBelow : ℕ → Option ℕ → Type 0
SomeBelow n None = Unit {0}
SomeBelow n (Some m) = m < n

unfolding_below : (n : ℕ) (o : Option ℕ) → ((m : ℕ) → o ≡ Some m → m < n) → (m : ℕ) → option_map (λ k. suc k) o ≡ Some m → m < suc n
unfolding_below n None h m e = absurd cc
unfolding_below n (Some k) h m e = let small : k < n = h k refl in let same : suc k ≡ m = cc in omega arith

pub inside_within : (e : Bool) (q : ℕ) (z : List ℕ) (n : ℕ) → inside_behind e q z ≡ Some n → n < length z
inside_within e q [] n h = absurd cc
inside_within e q (b ∷ z) n given = cond_both (b == 10) _ _ (λ o. o ≡ Some n → n < length (b ∷ z)) (λ k h. absurd cc)
    (λ k. cond_both (b == q && not e) _ _ (λ o. o ≡ Some n → n < length (b ∷ z)) (λ l h. let same : 0 ≡ n = cc in omega arith)
    (λ l h. unfolding_below (length z) (inside_behind (b == 92 && not e) q z) (λ m f. inside_within (b == 92 && not e) q z m f) n h)) given

pub ending_within : (e : Ending) (z : List ℕ) → is_ending e z ≡ true → 1 < length z
ending_within ending.Comment z h = there (λ b. b == 47) z 1 refl (and_parts (get_or z 0 0 == 42) (get_or z 1 0 == 47) h).1
ending_within ending.Quotes z h = there (λ b. b == 34) z 1 refl (and_parts (get_or z 0 0 == 34) (get_or z 1 0 == 34) (and_parts (get_or z 0 0 == 34 && get_or z 1 0 == 34) (get_or z 2 0 == 34) h).0).1

pub quotes_within : (z : List ℕ) → starts_with_quotes z ≡ true → 2 < length z
quotes_within z h = there (λ b. b == 34) z 2 refl (and_parts (get_or z 0 0 == 34 && get_or z 1 0 == 34) (get_or z 2 0 == 34) h).1

pub place_is : (e : Ending) (z : List ℕ) (n : ℕ) → place_of e z ≡ Some n → is_ending e (drop n z) ≡ true
place_is e [] n h = absurd cc
place_is e (b ∷ z) n given = cond_both (is_ending e (b ∷ z)) _ _ (λ o. o ≡ Some n → is_ending e (drop n (b ∷ z)) ≡ true) (λ k h. first n (let same : 0 ≡ n = cc in same) k) (λ k h. later (place_of e z) (λ m f. place_is e z m f) h) given
  where
    first : (n : ℕ) → 0 ≡ n → is_ending e (b ∷ z) ≡ true → is_ending e (drop n (b ∷ z)) ≡ true
    first n same k = subst (λ x. is_ending e (drop x (b ∷ z)) ≡ true) same k

    later : (o : Option ℕ) → ((m : ℕ) → o ≡ Some m → is_ending e (drop m z) ≡ true) → option_map (λ k. suc k) o ≡ Some n → is_ending e (drop n (b ∷ z)) ≡ true
    later None further h = absurd cc
    later (Some m) further h = let same : suc m ≡ n = cc in subst (λ x. is_ending e (drop x (b ∷ z)) ≡ true) same (further m refl)

pub comment_place : (z : List ℕ) (n : ℕ) → place_of ending.Comment z ≡ Some n → n + 2 ≤ length z
comment_place z n h = let len : length (drop n z) ≡ length z - n = drop_len n z in let two : 1 < length (drop n z) = ending_within ending.Comment (drop n z) (place_is ending.Comment z n h) in omega arith

pub quotes_place : (z : List ℕ) (n : ℕ) → place_of ending.Quotes z ≡ Some n → n + 3 ≤ length z
quotes_place z n h = let len : length (drop n z) ≡ length z - n = drop_len n z in let three : 2 < length (drop n z) = quotes_within (drop n z) (place_is ending.Quotes z n h) in omega arith

checked_fits : (n quotes len bytes escapes : ℕ) → 0 < quotes → quotes + len + quotes ≤ n → FitsIn n (checked quotes len bytes escapes)
checked_fits n quotes len bytes escapes some h =
    cond_both (nat_lt bytes len && nat_le bytes escapes) _ _ (FitsIn n) (λ k. let small : bytes < len = ltb-true bytes len (and_parts (nat_lt bytes len) (nat_le bytes escapes) k).0 in (omega arith, omega arith))
    (λ k. cond_both (nat_lt escapes len) _ _ (FitsIn n) (λ l. let small : escapes < len = ltb-true escapes len l in (omega arith, omega arith)) (λ l. (omega arith, omega arith)))

pub text_fits : (z : List ℕ) → 0 < length z → FitsIn (length z) (text z)
text_fits z some = cond_both (starts_with_quotes z) _ _ (FitsIn (length z)) (λ k. verbatim (place_of ending.Quotes (drop 3 z)) refl (quotes_within z k)) (λ k. plain (inside 34 (drop 1 z)) refl)
  where
    verbatim : (o : Option ℕ) → place_of ending.Quotes (drop 3 z) ≡ o → 2 < length z → FitsIn (length z) (verbatim_text_of (drop 3 z) o)
    verbatim None e h = (omega arith, omega arith)
    verbatim (Some n) e h = let small : n + 3 ≤ length (drop 3 z) = quotes_place (drop 3 z) n e in let len : length (drop 3 z) ≡ length z - 3 = drop_len 3 z in
        checked_fits (length z) 3 n (sound_bytes (take n (drop 3 z))) n (omega arith) (omega arith)

    plain : (o : Option ℕ) → inside 34 (drop 1 z) ≡ o → FitsIn (length z) (plain_text_of (drop 1 z) o)
    plain None e = (omega arith, omega arith)
    plain (Some n) e = let small : n < length (drop 1 z) = inside_within false 34 (drop 1 z) n e in let len : length (drop 1 z) ≡ length z - 1 = drop_len 1 z in
        checked_fits (length z) 1 n (sound_bytes (take n (drop 1 z))) (sound_escapes (take n (drop 1 z))) (omega arith) (omega arith)

escaped_fits : (n len : ℕ) (o : Option Escape) → 0 < len → len + 2 ≤ n → FitsIn n (escaped_character len o)
escaped_fits n len None some h = (omega arith, omega arith)
escaped_fits n len (Some e) some h = cond_both (len == e.len + 1) _ _ (FitsIn n) (λ k. let same : len ≡ e.len + 1 = eqb-true len (e.len + 1) k in (omega arith, omega arith)) (λ k. (omega arith, omega arith))

inside_fits : (n : ℕ) (z : List ℕ) → length z + 2 ≤ n → FitsIn n (character_inside z)
inside_fits n z h =
    cond_both (length z == 0) _ _ (FitsIn n) (λ k. (omega arith, omega arith))
    (λ k. let some : length z ≢ 0 = eqb-false (length z) 0 k in
    cond_both (get_or z 0 0 == 0 || nat_le 128 (get_or z 0 0)) _ _ (FitsIn n) (λ l. (omega arith, omega arith))
    (λ l. cond_both (not (get_or z 0 0 == 92)) _ _ (FitsIn n)
    (λ m. cond_both (length z == 1) _ _ (FitsIn n) (λ o. let one : length z ≡ 1 = eqb-true (length z) 1 o in (omega arith, omega arith)) (λ o. (omega arith, omega arith)))
    (λ m. escaped_fits n (length z) (escape literal.Character (drop 1 z)) (omega arith) h)))

pub character_fits : (z : List ℕ) → 0 < length z → FitsIn (length z) (character z)
character_fits z some = go (inside 39 (drop 1 z)) refl
  where
    go : (o : Option ℕ) → inside 39 (drop 1 z) ≡ o → FitsIn (length z) (character_between (drop 1 z) o)
    go None e = (omega arith, omega arith)
    go (Some n) e =
        let small : n < length (drop 1 z) = inside_within false 39 (drop 1 z) n e in
        let len : length (drop 1 z) ≡ length z - 1 = drop_len 1 z in
        let front : length (take n (drop 1 z)) ≡ n = take_len n (drop 1 z) (omega arith) in
        inside_fits (length z) (take n (drop 1 z)) (omega arith)

-- ---- tokens

pub cut_fits : (front z : List ℕ) → 0 < length z → FitsIn (length z) (cut front z)
unfolding cut
cut_fits front z some =
    cond_both (is_letter (get_or z 0 0)) _ _ (FitsIn (length z)) (λ h. word_fits z some h)
    (λ _. cond_both (is_digit (get_or z 0 0)) _ _ (FitsIn (length z)) (λ h. number_fits z some h)
    (λ _. cond_both (get_or z 0 0 == 34) _ _ (FitsIn (length z)) (λ _. text_fits z some)
    (λ _. cond_both (get_or z 0 0 == 39) _ _ (FitsIn (length z)) (λ _. character_fits z some)
    (λ _. cond_both (get_or z 0 0 == 64) _ _ (FitsIn (length z)) (λ _. marked_fits z some)
    (λ _. cond_both (get_or z 0 0 == 35) _ _ (FitsIn (length z)) (λ _. hash_fits front z some) (λ _. sign_fits z some))))))

-- ---- white space and comments

comment_fits : (n : ℕ) (z : List ℕ) → n ≤ length z → BlankIn (length z) (comment n z)
comment_fits n z h = cond_both (nat_lt (run class.NotZero (take n z)) n) _ _ (BlankIn (length z)) (λ k. let small : run class.NotZero (take n z) < n = ltb-true (run class.NotZero (take n z)) n k in (omega arith, omega arith)) (λ k. h)

pub blank_fits : (z : List ℕ) → BlankIn (length z) (blank z)
blank_fits z = cond_both (is_in class.Space (get_or z 0 0)) _ _ (BlankIn (length z)) (λ _. run_within class.Space z)
    (λ _. cond_both (get_or z 0 0 == 47 && get_or z 1 0 == 47) _ _ (BlankIn (length z)) (λ _. comment_fits (run class.NotLineFeed z) z (run_within class.NotLineFeed z))
    (λ _. cond_both (get_or z 0 0 == 47 && get_or z 1 0 == 42) _ _ (BlankIn (length z))
    (λ k. block (place_of ending.Comment (drop 2 z)) refl (there (λ b. b == 42) z 1 refl (and_parts (get_or z 0 0 == 47) (get_or z 1 0 == 42) k).1))
    (λ _. omega arith)))
  where
    block : (o : Option ℕ) → place_of ending.Comment (drop 2 z) ≡ o → 1 < length z → BlankIn (length z) (block_comment_to z o)
    block None e two = (omega arith, omega arith)
    block (Some n) e two = let small : n + 2 ≤ length (drop 2 z) = comment_place (drop 2 z) n e in let len : length (drop 2 z) ≡ length z - 2 = drop_len 2 z in
        comment_fits (n + 4) z (omega arith)

-- what is found lies from a place on and up to another
abbrev pub BlankFrom : ℕ → ℕ → Result ℕ Fault → Type 0
BlankFrom at n (Ok m) = (at ≤ m) × (m ≤ n)
BlankFrom at n (Err f) = (0 < f.len) × (f.start + f.len ≤ n)

then_fits : (at : ℕ) (z : List ℕ) (further : ℕ → Result ℕ Fault) (r : Result ℕ Fault) → BlankIn (length z) r → ((n : ℕ) → n ≤ length z → BlankFrom at (at + length z) (further n)) → BlankFrom at (at + length z) (blanks_then at r further)
then_fits at z further (Err f) h more = (h.0, (let b = h.1 in omega arith))
then_fits at z further (Ok n) h more = cond_both (n == 0) _ _ (BlankFrom at (at + length z)) (λ _. (omega arith, omega arith)) (λ _. more n h)

from_later : (at later end final : ℕ) (r : Result ℕ Fault) → at ≤ later → end ≤ final → BlankFrom later end r → BlankFrom at final r
from_later at later end final (Ok m) h k b = let x = b.0 in let y = b.1 in (omega arith, omega arith)
from_later at later end final (Err f) h k b = let y = b.1 in (b.0, (omega arith))

pub blanks_fit : (f at : ℕ) (z : List ℕ) → BlankFrom at (at + length z) (blanks_within f at z)
unfolding blanks_within
blanks_fit zero at z = (omega arith, omega arith)
blanks_fit (suc f) at z = then_fits at z (λ n. blanks_within f (at + n) (drop n z)) (blank z) (blank_fits z)
    (λ n h. let len : length (drop n z) ≡ length z - n = drop_len n z in from_later at (at + n) (at + n + length (drop n z)) (at + length z) (blanks_within f (at + n) (drop n z)) (omega arith) (omega arith) (blanks_fit f (at + n) (drop n z)))

-- ---- the bound on the number of pieces does not matter

then_same : (at : ℕ) (r : Result ℕ Fault) (f g : ℕ → Result ℕ Fault) → ((n : ℕ) → r ≡ Ok n → 0 < n → f n ≡ g n) → blanks_then at r f ≡ blanks_then at r g
then_same at (Err e) f g h = refl
then_same at (Ok zero) f g h = refl
then_same at (Ok (suc n)) f g h = let none : (suc n == 0) ≡ false = ne_eqb (suc n) 0 (λ (e : suc n ≡ 0). absurd (omega arith)) in rw none (h (suc n) refl (omega arith))

pub enough : (f g at : ℕ) (z : List ℕ) → length z < f → length z < g → blanks_within f at z ≡ blanks_within g at z
unfolding blanks_within
enough zero g at z a b = absurd (omega arith)
enough (suc f) zero at z a b = absurd (omega arith)
enough (suc f) (suc g) at z a b = then_same at (blank z) (λ n. blanks_within f (at + n) (drop n z)) (λ n. blanks_within g (at + n) (drop n z))
    (λ n e some. let len : length (drop n z) ≡ length z - n = drop_len n z in let within : n ≤ length z = subst (BlankIn (length z)) e (blank_fits z) in
    enough f g (at + n) (drop n z) (omega arith) (omega arith))

-- ---- the pieces one after another

pub blanks_begin : (z : List ℕ) → blanks z ≡ blanks_within (suc (length z - 0)) 0 (drop 0 z)
blanks_begin z = let e : suc (length z) ≡ suc (length z - 0) = omega arith in ap (λ n. blanks_within n 0 z) e

module _ (z : List ℕ) (at : ℕ) (within : at ≤ length z) (r : Result ℕ Fault) (same : r ≡ blanks_within (suc (length z - at)) at (drop at z)) where
  pub blanks_stop : (n : ℕ) → n ≡ 0 → blank (drop at z) ≡ Ok n → r ≡ Ok at
  unfolding blanks_within
  blanks_stop n none e = let zero_here : blank (drop at z) ≡ Ok 0 = e ∙ ap (λ m. Ok m) none in same ∙ ap (λ b. blanks_then at b (λ n. blanks_within (length z - at) (at + n) (drop n (drop at z)))) zero_here

  pub blanks_broken : (f : Fault) → blank (drop at z) ≡ Err f → r ≡ Err (moved at f)
  unfolding blanks_within
  blanks_broken f e = same ∙ ap (λ b. blanks_then at b (λ n. blanks_within (length z - at) (at + n) (drop n (drop at z)))) e

  pub blanks_more_within : (n : ℕ) → blank (drop at z) ≡ Ok n → at + n ≤ length z
  blanks_more_within n e = let len : length (drop at z) ≡ length z - at = drop_len at z in let more : n ≤ length (drop at z) = subst (BlankIn (length (drop at z))) e (blank_fits (drop at z)) in omega arith

  pub blanks_more : (n : ℕ) → 0 < n → blank (drop at z) ≡ Ok n → r ≡ blanks_within (suc (length z - (at + n))) (at + n) (drop (at + n) z)
  unfolding blanks_within
  blanks_more n some e =
      let more : at + n ≤ length z = blanks_more_within n e in
      let len : length (drop at z) ≡ length z - at = drop_len at z in
      let rest : length (drop n (drop at z)) ≡ length (drop at z) - n = drop_len n (drop at z) in
      let nonzero : (n == 0) ≡ false = ne_eqb n 0 (λ (e : n ≡ 0). absurd (omega arith)) in
      same ∙ ap (λ b. blanks_then at b (λ n. blanks_within (length z - at) (at + n) (drop n (drop at z)))) e
      ∙ ap (λ t. cond t (Ok at) (blanks_within (length z - at) (at + n) (drop n (drop at z)))) nonzero
      ∙ enough (length z - at) (suc (length z - (at + n))) (at + n) (drop n (drop at z)) (omega arith) (omega arith)
      ∙ ap (blanks_within (suc (length z - (at + n))) (at + n)) (drop-drop n at z)

  pub blanks_fault_within : (f : Fault) → blank (drop at z) ≡ Err f → at + f.start + f.len ≤ length z
  blanks_fault_within f e = let len : length (drop at z) ≡ length z - at = drop_len at z in let bound : f.start + f.len ≤ length (drop at z) = (subst (BlankIn (length (drop at z))) e (blank_fits (drop at z))).1 in omega arith
