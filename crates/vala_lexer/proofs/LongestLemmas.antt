-- No token that stands in front of bytes is longer than the one that is found.
use Rattle.std.proofs.Common.{◌≡◌, ℕ, suc, ◌+◌, ◌<◌, ◌≤◌, Bool, true, false, cond, not, ◌||◌, ◌&&◌, ◌==◌, nat_lt, nat_le, List, [], ◌∷◌, ◌++◌, length, take, drop, get_or, append_assoc, Option, Some, None, Result, Ok, Err, refl, sym, ap, ap₂, subst, ◌∙◌, option_and_then, arith}
use Rattle.std.specs.Option.{option_map}
use Rattle.std.proofs.lemmas.Bool.{cond_both, and_parts, eqb-true, leb-true, lt-leb, ne_eqb, cond-true, cond-false, or_from, and_left}
use Rattle.std.proofs.lemmas.List.{length-append}
use Rattle.vala_lexer.specs.declared.token.IntegerType.{IntegerType}
use Rattle.vala_lexer.specs.declared.token.TokenKind.{TokenKind}
use Rattle.vala_lexer.specs.declared.token.TokenKind.TheVariants as k
use Rattle.vala_lexer.specs.declared.bytes.Class.{Class}
use Rattle.vala_lexer.specs.declared.bytes.Class.TheVariants as class
use Rattle.vala_lexer.specs.declared.bytes.Ending.TheVariants as ending
use Rattle.vala_lexer.specs.declared.numbers.Suffix.TheVariants as suffix
use Rattle.vala_lexer.specs.declared.pieces.Found.{Found}
use Rattle.vala_lexer.specs.declared.pieces.Fault.{Fault}
use Rattle.vala_lexer.specs.Bytes.{is_in, is_letter, is_digit, is_hex_digit, run, is_ending, place_of, starts_with_quotes, in_64_bits, value}
use Rattle.vala_lexer.specs.Words.{word_kind, is_identifier}
use Rattle.vala_lexer.specs.Signs.{sign_of_one, sign_of_two, sign_of_three, sign_with_equals, doubled_sign, or_shorter}
use Rattle.vala_lexer.specs.Numbers.{is_u, is_l, suffix_of, suffix_len, integer_type, integer_of, integer, hexadecimal, decimal, is_fraction, is_prefixed, number}
use Rattle.vala_lexer.specs.Texts.{inside, inside_behind, sound_bytes, sound_escapes, checked, plain_text_of, plain_text, verbatim_text_of, verbatim_text, text, character_inside, character_between, character}
use Rattle.vala_lexer.specs.Cut.{word, marked_word, sign_or_bad, sign_or_bad_of, hash, cut}
use Rattle.vala_lexer.specs.Written.{IsWord, IsDecimal, IsHexadecimal, IsSuffix, IsToken}
use Rattle.vala_lexer.specs.Written as written
use Rattle.vala_lexer.proofs.FitLemmas.{FitsIn, cut_fits}

-- ---- runs

pub run_more : (c : Class) (u v : List ℕ) → run c u ≤ run c (u ++ v)
run_more c [] v = omega arith
run_more c (b ∷ u) v = cond_both (is_in c b) (suc (run c u)) 0 (λ n. n ≤ cond (is_in c b) (suc (run c (u ++ v))) 0) (λ e. rw e (let more : run c u ≤ run c (u ++ v) = run_more c u v in omega arith)) (λ e. omega arith)

-- a run stops at the first byte that is not of the class
pub run_stops : (c : Class) (u v : List ℕ) → run c u ≡ length u → is_in c (get_or v 0 0) ≡ false → 0 < length v → run c (u ++ v) ≡ length u
run_stops c [] [] h stop some = absurd (omega arith)
run_stops c [] (b ∷ v) h stop some = rw stop refl
run_stops c (b ∷ u) v given stop some = cond_both (is_in c b) (suc (run c u)) 0 (λ n. n ≡ suc (length u) → cond (is_in c b) (suc (run c (u ++ v))) 0 ≡ suc (length u))
    (λ e h. rw e (ap (λ (n : ℕ). suc n) (run_stops c u v (omega arith) stop some))) (λ e h. absurd (omega arith)) given

first_of : (u v : List ℕ) (d : ℕ) → 0 < length u → get_or (u ++ v) 0 d ≡ get_or u 0 d
first_of [] v d h = absurd (omega arith)
first_of (b ∷ u) v d h = refl

drop_front : (u v : List ℕ) → drop (length u) (u ++ v) ≡ v
drop_front [] v = refl
drop_front (b ∷ u) v = drop_front u v

take_front : (u v : List ℕ) → take (length u) (u ++ v) ≡ u
take_front [] v = refl
take_front (b ∷ u) v = ap (λ w. b ∷ w) (take_front u v)

-- ---- words

module _ (front z : List ℕ) (t : Found) where
  pub cut_word : is_letter (get_or z 0 0) ≡ true → cut front z ≡ Ok t → word z ≡ Ok t
  unfolding cut
  cut_word h e = sym (cond-true (is_letter (get_or z 0 0)) (word z) _ h) ∙ e

  pub cut_number : is_letter (get_or z 0 0) ≡ false → is_digit (get_or z 0 0) ≡ true → cut front z ≡ Ok t → number z ≡ Ok t
  unfolding cut
  cut_number n h e = sym (cond-true (is_digit (get_or z 0 0)) (number z) _ h) ∙ sym (cond-false (is_letter (get_or z 0 0)) (word z) _ n) ∙ e

word_len : (z : List ℕ) (t : Found) → word z ≡ Ok t → run class.Word z ≡ t.len
word_len z t = cond_both (nat_lt 200 (run class.Word z)) _ _ (λ r. r ≡ Ok t → run class.Word z ≡ t.len) (λ _ h. absurd cc) (λ _ h. (let same : record { kind = word_kind (take (run class.Word z) z); len = run class.Word z } ≡ t = cc in ap (λ (x : Found). x.len) same))

pub longest_word : (front w rest : List ℕ) (t : Found) → IsWord w → cut front (w ++ rest) ≡ Ok t → length w ≤ t.len
longest_word front w rest t i e =
    let letter : is_letter (get_or (w ++ rest) 0 0) ≡ true = ap is_letter (first_of w rest 0 i.some) ∙ i.letter in
    let len : run class.Word (w ++ rest) ≡ t.len = word_len (w ++ rest) t (cut_word front (w ++ rest) t letter e) in
    let more : run class.Word w ≤ run class.Word (w ++ rest) = run_more class.Word w rest in
    let all : run class.Word w ≡ length w = i.all in
    omega arith

marked_len : (z : List ℕ) (t : Found) → marked_word z ≡ Ok t → run class.Word (drop 1 z) + 1 ≡ t.len
marked_len z t = cond_both (get_or (drop 1 z) 0 0 == 34) _ _ (λ r. r ≡ Ok t → run class.Word (drop 1 z) + 1 ≡ t.len) (λ _ h. absurd cc)
    (λ _. cond_both (is_identifier (word_kind (take (run class.Word (drop 1 z)) (drop 1 z)))) _ _ (λ r. r ≡ Ok t → run class.Word (drop 1 z) + 1 ≡ t.len) (λ _ h. absurd cc)
    (λ _ h. (let same : record { kind = k.Identifier; len = run class.Word (drop 1 z) + 1 } ≡ t = cc in ap (λ (x : Found). x.len) same)))

longest_marked : (front w rest : List ℕ) (t : Found) → IsWord w → cut front (64 ∷ w ++ rest) ≡ Ok t → suc (length w) ≤ t.len
unfolding cut
longest_marked front w rest t i e =
    let len : run class.Word (w ++ rest) + 1 ≡ t.len = marked_len (64 ∷ w ++ rest) t e in
    let more : run class.Word w ≤ run class.Word (w ++ rest) = run_more class.Word w rest in
    let all : run class.Word w ≡ length w = i.all in
    omega arith

-- ---- numbers

integer_len : (len : ℕ) (v : Option ℕ) (behind : List ℕ) (t : Found) → integer v len behind ≡ Ok t → len + suffix_len (suffix_of behind) ≡ t.len
integer_len len v behind t h = go v (option_and_then (integer_type (suffix_of behind)) v) h
  where
    go : (v : Option ℕ) (o : Option IntegerType) → integer_of (len + suffix_len (suffix_of behind)) v o ≡ Ok t → len + suffix_len (suffix_of behind) ≡ t.len
    go None o h = absurd cc
    go (Some n) None h = absurd cc
    go (Some n) (Some i) h = let same : record { kind = k.Integer n i; len = len + suffix_len (suffix_of behind) } ≡ t = cc in ap (λ (x : Found). x.len) same

-- what is a suffix stays one in front of more
suffix_longest : (s rest : List ℕ) → IsSuffix s → length s ≤ suffix_len (suffix_of (s ++ rest))
suffix_longest [] rest h = omega arith
suffix_longest (a ∷ []) rest given = cond_both (is_u a) _ _ (λ x. suffix_len x ≡ 1 → 1 ≤ suffix_len (suffix_of (a ∷ rest)))
    (λ e h. rw e (long_u (is_l (get_or rest 0 0)) (is_l (get_or rest 1 0))))
    (λ e. cond_both (is_l a) _ _ (λ x. suffix_len x ≡ 1 → 1 ≤ suffix_len (suffix_of (a ∷ rest))) (λ f h. rw (e, f) (long_l (is_l (get_or rest 0 0)))) (λ f h. absurd (omega arith))) given
  where
    long_u : (x y : Bool) → 1 ≤ suffix_len (cond x (cond y suffix.Ull suffix.Ul) suffix.U)
    long_u true true = omega arith
    long_u true false = omega arith
    long_u false y = omega arith

    long_l : (x : Bool) → 1 ≤ suffix_len (cond x suffix.Ll suffix.L)
    long_l true = omega arith
    long_l false = omega arith
suffix_longest (a ∷ b ∷ []) rest given = cond_both (is_u a) _ _ (λ x. suffix_len x ≡ 2 → 2 ≤ suffix_len (suffix_of (a ∷ b ∷ rest)))
    (λ e. cond_both (is_l b) _ _ (λ x. suffix_len x ≡ 2 → 2 ≤ suffix_len (suffix_of (a ∷ b ∷ rest))) (λ f h. rw (e, f) (long_u (is_l (get_or rest 0 0)))) (λ f h. absurd (omega arith)))
    (λ e. cond_both (is_l a) _ _ (λ x. suffix_len x ≡ 2 → 2 ≤ suffix_len (suffix_of (a ∷ b ∷ rest)))
    (λ f. cond_both (is_l b) _ _ (λ x. suffix_len x ≡ 2 → 2 ≤ suffix_len (suffix_of (a ∷ b ∷ rest))) (λ g h. rw (e, f, g) (omega arith)) (λ g h. absurd (omega arith)))
    (λ f h. absurd (omega arith))) given
  where
    long_u : (y : Bool) → 2 ≤ suffix_len (cond y suffix.Ull suffix.Ul)
    long_u true = omega arith
    long_u false = omega arith
suffix_longest (a ∷ b ∷ c ∷ s) rest given = subst (λ n. n ≤ suffix_len (suffix_of (a ∷ b ∷ c ∷ s ++ rest))) given (omega arith)

-- digits of a class and a suffix, whose letters are not of the class
digits_longest : (c : Class) (d s rest : List ℕ) → run c d ≡ length d → IsSuffix s → ((b : ℕ) → is_u b ≡ true → is_in c b ≡ false) → ((b : ℕ) → is_l b ≡ true → is_in c b ≡ false)
    → length d + length s ≤ run c (d ++ s ++ rest) + suffix_len (suffix_of (drop (run c (d ++ s ++ rest)) (d ++ s ++ rest)))
digits_longest c d [] rest all i u l =
    let more : run c d ≤ run c (d ++ [] ++ rest) = subst (λ x. run c d ≤ run c x) (sym (append_assoc d [] rest)) (run_more c d rest) in
    omega arith
digits_longest c d (a ∷ s) rest all i u l =
    let stop : is_in c a ≡ false = stops i in
    let counted : run c (d ++ (a ∷ s) ++ rest) ≡ length d = ap (run c) (append_assoc d (a ∷ s) rest) ∙ run_stops c d (a ∷ s ++ rest) all stop (omega arith) in
    let behind : drop (run c (d ++ (a ∷ s) ++ rest)) (d ++ (a ∷ s) ++ rest) ≡ a ∷ s ++ rest = ap₂ (λ (n : ℕ) (x : List ℕ). drop n x) counted (append_assoc d (a ∷ s) rest) ∙ drop_front d (a ∷ s ++ rest) in
    let long : length (a ∷ s) ≤ suffix_len (suffix_of (a ∷ s ++ rest)) = suffix_longest (a ∷ s) rest i in
    let same : suffix_len (suffix_of (drop (run c (d ++ (a ∷ s) ++ rest)) (d ++ (a ∷ s) ++ rest))) ≡ suffix_len (suffix_of (a ∷ s ++ rest)) = ap (λ x. suffix_len (suffix_of x)) behind in
    omega arith
  where
    stops : IsSuffix (a ∷ s) → is_in c a ≡ false
    stops = cond_both (is_u a) _ _ (λ x. suffix_len x ≡ suc (length s) → is_in c a ≡ false) (λ e h. u a e)
        (λ e. cond_both (is_l a) _ _ (λ x. suffix_len x ≡ suc (length s) → is_in c a ≡ false) (λ f h. l a f) (λ f h. absurd (omega arith)))

either : (P : ℕ → Type 0) (b x y : ℕ) → P x → P y → (b == x || b == y) ≡ true → P b
either P b x y px py h = go (b == x) refl h
  where
    go : (t : Bool) → (b == x) ≡ t → (t || b == y) ≡ true → P b
    go true e h = subst P (sym (eqb-true b x e)) px
    go false e h = subst P (sym (eqb-true b y h)) py

u_no_digit : (b : ℕ) → is_u b ≡ true → is_digit b ≡ false
u_no_digit b = either (λ x. is_digit x ≡ false) b 85 117 refl refl

l_no_digit : (b : ℕ) → is_l b ≡ true → is_digit b ≡ false
l_no_digit b = either (λ x. is_digit x ≡ false) b 76 108 refl refl

u_no_hex : (b : ℕ) → is_u b ≡ true → is_hex_digit b ≡ false
u_no_hex b = either (λ x. is_hex_digit x ≡ false) b 85 117 refl refl

l_no_hex : (b : ℕ) → is_l b ≡ true → is_hex_digit b ≡ false
l_no_hex b = either (λ x. is_hex_digit x ≡ false) b 76 108 refl refl

pub digit_no_letter : (b : ℕ) → is_digit b ≡ true → is_letter b ≡ false
digit_no_letter b h =
    let small : b ≤ 57 = leb-true b 57 (and_parts (nat_le 48 b) (nat_le b 57) h).1 in
    or_from ((nat_le 65 b && nat_le b 90) || b == 95) (nat_le 97 b && nat_le b 122)
    (or_from (nat_le 65 b && nat_le b 90) (b == 95) (and_left (nat_le 65 b) (nat_le b 90) (lt-leb 65 b (omega arith))) (ne_eqb b 95 (λ (e : b ≡ 95). absurd (omega arith))))
    (and_left (nat_le 97 b) (nat_le b 122) (lt-leb 97 b (omega arith)))

first_in : (c : Class) (d : List ℕ) → 0 < length d → run c d ≡ length d → is_in c (get_or d 0 0) ≡ true
first_in c [] some h = absurd (omega arith)
first_in c (b ∷ d) some h = go (is_in c b) h
  where
    go : (t : Bool) → cond t (suc (run c d)) 0 ≡ suc (length d) → t ≡ true
    go true h = refl
    go false h = absurd (omega arith)

-- decimal digits before an `x` are one digit, and have no suffix
before_x : (d s rest : List ℕ) → run class.Digit d ≡ length d → IsSuffix s → get_or (d ++ s ++ rest) 1 0 ≡ 120 → 0 < length d → length d + length s ≤ 1
before_x [] s rest all i e some = absurd (omega arith)
before_x (x ∷ []) [] rest all i e some = omega arith
before_x (x ∷ []) (a ∷ s) rest all i e some = let none : 0 ≡ suc (length s) = subst (λ y. suffix_len (suffix_of (y ∷ s)) ≡ suc (length s)) e i in absurd (omega arith)
before_x (x ∷ y ∷ d) s rest all i e some = absurd (go (is_digit x) (subst (λ w. run class.Digit (x ∷ w ∷ d) ≡ suc (suc (length d))) e all))
  where
    go : (t : Bool) → cond t 1 0 ≡ suc (suc (length d)) → ⊥
    go true h = omega arith
    go false h = omega arith

decimal_len : (z : List ℕ) (t : Found) → decimal z ≡ Ok t → run class.Digit z + suffix_len (suffix_of (drop (run class.Digit z) z)) ≡ t.len
decimal_len z t = cond_both (is_fraction (drop (run class.Digit z) z)) _ _ P (λ _ h. absurd cc)
    (λ _. cond_both (nat_lt 1 (run class.Digit z) && get_or z 0 0 == 48) _ _ P
    (λ _ h. integer_len (run class.Digit z) None (drop (run class.Digit z) z) t h)
    (λ _ h. integer_len (run class.Digit z) (in_64_bits (value 10 (take (run class.Digit z) z))) (drop (run class.Digit z) z) t h))
  where
    P : Result Found Fault → Type 0
    P r = r ≡ Ok t → run class.Digit z + suffix_len (suffix_of (drop (run class.Digit z) z)) ≡ t.len

hexadecimal_len : (z : List ℕ) (t : Found) → hexadecimal z ≡ Ok t → run class.HexDigit (drop 2 z) + 2 + suffix_len (suffix_of (drop (run class.HexDigit (drop 2 z)) (drop 2 z))) ≡ t.len
hexadecimal_len z t h = integer_len (run class.HexDigit (drop 2 z) + 2) (in_64_bits (value 16 (take (run class.HexDigit (drop 2 z)) (drop 2 z)))) (drop (run class.HexDigit (drop 2 z)) (drop 2 z)) t h

longest_decimal : (front d s rest : List ℕ) (t : Found) → IsDecimal d → IsSuffix s → cut front (d ++ s ++ rest) ≡ Ok t → length (d ++ s) ≤ t.len
longest_decimal front d s rest t i j e =
    let first : get_or (d ++ s ++ rest) 0 0 ≡ get_or d 0 0 = ap (λ x. get_or x 0 0) (append_assoc d s rest) ∙ first_of d (s ++ rest) 0 i.some in
    let digit : is_digit (get_or (d ++ s ++ rest) 0 0) ≡ true = ap is_digit first ∙ first_in class.Digit d i.some i.all in
    let n : number (d ++ s ++ rest) ≡ Ok t = cut_number front (d ++ s ++ rest) t (digit_no_letter (get_or (d ++ s ++ rest) 0 0) digit) digit e in
    let joined : length (d ++ s) ≡ length d + length s = length-append d s in
    cond_both (is_prefixed (d ++ s ++ rest)) _ _ (λ r. r ≡ Ok t → length (d ++ s) ≤ t.len)
    (λ p h.
    let x : get_or (d ++ s ++ rest) 1 0 ≡ 120 = eqb-true (get_or (d ++ s ++ rest) 1 0) 120 (and_parts (get_or (d ++ s ++ rest) 0 0 == 48) (get_or (d ++ s ++ rest) 1 0 == 120) (and_parts (get_or (d ++ s ++ rest) 0 0 == 48 && get_or (d ++ s ++ rest) 1 0 == 120) (is_hex_digit (get_or (d ++ s ++ rest) 2 0)) p).0).1 in
    let small : length d + length s ≤ 1 = before_x d s rest i.all j x i.some in
    let len : run class.HexDigit (drop 2 (d ++ s ++ rest)) + 2 + suffix_len (suffix_of (drop (run class.HexDigit (drop 2 (d ++ s ++ rest))) (drop 2 (d ++ s ++ rest)))) ≡ t.len = hexadecimal_len (d ++ s ++ rest) t h in
    omega arith)
    (λ _ h.
    let len : run class.Digit (d ++ s ++ rest) + suffix_len (suffix_of (drop (run class.Digit (d ++ s ++ rest)) (d ++ s ++ rest))) ≡ t.len = decimal_len (d ++ s ++ rest) t h in
    let long : length d + length s ≤ run class.Digit (d ++ s ++ rest) + suffix_len (suffix_of (drop (run class.Digit (d ++ s ++ rest)) (d ++ s ++ rest))) = digits_longest class.Digit d s rest i.all j u_no_digit l_no_digit in
    omega arith) n

longest_hexadecimal : (front d s rest : List ℕ) (t : Found) → IsHexadecimal d → IsSuffix s → cut front (48 ∷ 120 ∷ d ++ s ++ rest) ≡ Ok t → suc (suc (length (d ++ s))) ≤ t.len
longest_hexadecimal front d s rest t i j e =
    let first : get_or (d ++ s ++ rest) 0 0 ≡ get_or d 0 0 = ap (λ x. get_or x 0 0) (append_assoc d s rest) ∙ first_of d (s ++ rest) 0 i.some in
    let digit : is_hex_digit (get_or (d ++ s ++ rest) 0 0) ≡ true = ap is_hex_digit first ∙ first_in class.HexDigit d i.some i.all in
    let n : number (48 ∷ 120 ∷ d ++ s ++ rest) ≡ Ok t = cut_number front (48 ∷ 120 ∷ d ++ s ++ rest) t refl refl e in
    let h : hexadecimal (48 ∷ 120 ∷ d ++ s ++ rest) ≡ Ok t = sym (cond-true (is_hex_digit (get_or (d ++ s ++ rest) 0 0)) (hexadecimal (48 ∷ 120 ∷ d ++ s ++ rest)) _ digit) ∙ n in
    let joined : length (d ++ s) ≡ length d + length s = length-append d s in
    let len : run class.HexDigit (d ++ s ++ rest) + 2 + suffix_len (suffix_of (drop (run class.HexDigit (d ++ s ++ rest)) (d ++ s ++ rest))) ≡ t.len = hexadecimal_len (48 ∷ 120 ∷ d ++ s ++ rest) t h in
    let long : length d + length s ≤ run class.HexDigit (d ++ s ++ rest) + suffix_len (suffix_of (drop (run class.HexDigit (d ++ s ++ rest)) (d ++ s ++ rest))) = digits_longest class.HexDigit d s rest i.all j u_no_hex l_no_hex in
    omega arith

-- ---- texts and characters

checked_len : (q n b e : ℕ) (t : Found) → checked q n b e ≡ Ok t → q + n + q ≡ t.len
checked_len q n b e t = cond_both (nat_lt b n && nat_le b e) _ _ (λ r. r ≡ Ok t → q + n + q ≡ t.len) (λ _ h. absurd cc)
    (λ _. cond_both (nat_lt e n) _ _ (λ r. r ≡ Ok t → q + n + q ≡ t.len) (λ _ h. absurd cc) (λ _ h. (let same : record { kind = k.Text; len = q + n + q } ≡ t = cc in ap (λ (x : Found). x.len) same)))

pub suc_some : (o : Option ℕ) (n : ℕ) → option_map (λ m. suc m) o ≡ Some (suc n) → o ≡ Some n
suc_some None n h = absurd cc
suc_some (Some m) n h = cc

-- what ends a text or a character ends it also in front of more
inside_more : (q : ℕ) (e : Bool) (b rest : List ℕ) → inside_behind e q (b ++ q ∷ []) ≡ Some (length b) → inside_behind e q (b ++ q ∷ rest) ≡ Some (length b)
inside_more q e [] rest = cond_both (q == 10) _ _ (λ o. o ≡ Some 0 → inside_behind e q (q ∷ rest) ≡ Some 0) (λ _ h. absurd cc)
    (λ f. cond_both (q == q && not e) _ _ (λ o. o ≡ Some 0 → inside_behind e q (q ∷ rest) ≡ Some 0) (λ g h. rw (f, g) refl) (λ g h. absurd cc))
inside_more q e (c ∷ b) rest = cond_both (c == 10) _ _ (λ o. o ≡ Some (suc (length b)) → inside_behind e q (c ∷ b ++ q ∷ rest) ≡ Some (suc (length b))) (λ _ h. absurd cc)
    (λ f. cond_both (c == q && not e) _ _ (λ o. o ≡ Some (suc (length b)) → inside_behind e q (c ∷ b ++ q ∷ rest) ≡ Some (suc (length b))) (λ _ h. absurd (none h))
    (λ g h. rw (f, g) (ap (option_map (λ m. suc m)) (inside_more q (c == 92 && not e) b rest (suc_some (inside_behind (c == 92 && not e) q (b ++ q ∷ [])) (length b) h)))))
  where
    none : Some 0 ≡ Some (suc (length b)) → ⊥
    none h = let e : 0 ≡ suc (length b) = cc in omega arith

plain_len : (z : List ℕ) (n : ℕ) (t : Found) → inside 34 z ≡ Some n → plain_text z ≡ Ok t → 1 + n + 1 ≡ t.len
plain_len z n t e h = checked_len 1 n (sound_bytes (take n z)) (sound_escapes (take n z)) t (sym (ap (plain_text_of z) e) ∙ h)

verbatim_len : (z : List ℕ) (t : Found) → verbatim_text z ≡ Ok t → 6 ≤ t.len
verbatim_len z t = go (place_of ending.Quotes z)
  where
    go : (o : Option ℕ) → verbatim_text_of z o ≡ Ok t → 6 ≤ t.len
    go None h = absurd cc
    go (Some n) h = let len : 3 + n + 3 ≡ t.len = checked_len 3 n (sound_bytes (take n z)) n t h in omega arith

longest_text : (front b rest : List ℕ) (t : Found) → inside 34 (b ++ 34 ∷ []) ≡ Some (length b) → cut front (34 ∷ b ++ 34 ∷ [] ++ rest) ≡ Ok t → suc (length (b ++ 34 ∷ [])) ≤ t.len
unfolding cut
longest_text front b rest t i e =
    let joined : length (b ++ 34 ∷ []) ≡ length b + 1 = length-append b (34 ∷ []) in
    let more : inside 34 (b ++ 34 ∷ [] ++ rest) ≡ Some (length b) = ap (inside 34) (append_assoc b (34 ∷ []) rest) ∙ inside_more 34 false b rest i in
    cond_both (starts_with_quotes (34 ∷ b ++ 34 ∷ [] ++ rest)) _ _ (λ r. r ≡ Ok t → suc (length (b ++ 34 ∷ [])) ≤ t.len)
    (λ q h. let long : 6 ≤ t.len = verbatim_len (drop 3 (34 ∷ b ++ 34 ∷ [] ++ rest)) t h in
    let small : length b ≡ 0 = empty b i (eqb-true (get_or (b ++ 34 ∷ [] ++ rest) 0 0) 34 (and_parts (get_or (b ++ 34 ∷ [] ++ rest) 0 0 == 34) (get_or (b ++ 34 ∷ [] ++ rest) 1 0 == 34) q).0) in
    omega arith)
    (λ _ h. let len : 1 + length b + 1 ≡ t.len = plain_len (b ++ 34 ∷ [] ++ rest) (length b) t more h in omega arith) e
  where
    empty : (b : List ℕ) → inside 34 (b ++ 34 ∷ []) ≡ Some (length b) → get_or (b ++ 34 ∷ [] ++ rest) 0 0 ≡ 34 → length b ≡ 0
    empty [] i e = refl
    empty (c ∷ b) i e = let none : Some 0 ≡ Some (suc (length b)) = subst (λ x. inside 34 (x ∷ b ++ 34 ∷ []) ≡ Some (suc (length b))) e i in let no : 0 ≡ suc (length b) = cc in absurd (omega arith)

quotes_more : (b rest : List ℕ) → place_of ending.Quotes (b ++ 34 ∷ 34 ∷ 34 ∷ []) ≡ Some (length b) → place_of ending.Quotes (b ++ 34 ∷ 34 ∷ 34 ∷ rest) ≡ Some (length b)
quotes_more [] rest given = refl
quotes_more (c ∷ b) rest given = cond_both (is_ending ending.Quotes (c ∷ b ++ 34 ∷ 34 ∷ 34 ∷ [])) _ _ (λ o. o ≡ Some (suc (length b)) → place_of ending.Quotes (c ∷ b ++ 34 ∷ 34 ∷ 34 ∷ rest) ≡ Some (suc (length b)))
    (λ _ h. absurd (none h))
    (λ f h. let same : is_ending ending.Quotes (c ∷ b ++ 34 ∷ 34 ∷ 34 ∷ rest) ≡ false = ap₂ (λ (x y : ℕ). c == 34 && x == 34 && y == 34) (zeroth b) (first b) ∙ f in
    rw same (ap (option_map (λ m. suc m)) (quotes_more b rest (suc_some (place_of ending.Quotes (b ++ 34 ∷ 34 ∷ 34 ∷ [])) (length b) h)))) given
  where
    none : Some 0 ≡ Some (suc (length b)) → ⊥
    none h = let e : 0 ≡ suc (length b) = cc in omega arith

    zeroth : (b : List ℕ) → get_or (b ++ 34 ∷ 34 ∷ 34 ∷ rest) 0 0 ≡ get_or (b ++ 34 ∷ 34 ∷ 34 ∷ []) 0 0
    zeroth [] = refl
    zeroth (x ∷ b) = refl

    first : (b : List ℕ) → get_or (b ++ 34 ∷ 34 ∷ 34 ∷ rest) 1 0 ≡ get_or (b ++ 34 ∷ 34 ∷ 34 ∷ []) 1 0
    first [] = refl
    first (x ∷ []) = refl
    first (x ∷ y ∷ b) = refl

longest_verbatim : (front b rest : List ℕ) (t : Found) → place_of ending.Quotes (b ++ 34 ∷ 34 ∷ 34 ∷ []) ≡ Some (length b) → cut front (34 ∷ 34 ∷ 34 ∷ b ++ 34 ∷ 34 ∷ 34 ∷ [] ++ rest) ≡ Ok t
    → suc (suc (suc (length (b ++ 34 ∷ 34 ∷ 34 ∷ [])))) ≤ t.len
unfolding cut
longest_verbatim front b rest t i e =
    let joined : length (b ++ 34 ∷ 34 ∷ 34 ∷ []) ≡ length b + 3 = length-append b (34 ∷ 34 ∷ 34 ∷ []) in
    let more : place_of ending.Quotes (b ++ 34 ∷ 34 ∷ 34 ∷ [] ++ rest) ≡ Some (length b) = ap (place_of ending.Quotes) (append_assoc b (34 ∷ 34 ∷ 34 ∷ []) rest) ∙ quotes_more b rest i in
    let len : 3 + length b + 3 ≡ t.len = checked_len 3 (length b) (sound_bytes (take (length b) (b ++ 34 ∷ 34 ∷ 34 ∷ [] ++ rest))) (length b) t (sym (ap (verbatim_text_of (b ++ 34 ∷ 34 ∷ 34 ∷ [] ++ rest)) more) ∙ e) in
    omega arith

longest_character : (front b rest : List ℕ) (code : ℕ) (t : Found) → inside 39 (b ++ 39 ∷ []) ≡ Some (length b) → character_inside b ≡ Ok (record { kind = k.Character code; len = length b + 2 })
    → cut front (39 ∷ b ++ 39 ∷ [] ++ rest) ≡ Ok t → suc (length (b ++ 39 ∷ [])) ≤ t.len
unfolding cut
longest_character front b rest code t i j e =
    let joined : length (b ++ 39 ∷ []) ≡ length b + 1 = length-append b (39 ∷ []) in
    let more : inside 39 (b ++ 39 ∷ [] ++ rest) ≡ Some (length b) = ap (inside 39) (append_assoc b (39 ∷ []) rest) ∙ inside_more 39 false b rest i in
    let front_is : take (length b) (b ++ 39 ∷ [] ++ rest) ≡ b = ap (take (length b)) (append_assoc b (39 ∷ []) rest) ∙ take_front b (39 ∷ rest) in
    let found : Ok (record { kind = k.Character code; len = length b + 2 }) ≡ Ok t = sym j ∙ ap character_inside (sym front_is) ∙ sym (ap (character_between (b ++ 39 ∷ [] ++ rest)) more) ∙ e in
    let same : record { kind = k.Character code; len = length b + 2 } ≡ t = cc in
    let len : length b + 2 ≡ t.len = ap (λ (x : Found). x.len) same in
    omega arith

-- ---- signs

-- a byte that begins no token of another class
abbrev IsPlain : ℕ → Type 0
IsPlain b = (is_letter b ≡ false) × (is_digit b ≡ false) × ((b == 34) ≡ false) × ((b == 39) ≡ false) × ((b == 64) ≡ false) × ((b == 35) ≡ false)

module _ (b : ℕ) (kind : TokenKind) where
  abbrev P : Option TokenKind → Type 0
  P o = o ≡ Some kind → IsPlain b

  pub plain_one : P (sign_of_one b)
  plain_one = cond_both (b == 123) _ _ P (λ e h. subst IsPlain (sym (eqb-true b 123 e)) (refl, refl, refl, refl, refl, refl)) (λ _. cond_both (b == 125) _ _ P (λ e h. subst IsPlain (sym (eqb-true b 125 e)) (refl, refl, refl, refl, refl, refl)) (λ _. cond_both (b == 40) _ _ P (λ e h. subst IsPlain (sym (eqb-true b 40 e)) (refl, refl, refl, refl, refl, refl)) (λ _. cond_both (b == 41) _ _ P (λ e h. subst IsPlain (sym (eqb-true b 41 e)) (refl, refl, refl, refl, refl, refl)) (λ _. cond_both (b == 91) _ _ P (λ e h. subst IsPlain (sym (eqb-true b 91 e)) (refl, refl, refl, refl, refl, refl)) (λ _. cond_both (b == 93) _ _ P (λ e h. subst IsPlain (sym (eqb-true b 93 e)) (refl, refl, refl, refl, refl, refl)) (λ _. cond_both (b == 44) _ _ P (λ e h. subst IsPlain (sym (eqb-true b 44 e)) (refl, refl, refl, refl, refl, refl)) (λ _. cond_both (b == 59) _ _ P (λ e h. subst IsPlain (sym (eqb-true b 59 e)) (refl, refl, refl, refl, refl, refl)) (λ _. cond_both (b == 58) _ _ P (λ e h. subst IsPlain (sym (eqb-true b 58 e)) (refl, refl, refl, refl, refl, refl)) (λ _. cond_both (b == 46) _ _ P (λ e h. subst IsPlain (sym (eqb-true b 46 e)) (refl, refl, refl, refl, refl, refl)) (λ _. cond_both (b == 63) _ _ P (λ e h. subst IsPlain (sym (eqb-true b 63 e)) (refl, refl, refl, refl, refl, refl)) (λ _. cond_both (b == 61) _ _ P (λ e h. subst IsPlain (sym (eqb-true b 61 e)) (refl, refl, refl, refl, refl, refl)) (λ _. cond_both (b == 60) _ _ P (λ e h. subst IsPlain (sym (eqb-true b 60 e)) (refl, refl, refl, refl, refl, refl)) (λ _. cond_both (b == 62) _ _ P (λ e h. subst IsPlain (sym (eqb-true b 62 e)) (refl, refl, refl, refl, refl, refl)) (λ _. cond_both (b == 43) _ _ P (λ e h. subst IsPlain (sym (eqb-true b 43 e)) (refl, refl, refl, refl, refl, refl)) (λ _. cond_both (b == 45) _ _ P (λ e h. subst IsPlain (sym (eqb-true b 45 e)) (refl, refl, refl, refl, refl, refl)) (λ _. cond_both (b == 42) _ _ P (λ e h. subst IsPlain (sym (eqb-true b 42 e)) (refl, refl, refl, refl, refl, refl)) (λ _. cond_both (b == 47) _ _ P (λ e h. subst IsPlain (sym (eqb-true b 47 e)) (refl, refl, refl, refl, refl, refl)) (λ _. cond_both (b == 37) _ _ P (λ e h. subst IsPlain (sym (eqb-true b 37 e)) (refl, refl, refl, refl, refl, refl)) (λ _. cond_both (b == 38) _ _ P (λ e h. subst IsPlain (sym (eqb-true b 38 e)) (refl, refl, refl, refl, refl, refl)) (λ _. cond_both (b == 124) _ _ P (λ e h. subst IsPlain (sym (eqb-true b 124 e)) (refl, refl, refl, refl, refl, refl)) (λ _. cond_both (b == 94) _ _ P (λ e h. subst IsPlain (sym (eqb-true b 94 e)) (refl, refl, refl, refl, refl, refl)) (λ _. cond_both (b == 33) _ _ P (λ e h. subst IsPlain (sym (eqb-true b 33 e)) (refl, refl, refl, refl, refl, refl)) (λ _. cond_both (b == 126) _ _ P (λ e h. subst IsPlain (sym (eqb-true b 126 e)) (refl, refl, refl, refl, refl, refl)) (λ _. λ h. absurd cc))))))))))))))))))))))))

  plain_equals : P (sign_with_equals b)
  plain_equals = cond_both (b == 61) _ _ P (λ e h. subst IsPlain (sym (eqb-true b 61 e)) (refl, refl, refl, refl, refl, refl)) (λ _. cond_both (b == 33) _ _ P (λ e h. subst IsPlain (sym (eqb-true b 33 e)) (refl, refl, refl, refl, refl, refl)) (λ _. cond_both (b == 60) _ _ P (λ e h. subst IsPlain (sym (eqb-true b 60 e)) (refl, refl, refl, refl, refl, refl)) (λ _. cond_both (b == 62) _ _ P (λ e h. subst IsPlain (sym (eqb-true b 62 e)) (refl, refl, refl, refl, refl, refl)) (λ _. cond_both (b == 43) _ _ P (λ e h. subst IsPlain (sym (eqb-true b 43 e)) (refl, refl, refl, refl, refl, refl)) (λ _. cond_both (b == 45) _ _ P (λ e h. subst IsPlain (sym (eqb-true b 45 e)) (refl, refl, refl, refl, refl, refl)) (λ _. cond_both (b == 42) _ _ P (λ e h. subst IsPlain (sym (eqb-true b 42 e)) (refl, refl, refl, refl, refl, refl)) (λ _. cond_both (b == 47) _ _ P (λ e h. subst IsPlain (sym (eqb-true b 47 e)) (refl, refl, refl, refl, refl, refl)) (λ _. cond_both (b == 37) _ _ P (λ e h. subst IsPlain (sym (eqb-true b 37 e)) (refl, refl, refl, refl, refl, refl)) (λ _. cond_both (b == 38) _ _ P (λ e h. subst IsPlain (sym (eqb-true b 38 e)) (refl, refl, refl, refl, refl, refl)) (λ _. cond_both (b == 124) _ _ P (λ e h. subst IsPlain (sym (eqb-true b 124 e)) (refl, refl, refl, refl, refl, refl)) (λ _. cond_both (b == 94) _ _ P (λ e h. subst IsPlain (sym (eqb-true b 94 e)) (refl, refl, refl, refl, refl, refl)) (λ _. λ h. absurd cc))))))))))))

  plain_doubled : P (doubled_sign b)
  plain_doubled = cond_both (b == 63) _ _ P (λ e h. subst IsPlain (sym (eqb-true b 63 e)) (refl, refl, refl, refl, refl, refl)) (λ _. cond_both (b == 38) _ _ P (λ e h. subst IsPlain (sym (eqb-true b 38 e)) (refl, refl, refl, refl, refl, refl)) (λ _. cond_both (b == 124) _ _ P (λ e h. subst IsPlain (sym (eqb-true b 124 e)) (refl, refl, refl, refl, refl, refl)) (λ _. cond_both (b == 60) _ _ P (λ e h. subst IsPlain (sym (eqb-true b 60 e)) (refl, refl, refl, refl, refl, refl)) (λ _. cond_both (b == 62) _ _ P (λ e h. subst IsPlain (sym (eqb-true b 62 e)) (refl, refl, refl, refl, refl, refl)) (λ _. cond_both (b == 43) _ _ P (λ e h. subst IsPlain (sym (eqb-true b 43 e)) (refl, refl, refl, refl, refl, refl)) (λ _. cond_both (b == 45) _ _ P (λ e h. subst IsPlain (sym (eqb-true b 45 e)) (refl, refl, refl, refl, refl, refl)) (λ _. λ h. absurd cc)))))))

  pub plain_two : (c : ℕ) → P (sign_of_two b c)
  plain_two c = cond_both (c == 61) _ _ P (λ _. plain_equals) (λ _. cond_both (b == c) _ _ P (λ _. plain_doubled)
      (λ _. cond_both (b == 61 && c == 62) _ _ P (λ e h. subst IsPlain (sym (eqb-true b 61 (and_parts (b == 61) (c == 62) e).0)) (refl, refl, refl, refl, refl, refl)) (λ _ h. absurd cc)))

  pub plain_three : (c d : ℕ) → P (sign_of_three b c d)
  plain_three c d =
      cond_both (b == 60 && c == 60 && d == 61) _ _ P (λ e h. subst IsPlain (sym (eqb-true b 60 (and_parts (b == 60) (c == 60) (and_parts (b == 60 && c == 60) (d == 61) e).0).0)) (refl, refl, refl, refl, refl, refl))
      (λ _. cond_both (b == 62 && c == 62 && d == 61) _ _ P (λ e h. subst IsPlain (sym (eqb-true b 62 (and_parts (b == 62) (c == 62) (and_parts (b == 62 && c == 62) (d == 61) e).0).0)) (refl, refl, refl, refl, refl, refl))
      (λ _. cond_both (b == 46 && c == 46 && d == 46) _ _ P (λ e h. subst IsPlain (sym (eqb-true b 46 (and_parts (b == 46) (c == 46) (and_parts (b == 46 && c == 46) (d == 46) e).0).0)) (refl, refl, refl, refl, refl, refl)) (λ _ h. absurd cc)))

pub cut_sign : (front z : List ℕ) (t : Found) → IsPlain (get_or z 0 0) → cut front z ≡ Ok t → sign_or_bad z ≡ Ok t
unfolding cut
cut_sign front z t p e =
    sym (cond-false (get_or z 0 0 == 35) (Err (hash front)) (sign_or_bad z) p.5) ∙ sym (cond-false (get_or z 0 0 == 64) (marked_word z) _ p.4) ∙ sym (cond-false (get_or z 0 0 == 39) (character z) _ p.3)
    ∙ sym (cond-false (get_or z 0 0 == 34) (text z) _ p.2) ∙ sym (cond-false (is_digit (get_or z 0 0)) (number z) _ p.1) ∙ sym (cond-false (is_letter (get_or z 0 0)) (word z) _ p.0) ∙ e

longest_two : (front rest : List ℕ) (b c : ℕ) (kind : TokenKind) (t : Found) → sign_of_two b c ≡ Some kind → cut front (b ∷ c ∷ rest) ≡ Ok t → 2 ≤ t.len
longest_two front rest b c kind t i e = go (sign_of_three b c (get_or rest 0 0)) (cut_sign front (b ∷ c ∷ rest) t (plain_two b kind c i) e)
  where
    go : (o : Option TokenKind) → sign_or_bad_of (or_shorter o 3 (or_shorter (sign_of_two b c) 2 (or_shorter (sign_of_one b) 1 None))) ≡ Ok t → 2 ≤ t.len
    go (Some kind) h = let same : record { kind = kind; len = 3 } ≡ t = cc in let len : 3 ≡ t.len = ap (λ (x : Found). x.len) same in omega arith
    go None h =
        let found : Ok (record { kind = kind; len = 2 }) ≡ Ok t = sym (ap (λ o. sign_or_bad_of (or_shorter o 2 (or_shorter (sign_of_one b) 1 None))) i) ∙ h in
        let same : record { kind = kind; len = 2 } ≡ t = cc in
        let len : 2 ≡ t.len = ap (λ (x : Found). x.len) same in
        omega arith

longest_three : (front rest : List ℕ) (b c d : ℕ) (kind : TokenKind) (t : Found) → sign_of_three b c d ≡ Some kind → cut front (b ∷ c ∷ d ∷ rest) ≡ Ok t → 3 ≤ t.len
longest_three front rest b c d kind t i e =
    let found : Ok (record { kind = kind; len = 3 }) ≡ Ok t = sym (ap (λ o. sign_or_bad_of (or_shorter o 3 (or_shorter (sign_of_two b c) 2 (or_shorter (sign_of_one b) 1 None)))) i) ∙ cut_sign front (b ∷ c ∷ d ∷ rest) t (plain_three b kind c d i) e in
    let same : record { kind = kind; len = 3 } ≡ t = cc in
    let len : 3 ≡ t.len = ap (λ (x : Found). x.len) same in
    omega arith

-- ---- all classes

pub longest : (front w rest : List ℕ) (kind : TokenKind) (t : Found) → IsToken w kind → cut front (w ++ rest) ≡ Ok t → length w ≤ t.len
longest front _ rest _ t (written.word w i small) e = longest_word front w rest t i e
longest front _ rest _ t (written.marked w i is) e = longest_marked front w rest t i e
longest front _ rest _ t (written.decimal d s it i j is) e = longest_decimal front d s rest t i j e
longest front _ rest _ t (written.hexadecimal d s it i j is) e = longest_hexadecimal front d s rest t i j e
longest front _ rest _ t (written.text b i bytes escapes) e = longest_text front b rest t i e
longest front _ rest _ t (written.verbatim b i bytes) e = longest_verbatim front b rest t i e
longest front _ rest _ t (written.character b code i is) e = longest_character front b rest code t i is e
longest front _ rest _ t (written.one b kind i) e = (subst (FitsIn (length (b ∷ rest))) e (cut_fits front (b ∷ rest) (omega arith))).0
longest front _ rest _ t (written.two b c kind i) e = longest_two front rest b c kind t i e
longest front _ rest _ t (written.three b c d kind i) e = longest_three front rest b c d kind t i e
