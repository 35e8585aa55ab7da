-- Tokens that are put one after another are read.
use Rattle.std.proofs.Common.{◌≡◌, ℕ, suc, ◌+◌, ◌<◌, Bool, true, false, cond, ◌&&◌, ◌||◌, ◌==◌, not, nat_lt, List, [], ◌∷◌, ◌++◌, length, take, get_or, map, append-nil, Option, Some, None, is_some, refl, sym, ap, ap₂, subst, ◌∙◌, arith}
use Rattle.std.proofs.lemmas.Bool.{cond_both, and_parts, eqb-true, ne_eqb, lt-ltb, cond-true, cond-false}
use Rattle.c_lexer.specs.declared.token.Sign.{Sign}
use Rattle.c_lexer.specs.declared.token.TokenKind.{TokenKind}
use Rattle.c_lexer.specs.declared.token.TokenKind.TheVariants as k
use Rattle.c_lexer.specs.declared.bytes.Class.{Class}
use Rattle.c_lexer.specs.declared.bytes.Class.TheVariants as class
use Rattle.c_lexer.specs.Bytes.{is_space, is_letter, is_digit, is_in, begins_number, run}
use Rattle.c_lexer.specs.Words.{word_kind}
use Rattle.c_lexer.specs.Signs.{sign_of_one, sign_of_two, sign_of_three, doubled_sign, or_shorter}
use Rattle.c_lexer.specs.Numbers.{suffix_bytes, number_of}
use Rattle.c_lexer.specs.Cut.{cut}
use Rattle.c_lexer.specs.Tokens.{Lexeme, Tokens, all_of}
use Rattle.c_lexer.specs.Written.{IsWord, IsToken}
use Rattle.c_lexer.specs.Written as written
use Rattle.c_lexer.specs.Laws.{begins_blank, Blanks, none, space, IsLongest, Covers, last, next}
use Rattle.c_lexer.specs.Apart.{joins, sign_goes_on, needs_space, has_line_feed, Item, Puts, done, put}
use Rattle.c_lexer.proofs.ListLemmas.{first_of, run_append, take_front}
use Rattle.c_lexer.proofs.NumberLemmas.{decimal_goes, hexadecimal_goes, decimal_found, hexadecimal_found, number_found}
use Rattle.c_lexer.proofs.LongestLemmas.{IsPlain, plain_one, plain_two, plain_three, second_of_two, second_of_three, no_number, longest, cut_word, cut_number, cut_sign, text_cut, character_cut, begins_decimal, number_no_letter, digit_no_letter}
use Rattle.c_lexer.proofs.CoverLemmas.{less_suc}
use Rattle.c_lexer.proofs.ExactLemmas.{digit_no_blank, only_covers}

run_zero : (c : Class) (z : List ℕ) → is_in c (get_or z 0 0) ≡ false → run c z ≡ 0
run_zero c [] h = refl
run_zero c (b ∷ z) h = rw h refl

-- a token that is found whole is the longest that stands there
whole : (w z : List ℕ) (kind : TokenKind) → 0 < length w → IsToken w kind → begins_blank (w ++ z) ≡ false → (begins_number (w ++ z) ≡ true → run class.Number z ≡ 0) → cut (w ++ z) ≡ Some (record { kind = kind; len = length w }) → IsLongest w z kind
whole w z kind some i blank ends c = record {
  some = some;
  no_blank = blank;
  written = i;
  longest = λ u v other e j. longest u v other (record { kind = kind; len = length w }) j (ap cut (sym e) ∙ c);
  ends = ends;
}

-- what does not begin as a number has none behind it to be asked for
not_begun : (z : List ℕ) (A : Type 0) → begins_number z ≡ false → begins_number z ≡ true → A
not_begun z A n b = absurd (never (sym b ∙ n))
  where
    never : true ≡ false → ⊥
    never e = absurd cc

-- ---- words

letter_apart : (b : ℕ) → is_letter b ≡ true → (is_digit b ≡ false) × ((b == 46) ≡ false) × (is_space b ≡ false) × ((b == 47) ≡ false)
letter_apart b h = (no_digit (is_digit b) refl, no_byte 46 refl, rw (no_byte 32 refl, no_byte 9 refl, no_byte 10 refl, no_byte 12 refl, no_byte 13 refl) refl, no_byte 47 refl)
  where
    never : true ≡ false → ⊥
    never e = absurd cc

    no_digit : (t : Bool) → is_digit b ≡ t → t ≡ false
    no_digit true e = absurd (never (sym h ∙ digit_no_letter b e))
    no_digit false e = refl

    no_byte : (x : ℕ) → is_letter x ≡ false → (b == x) ≡ false
    no_byte x n = go (b == x) refl
      where
        go : (t : Bool) → (b == x) ≡ t → t ≡ false
        go true e = absurd (never (sym (subst (λ y. is_letter y ≡ true) (eqb-true b x e) h) ∙ n))
        go false e = refl

word_apart : (w z : List ℕ) → IsWord w → is_in class.Word (get_or z 0 0) ≡ false → IsLongest w z (word_kind w)
word_apart w z i h =
    let first : get_or (w ++ z) 0 0 ≡ get_or w 0 0 = first_of w z 0 i.some in
    let letter : is_letter (get_or (w ++ z) 0 0) ≡ true = ap is_letter first ∙ i.letter in
    let l = letter_apart (get_or (w ++ z) 0 0) letter in
    let no : begins_number (w ++ z) ≡ false = rw (l.0, l.1) refl in
    let counted : run class.Word (w ++ z) ≡ length w + run class.Word z = run_append class.Word w z i.all in
    let nothing : run class.Word z ≡ 0 = run_zero class.Word z h in
    let len : run class.Word (w ++ z) ≡ length w = omega arith in
    whole w z (word_kind w) i.some (written.word w i) (rw (l.2, l.3) refl) (not_begun (w ++ z) (run class.Number z ≡ 0) no)
    (cut_word (w ++ z) letter ∙ ap (λ (n : ℕ). Some (record { kind = word_kind (take n (w ++ z)); len = n })) len ∙ ap (λ x. Some (record { kind = word_kind x; len = length w })) (take_front w z))

-- ---- numbers

number_apart : (w z : List ℕ) (kind : TokenKind) → 0 < length w → IsToken w kind → begins_number (w ++ z) ≡ true → number_of w ≡ Some kind → run class.Number w ≡ length w → run class.Number z ≡ 0 → IsLongest w z kind
number_apart w z kind some i b n all nothing = whole w z kind some i (digit_no_blank (w ++ z) b) (λ _. nothing) (cut_number (w ++ z) b ∙ number_found w z kind n all nothing)

-- ---- signs

first_false : (a b : Bool) → (a || b) ≡ false → a ≡ false
first_false true b h = absurd cc
first_false false b h = refl

last_false : (a b : Bool) → (a || b) ≡ false → b ≡ false
last_false true b h = absurd cc
last_false false b h = h

both_false : (a b : Bool) → b ≡ false → (a && b) ≡ false
both_false true b h = h
both_false false b h = refl

and_or_false : (a b c : Bool) → (a && (b || c)) ≡ false → (a && b) ≡ false
and_or_false true b c h = first_false b c h
and_or_false false b c h = refl

and_or_last : (a b c : Bool) → (a && (b || c)) ≡ false → (a && c) ≡ false
and_or_last true b c h = last_false b c h
and_or_last false b c h = refl

is_nothing : (o : Option Sign) → is_some o ≡ false → o ≡ None
is_nothing None h = refl
is_nothing (Some s) h = absurd cc

-- the two bytes in front of a longer sign are a sign, or two `.`
three_none : (b c d : ℕ) → sign_of_two b c ≡ None → (b == 46 && c == 46) ≡ false → sign_of_three b c d ≡ None
three_none b c d n dots =
    cond_both (b == 60 && c == 60 && d == 61) _ _ P (λ e. absurd (shift 60 (and_parts (b == 60) (c == 60) (and_parts (b == 60 && c == 60) (d == 61) e).0) refl))
    (λ _. cond_both (b == 62 && c == 62 && d == 61) _ _ P (λ e. absurd (shift 62 (and_parts (b == 62) (c == 62) (and_parts (b == 62 && c == 62) (d == 61) e).0) refl))
    (λ _. cond_both (b == 46 && c == 46 && d == 46) _ _ P (λ e. absurd (never (sym (and_parts (b == 46 && c == 46) (d == 46) e).0 ∙ dots))) (λ _. refl)))
  where
    P : Option Sign → Type 0
    P o = o ≡ None

    never : true ≡ false → ⊥
    never e = absurd cc

    shift : (x : ℕ) → ((b == x) ≡ true) × ((c == x) ≡ true) → is_some (sign_of_two x x) ≡ true → ⊥
    shift x e s = never (sym s ∙ ap is_some (ap₂ sign_of_two (sym (eqb-true b x e.0)) (sym (eqb-true c x e.1)) ∙ n))

sign_space : (w : List ℕ) (c : ℕ) → IsPlain (get_or w 0 0) → begins_number w ≡ false → needs_space w c ≡ false → sign_goes_on w c ≡ false
sign_space w c p n h =
    sym (cond-false (get_or w 0 0 == 34 || get_or w 0 0 == 39) false (sign_goes_on w c) (rw (p.2, p.3) refl)) ∙ sym (cond-false (begins_number w) (is_in class.Number c) _ n) ∙ sym (cond-false (is_letter (get_or w 0 0)) (is_in class.Word c || c == 34 || c == 39) _ p.0) ∙ h

-- two bytes of a sign begin no comment
doubled_no_slash : (b : ℕ) (s : Sign) → doubled_sign b ≡ Some s → (b == 47) ≡ false
doubled_no_slash b s = cond_both (b == 38) _ _ P (λ e h. subst (λ x. (x == 47) ≡ false) (sym (eqb-true b 38 e)) refl)
    (λ _. cond_both (b == 124) _ _ P (λ e h. subst (λ x. (x == 47) ≡ false) (sym (eqb-true b 124 e)) refl)
    (λ _. cond_both (b == 60) _ _ P (λ e h. subst (λ x. (x == 47) ≡ false) (sym (eqb-true b 60 e)) refl)
    (λ _. cond_both (b == 62) _ _ P (λ e h. subst (λ x. (x == 47) ≡ false) (sym (eqb-true b 62 e)) refl)
    (λ _. cond_both (b == 43) _ _ P (λ e h. subst (λ x. (x == 47) ≡ false) (sym (eqb-true b 43 e)) refl)
    (λ _. cond_both (b == 45) _ _ P (λ e h. subst (λ x. (x == 47) ≡ false) (sym (eqb-true b 45 e)) refl)
    (λ _. cond_both (b == 35) _ _ P (λ e h. subst (λ x. (x == 47) ≡ false) (sym (eqb-true b 35 e)) refl) (λ _ h. absurd cc)))))))
  where
    P : Option Sign → Type 0
    P o = o ≡ Some s → (b == 47) ≡ false

no_comment : (b c : ℕ) (s : Sign) → sign_of_two b c ≡ Some s → (b == 47 && (c == 47 || c == 42)) ≡ false
no_comment b c s = cond_both (c == 61) _ _ P (λ e h. subst (λ x. (b == 47 && (x == 47 || x == 42)) ≡ false) (sym (eqb-true c 61 e)) (both_false (b == 47) false refl))
    (λ _. cond_both (b == c) _ _ P (λ _ h. ap (λ t. t && (c == 47 || c == 42)) (doubled_no_slash b s h))
    (λ _. cond_both (b == 45 && c == 62) _ _ P (λ e h. subst (λ x. (x == 47 && (c == 47 || c == 42)) ≡ false) (sym (eqb-true b 45 (and_parts (b == 45) (c == 62) e).0)) refl) (λ _ h. absurd cc)))
  where
    P : Option Sign → Type 0
    P o = o ≡ Some s → (b == 47 && (c == 47 || c == 42)) ≡ false

no_slash : (b c d : ℕ) (s : Sign) → sign_of_three b c d ≡ Some s → (b == 47) ≡ false
no_slash b c d s =
    cond_both (b == 60 && c == 60 && d == 61) _ _ P (λ e h. subst (λ x. (x == 47) ≡ false) (sym (eqb-true b 60 (and_parts (b == 60) (c == 60) (and_parts (b == 60 && c == 60) (d == 61) e).0).0)) refl)
    (λ _. cond_both (b == 62 && c == 62 && d == 61) _ _ P (λ e h. subst (λ x. (x == 47) ≡ false) (sym (eqb-true b 62 (and_parts (b == 62) (c == 62) (and_parts (b == 62 && c == 62) (d == 61) e).0).0)) refl)
    (λ _. cond_both (b == 46 && c == 46 && d == 46) _ _ P (λ e h. subst (λ x. (x == 47) ≡ false) (sym (eqb-true b 46 (and_parts (b == 46) (c == 46) (and_parts (b == 46 && c == 46) (d == 46) e).0).0)) refl) (λ _ h. absurd cc)))
  where
    P : Option Sign → Type 0
    P o = o ≡ Some s → (b == 47) ≡ false

one_apart : (b : ℕ) (z : List ℕ) (s : Sign) → sign_of_one b ≡ Some s → needs_space (b ∷ []) (get_or z 0 0) ≡ false → IsLongest (b ∷ []) z (k.Sign s)
one_apart b z s i h =
    let p : IsPlain b = plain_one b s i in
    let alone : begins_number (b ∷ []) ≡ false = rw p.1 (both_false (b == 46) false refl) in
    let j : joins b (get_or z 0 0) ≡ false = sign_space (b ∷ []) (get_or z 0 0) p alone h in
    let front : (is_some (sign_of_two b (get_or z 0 0)) || (b == 46 && (get_or z 0 0 == 46 || is_digit (get_or z 0 0)))) ≡ false = first_false (is_some (sign_of_two b (get_or z 0 0)) || (b == 46 && (get_or z 0 0 == 46 || is_digit (get_or z 0 0)))) (b == 47 && (get_or z 0 0 == 47 || get_or z 0 0 == 42)) j in
    let slash : (b == 47 && (get_or z 0 0 == 47 || get_or z 0 0 == 42)) ≡ false = last_false (is_some (sign_of_two b (get_or z 0 0)) || (b == 46 && (get_or z 0 0 == 46 || is_digit (get_or z 0 0)))) (b == 47 && (get_or z 0 0 == 47 || get_or z 0 0 == 42)) j in
    let dots : (b == 46 && (get_or z 0 0 == 46 || is_digit (get_or z 0 0))) ≡ false = last_false (is_some (sign_of_two b (get_or z 0 0))) (b == 46 && (get_or z 0 0 == 46 || is_digit (get_or z 0 0))) front in
    let two : sign_of_two b (get_or z 0 0) ≡ None = is_nothing (sign_of_two b (get_or z 0 0)) (first_false (is_some (sign_of_two b (get_or z 0 0))) (b == 46 && (get_or z 0 0 == 46 || is_digit (get_or z 0 0))) front) in
    let three : sign_of_three b (get_or z 0 0) (get_or z 1 0) ≡ None = three_none b (get_or z 0 0) (get_or z 1 0) two (and_or_false (b == 46) (get_or z 0 0 == 46) (is_digit (get_or z 0 0)) dots) in
    let n : begins_number (b ∷ z) ≡ false = rw p.1 (and_or_last (b == 46) (get_or z 0 0 == 46) (is_digit (get_or z 0 0)) dots) in
    whole (b ∷ []) z (k.Sign s) (omega arith) (written.one b s i) (rw p.4 slash) (not_begun (b ∷ z) (run class.Number z ≡ 0) n)
    (cut_sign (b ∷ z) p n ∙ ap (λ o. or_shorter o 3 (or_shorter (sign_of_two b (get_or z 0 0)) 2 (or_shorter (sign_of_one b) 1 None))) three
    ∙ ap (λ o. or_shorter o 2 (or_shorter (sign_of_one b) 1 None)) two ∙ ap (λ o. or_shorter o 1 None) i)

two_apart : (b c : ℕ) (z : List ℕ) (s : Sign) → sign_of_two b c ≡ Some s → needs_space (b ∷ c ∷ []) (get_or z 0 0) ≡ false → IsLongest (b ∷ c ∷ []) z (k.Sign s)
two_apart b c z s i h =
    let p : IsPlain b = plain_two b s c i in
    let second : is_digit c ≡ false = second_of_two b c s i in
    let three : sign_of_three b c (get_or z 0 0) ≡ None = is_nothing (sign_of_three b c (get_or z 0 0)) (sign_space (b ∷ c ∷ []) (get_or z 0 0) p (no_number b c [] p.1 second) h) in
    let n : begins_number (b ∷ c ∷ z) ≡ false = no_number b c z p.1 second in
    whole (b ∷ c ∷ []) z (k.Sign s) (omega arith) (written.two b c s i) (rw p.4 (no_comment b c s i)) (not_begun (b ∷ c ∷ z) (run class.Number z ≡ 0) n)
    (cut_sign (b ∷ c ∷ z) p n ∙ ap (λ o. or_shorter o 3 (or_shorter (sign_of_two b c) 2 (or_shorter (sign_of_one b) 1 None))) three ∙ ap (λ o. or_shorter o 2 (or_shorter (sign_of_one b) 1 None)) i)

three_apart : (b c d : ℕ) (z : List ℕ) (s : Sign) → sign_of_three b c d ≡ Some s → IsLongest (b ∷ c ∷ d ∷ []) z (k.Sign s)
three_apart b c d z s i =
    let p : IsPlain b = plain_three b s c d i in
    let n : begins_number (b ∷ c ∷ d ∷ z) ≡ false = no_number b c (d ∷ z) p.1 (second_of_three b c d s i) in
    whole (b ∷ c ∷ d ∷ []) z (k.Sign s) (omega arith) (written.three b c d s i) (rw (p.4, no_slash b c d s i) refl) (not_begun (b ∷ c ∷ d ∷ z) (run class.Number z ≡ 0) n)
    (cut_sign (b ∷ c ∷ d ∷ z) p n ∙ ap (λ o. or_shorter o 3 (or_shorter (sign_of_two b c) 2 (or_shorter (sign_of_one b) 1 None))) i)

-- ---- all classes

word_space : (w : List ℕ) (c : ℕ) → IsWord w → needs_space w c ≡ false → is_in class.Word c ≡ false
word_space w c i h = first_false (is_in class.Word c) (c == 34) (first_false (is_in class.Word c || c == 34) (c == 39) (sym (cond-true (is_letter (get_or w 0 0)) (is_in class.Word c || c == 34 || c == 39) _ i.letter) ∙ h))

number_space : (w : List ℕ) (c : ℕ) → begins_number w ≡ true → needs_space w c ≡ false → is_in class.Number c ≡ false
number_space w c b h = sym (cond-true (begins_number w) (is_in class.Number c) _ b) ∙ sym (cond-false (is_letter (get_or w 0 0)) (is_in class.Word c || c == 34 || c == 39) _ (number_no_letter w b)) ∙ h

some_number : (w : List ℕ) → begins_number w ≡ true → 0 < length w
some_number [] h = absurd cc
some_number (b ∷ w) h = omega arith

pub apart : (w z : List ℕ) (kind : TokenKind) → IsToken w kind → needs_space w (get_or z 0 0) ≡ false → IsLongest w z kind
apart _ z _ (written.word w i) h = word_apart w z i (word_space w (get_or z 0 0) i h)
apart _ z _ (written.decimal d s t i n) h =
    let b : begins_number (d ++ suffix_bytes s) ≡ true = ap begins_number (sym (append-nil (d ++ suffix_bytes s))) ∙ begins_decimal d s [] i in
    number_apart (d ++ suffix_bytes s) z _ (some_number (d ++ suffix_bytes s) b) (written.decimal d s t i n) (begins_decimal d s z i) (decimal_found d s t i n) (decimal_goes d s i) (run_zero class.Number z (number_space (d ++ suffix_bytes s) (get_or z 0 0) b h))
apart _ z _ (written.hexadecimal d s t i n) h =
    number_apart (48 ∷ 120 ∷ d ++ suffix_bytes s) z _ (omega arith) (written.hexadecimal d s t i n) refl (hexadecimal_found d s t i n) (hexadecimal_goes d s i) (run_zero class.Number z (number_space (48 ∷ 120 ∷ d ++ suffix_bytes s) (get_or z 0 0) refl h))
apart _ z _ (written.text body bytes d) h = whole (34 ∷ body ++ 34 ∷ []) z k.Text (omega arith) (written.text body bytes d) refl (not_begun (34 ∷ (body ++ 34 ∷ []) ++ z) (run class.Number z ≡ 0) refl) (text_cut body bytes z d)
apart _ z _ (written.character body v d some) h = whole (39 ∷ body ++ 39 ∷ []) z (k.Character v) (omega arith) (written.character body v d some) refl (not_begun (39 ∷ (body ++ 39 ∷ []) ++ z) (run class.Number z ≡ 0) refl) (character_cut body v z d some)
apart _ z _ (written.one b s i) h = one_apart b z s i h
apart _ z _ (written.two b c s i) h = two_apart b c z s i h
apart _ z _ (written.three b c d s i) h = three_apart b c d z s i

-- ---- whole texts

line_feed : (b : ℕ) (w : List ℕ) → has_line_feed (b ∷ w) ≡ (b == 10 || has_line_feed w)
line_feed b w = go (b == 10)
  where
    go : (t : Bool) → nat_lt (cond (not t) (suc (run class.NotLineFeed w)) 0) (suc (length w)) ≡ (t || has_line_feed w)
    go true = lt-ltb 0 (suc (length w)) (omega arith)
    go false = less_suc (run class.NotLineFeed w) (length w)

spaces : (w rest : List ℕ) → run class.Space w ≡ length w → Blanks (has_line_feed w) w rest
spaces [] rest h = none
spaces (b ∷ w) rest given = go (is_space b) refl (λ h. spaces w rest h) given
  where
    go : (t : Bool) → is_space b ≡ t → (run class.Space w ≡ length w → Blanks (has_line_feed w) w rest) → cond t (suc (run class.Space w)) 0 ≡ suc (length w) → Blanks (has_line_feed (b ∷ w)) (b ∷ w) rest
    go true e more h = subst (λ t. Blanks t (b ∷ w) rest) (sym (line_feed b w)) (space b e (more (omega arith)))
    go false e more h = absurd (omega arith)

record Read (at : ℕ) (ts : List Item) (z : List ℕ) : Type 0 where
  tokens : List Lexeme
  covers : Covers at z tokens None
  same : map (λ (t : Lexeme). (t.text, t.kind, t.begins_line)) tokens ≡ ts

reads : (at : ℕ) (first : Bool) (ts : List Item) (z : List ℕ) → (at == 0) ≡ first → Puts first ts z → Read at ts z
reads at first _ _ e (done w h) = record { tokens = []; covers = last w (spaces w [] h); same = refl }
reads at first _ _ e (put w text z kind {ts} h i n more) =
    let longest_is : IsLongest text z kind = apart text z kind i n in
    let some : 0 < length text = longest_is.some in
    let r : Read (at + length w + length text) ts z = reads (at + length w + length text) false ts z (ne_eqb (at + length w + length text) 0 (λ (f : at + length w + length text ≡ 0). absurd (omega arith))) more in
    record {
      tokens = record { kind = kind; text = text; start = at + length w; end = at + length w + length text; begins_line = first || has_line_feed w } ∷ r.tokens;
      covers = next w z (record { kind = kind; text = text; start = at + length w; end = at + length w + length text; begins_line = first || has_line_feed w }) (spaces w (text ++ z) h) longest_is refl refl (ap (λ t. t || has_line_feed w) (sym e)) r.covers;
      same = ap (λ xs. (text, kind, first || has_line_feed w) ∷ xs) r.same;
    }

pub puts_read : (ts : List Item) (z : List ℕ) → Puts true ts z → (ls : List Lexeme) × Tokens (all_of z) ls None × (map (λ (t : Lexeme). (t.text, t.kind, t.begins_line)) ls ≡ ts)
puts_read ts z p = let r : Read 0 ts z = reads 0 true ts z refl p in (r.tokens, only_covers (all_of z) r.tokens None r.covers, r.same)
