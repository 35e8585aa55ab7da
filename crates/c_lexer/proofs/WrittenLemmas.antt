-- What is found is written as a token of its class, and where nothing is found no token begins.
use Rattle.std.proofs.Common.{◌≡◌, inl, inr, ℕ, suc, ◌+◌, ◌-◌, ◌<◌, ◌≤◌, Bool, true, false, ◌==◌, List, [], ◌∷◌, ◌++◌, length, take, drop, get_or, Option, Some, None, Ok, refl, sym, ap, subst, ◌∙◌, option_and_then, arith}
use Rattle.std.specs.Option.{option_map}
use Rattle.std.proofs.lemmas.Bool.{cond_both, or_right}
use Rattle.std.proofs.lemmas.List.{length-take-le, length-drop, take-append-drop}
use Rattle.c_lexer.specs.declared.token.Sign.{Sign}
use Rattle.c_lexer.specs.declared.token.TokenKind.{TokenKind}
use Rattle.c_lexer.specs.declared.token.TokenKind.TheVariants as k
use Rattle.c_lexer.specs.declared.bytes.Class.TheVariants as class
use Rattle.c_lexer.specs.declared.pieces.Found.{Found}
use Rattle.c_lexer.specs.Bytes.{is_letter, is_digit, begins_number, run}
use Rattle.c_lexer.specs.Signs.{sign_of_one, sign_of_two, sign_of_three, or_shorter, sign}
use Rattle.c_lexer.specs.Texts.{quoted, text, character_byte, character_of, character}
use Rattle.c_lexer.specs.Cut.{word, cut}
use Rattle.c_lexer.specs.Written.{IsWord, IsToken}
use Rattle.c_lexer.specs.Written as written
use Rattle.c_lexer.specs.Laws.{begins_blank, IsLongest, BeginsBadly, no_number, no_token}
use Rattle.c_lexer.specs.Tokens.{Left, Lexeme, next_of, begins_line}
use Rattle.c_lexer.proofs.NextLemmas.{TokenFound, token_found, found_within}
use Rattle.c_lexer.proofs.FitLemmas.{FitsIn, cut_fits, run_some, two_some, three_some, within_two}
use Rattle.c_lexer.proofs.ListLemmas.{cons_of, take_first, take_one, take_two, take_three, front_run, run_rest}
use Rattle.c_lexer.proofs.DenotesLemmas.{Quoted, quoted_is, character_denotes}
use Rattle.c_lexer.proofs.NumberLemmas.{number_parts, number_written}
use Rattle.c_lexer.proofs.LongestLemmas.{Stands, found, longest, cut_number}

-- a token, by how it was found
abbrev Written : List ℕ → Found → Type 0
Written z t = IsToken (take t.len z) t.kind

-- ---- words

word_written : (z : List ℕ) → 0 < length z → is_letter (get_or z 0 0) ≡ true → Written z (word z)
word_written z some h =
    let enough : 0 < run class.Word z = run_some class.Word z (or_right (is_digit (get_or z 0 0)) (is_letter (get_or z 0 0)) h) some in
    let f = front_run class.Word z in
    let len : length (take (run class.Word z) z) ≡ run class.Word z = f.0 in
    written.word (take (run class.Word z) z) (record { some = omega arith; letter = ap is_letter (take_first (run class.Word z) z enough) ∙ h; all = f.1 })

-- ---- signs

sign_written : (z : List ℕ) (t : Found) → 0 < length z → sign z ≡ Some t → Written z t
sign_written z t some = three (sign_of_three (get_or z 0 0) (get_or z 1 0) (get_or z 2 0)) refl
  where
    one : (o : Option Sign) → sign_of_one (get_or z 0 0) ≡ o → or_shorter o 1 None ≡ Some t → Written z t
    one None i e = absurd cc
    one (Some s) i e = let same : record { kind = k.Sign s; len = 1 } ≡ t = cc in subst (Written z) same (subst (λ x. IsToken x (k.Sign s)) (sym (take_one z some)) (written.one (get_or z 0 0) s i))

    two : (o : Option Sign) → sign_of_two (get_or z 0 0) (get_or z 1 0) ≡ o → or_shorter o 2 (or_shorter (sign_of_one (get_or z 0 0)) 1 None) ≡ Some t → Written z t
    two None i e = one (sign_of_one (get_or z 0 0)) refl e
    two (Some s) i e = let same : record { kind = k.Sign s; len = 2 } ≡ t = cc in let more : 1 < length z = within_two z 1 (two_some (get_or z 0 0) (get_or z 1 0) s i) in
        subst (Written z) same (subst (λ x. IsToken x (k.Sign s)) (sym (take_two z more)) (written.two (get_or z 0 0) (get_or z 1 0) s i))

    three : (o : Option Sign) → sign_of_three (get_or z 0 0) (get_or z 1 0) (get_or z 2 0) ≡ o → or_shorter o 3 (or_shorter (sign_of_two (get_or z 0 0) (get_or z 1 0)) 2 (or_shorter (sign_of_one (get_or z 0 0)) 1 None)) ≡ Some t → Written z t
    three None i e = two (sign_of_two (get_or z 0 0) (get_or z 1 0)) refl e
    three (Some s) i e = let same : record { kind = k.Sign s; len = 3 } ≡ t = cc in let more : 2 < length z = within_two z 2 (three_some (get_or z 0 0) (get_or z 1 0) (get_or z 2 0) s i) in
        subst (Written z) same (subst (λ x. IsToken x (k.Sign s)) (sym (take_three z more)) (written.three (get_or z 0 0) (get_or z 1 0) (get_or z 2 0) s i))

-- ---- texts and characters

-- the bytes of a text or character with its quotes
with_quotes : (q n : ℕ) (y : List ℕ) → take (suc n) y ≡ take n y ++ q ∷ [] → take (n + 2) (q ∷ y) ≡ q ∷ take n y ++ q ∷ []
with_quotes q n y e = ap (λ (i : ℕ). take i (q ∷ y)) (let count : n + 2 ≡ suc (suc n) = omega arith in count) ∙ ap (λ x. q ∷ x) e

text_written : (y : List ℕ) (t : Found) → text (34 ∷ y) ≡ Some t → Written (34 ∷ y) t
text_written y t = go (quoted 34 y) refl
  where
    go : (o : Option ℕ) → quoted 34 y ≡ o → option_map (λ n. record { kind = k.Text; len = n + 2 }) o ≡ Some t → Written (34 ∷ y) t
    go None i h = absurd cc
    go (Some n) i h =
        let q : Quoted 34 y n = quoted_is (suc (length y)) 34 y n (omega arith) i in
        subst (Written (34 ∷ y)) (let same : record { kind = k.Text; len = n + 2 } ≡ t = cc in same)
        (subst (λ x. IsToken x k.Text) (sym (with_quotes 34 n y q.closed)) (written.text (take n y) q.bytes q.denotes))

character_written : (y : List ℕ) (t : Found) → character (39 ∷ y) ≡ Some t → Written (39 ∷ y) t
character_written y t = go (quoted 39 y) refl
  where
    by_byte : (n : ℕ) → Quoted 39 y n → (o : Option ℕ) → character_byte (take n y) ≡ o → option_map (λ b. record { kind = k.Character b; len = n + 2 }) o ≡ Some t → Written (39 ∷ y) t
    by_byte n q None c h = absurd cc
    by_byte n q (Some v) c h =
        let d = character_denotes (take n y) q.bytes v q.denotes c in
        subst (Written (39 ∷ y)) (let same : record { kind = k.Character v; len = n + 2 } ≡ t = cc in same)
        (subst (λ x. IsToken x (k.Character v)) (sym (with_quotes 39 n y q.closed)) (written.character (take n y) v (subst (written.Denotes 39 (take n y)) d.0 q.denotes) d.1))

    go : (o : Option ℕ) → quoted 39 y ≡ o → option_and_then (character_of y) o ≡ Some t → Written (39 ∷ y) t
    go None i h = absurd cc
    go (Some n) i h = by_byte n (quoted_is (suc (length y)) 39 y n (omega arith) i) (character_byte (take n y)) refl h

-- ---- all classes

pub cut_written : (z : List ℕ) (t : Found) → 0 < length z → cut z ≡ Some t → Written z t
unfolding cut
cut_written z t some =
    cond_both (is_letter (get_or z 0 0)) _ _ P (λ h e. subst (Written z) (let same : word z ≡ t = cc in same) (word_written z some h))
    (λ _. cond_both (begins_number z) _ _ P (λ _ e. number_written z t e)
    (λ _. cond_both (get_or z 0 0 == 34) _ _ P (λ h. subst (λ x. text x ≡ Some t → Written x t) (sym (cons_of 34 z (omega arith) h)) (text_written (drop 1 z) t))
    (λ _. cond_both (get_or z 0 0 == 39) _ _ P (λ h. subst (λ x. character x ≡ Some t → Written x t) (sym (cons_of 39 z (omega arith) h)) (character_written (drop 1 z) t))
    (λ _. sign_written z t some))))
  where
    P : Option Found → Type 0
    P o = o ≡ Some t → Written z t

-- what is found is the longest token that stands there
pub cut_longest : (z : List ℕ) (t : Found) → 0 < length z → begins_blank z ≡ false → cut z ≡ Some t → IsLongest (take t.len z) (drop t.len z) t.kind
cut_longest z t some blank e =
    let fits : FitsIn (length z) (Some t) = subst (FitsIn (length z)) e (cut_fits z some) in
    let len : length (take t.len z) ≡ t.len = length-take-le t.len z fits.1 in
    record {
      some = let more : 0 < t.len = fits.0 in omega arith;
      no_blank = ap begins_blank (take-append-drop t.len z) ∙ blank;
      written = cut_written z t some e;
      longest = λ u v other h i. let most : length u ≤ t.len = longest u v other t i (ap cut (sym h ∙ take-append-drop t.len z) ∙ e) in omega arith;
      ends = λ b. let begins : begins_number z ≡ true = ap begins_number (sym (take-append-drop t.len z)) ∙ b in
          subst (λ (n : ℕ). run class.Number (drop n z) ≡ 0) (sym (number_parts z t (sym (cut_number z begins) ∙ e)).0) (run_rest class.Number z);
    }

-- where nothing is found
pub cut_badly : (z : List ℕ) → 0 < length z → begins_blank z ≡ false → cut z ≡ None → BeginsBadly z
cut_badly z some space e = go (begins_number z) refl
  where
    never : (t : Found) → Some t ≡ None → ⊥
    never t h = absurd cc

    go : (b : Bool) → begins_number z ≡ b → BeginsBadly z
    go true b =
        let f = front_run class.Number z in
        subst BeginsBadly (take-append-drop (run class.Number z) z)
        (no_number (take (run class.Number z) z) (drop (run class.Number z) z) (ap begins_number (take-append-drop (run class.Number z) z) ∙ b) f.1 (run_rest class.Number z)
        (λ kind i. let s : Stands (length (take (run class.Number z) z)) kind (take (run class.Number z) z ++ drop (run class.Number z) z) = found (take (run class.Number z) z) (drop (run class.Number z) z) kind i (inr (run_rest class.Number z)) in
        never s.found (sym s.cut_is ∙ ap cut (take-append-drop (run class.Number z) z) ∙ e)))
    go false b = no_token z some space b
        (λ w rest kind h i. let s : Stands (length w) kind (w ++ rest) = found w rest kind i (inl (ap begins_number (sym h) ∙ b)) in never s.found (sym s.cut_is ∙ ap cut (sym h) ∙ e))

-- ---- the next token

pub token_written : (l : Left) (t : Lexeme) → next_of l ≡ Ok (Some t) → IsToken t.text t.kind
token_written l t h =
    let f : TokenFound l t = token_found l t h in
    let inside : l.at + f.gap.len < length l.bytes = f.inside in
    let len : length (drop (l.at + f.gap.len) l.bytes) ≡ length l.bytes - (l.at + f.gap.len) = length-drop (l.at + f.gap.len) l.bytes in
    subst (λ (x : Lexeme). IsToken x.text x.kind) f.is (cut_written (drop (l.at + f.gap.len) l.bytes) f.found (omega arith) f.cut_is)

pub token_longest : (l : Left) (t : Lexeme) → next_of l ≡ Ok (Some t) → (w rest : List ℕ) (kind : TokenKind) → drop t.start l.bytes ≡ w ++ rest → IsToken w kind → length w ≤ length t.text
token_longest l t h w rest kind =
    let f : TokenFound l t = token_found l t h in
    let bound : l.at + f.gap.len + f.found.len ≤ length l.bytes = (found_within l.bytes (l.at + f.gap.len) (begins_line l.at f.gap) f.found f.inside f.cut_is).1 in
    let len : length (drop (l.at + f.gap.len) l.bytes) ≡ length l.bytes - (l.at + f.gap.len) = length-drop (l.at + f.gap.len) l.bytes in
    let text_len : length (take f.found.len (drop (l.at + f.gap.len) l.bytes)) ≡ f.found.len = length-take-le f.found.len (drop (l.at + f.gap.len) l.bytes) (omega arith) in
    subst (λ (x : Lexeme). drop x.start l.bytes ≡ w ++ rest → IsToken w kind → length w ≤ length x.text) f.is
    (λ e i. let most : length w ≤ f.found.len = longest w rest kind f.found i (ap cut (sym e) ∙ f.cut_is) in omega arith)
