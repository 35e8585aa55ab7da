-- What is found in front of bytes lies within them.
use Rattle.std.proofs.Common.{◌≡◌, ◌≢◌, ℕ, zero, suc, ◌+◌, ◌-◌, ◌<◌, ◌≤◌, Bool, true, false, cond, ◌||◌, ◌&&◌, ◌==◌, nat_lt, List, [], ◌∷◌, length, take, drop, get_or, Option, Some, None, Result, Ok, Err, refl, sym, ap, subst, ◌∙◌, option_and_then, arith}
use Rattle.std.specs.Option.{option_map}
use Rattle.std.proofs.lemmas.Bool.{cond_both, and_parts, or_right, eqb-true, eqb-false, ltb-true, ltb-false, lt-ltb, ne_eqb}
use Rattle.std.proofs.lemmas.List.{get_or_past, length-drop, drop-drop}
use Rattle.c_lexer.specs.declared.token.TokenKind.{TokenKind}
use Rattle.c_lexer.specs.declared.token.TokenKind.TheVariants as k
use Rattle.c_lexer.specs.declared.token.Sign.{Sign}
use Rattle.c_lexer.specs.declared.bytes.Class.{Class}
use Rattle.c_lexer.specs.declared.bytes.Class.TheVariants as class
use Rattle.c_lexer.specs.declared.texts.Escape.{Escape}
use Rattle.c_lexer.specs.declared.pieces.Found.{Found}
use Rattle.c_lexer.specs.declared.pieces.Gap.{Gap}
use Rattle.c_lexer.specs.Bytes.{is_in, is_letter, is_digit, begins_number, run, ends_comment, comment_end}
use Rattle.c_lexer.specs.Signs.{sign_of_one, sign_of_two, sign_of_three, doubled_sign, or_shorter, sign}
use Rattle.c_lexer.specs.Numbers.{number_of, number}
use Rattle.c_lexer.specs.Texts.{quoted, quoted_behind, escape, text, character_byte, character_of, character}
use Rattle.c_lexer.specs.Blanks.{gap, block_comment, blank, blanks_then, blanks_within, blanks}
use Rattle.c_lexer.specs.Cut.{word, cut}

-- a token has a byte at least, and lies within a number of bytes
abbrev pub FitsIn : ℕ → Option Found → Type 0
FitsIn n (Some t) = (0 < t.len) × (t.len ≤ n)
FitsIn n None = Unit {0}

-- white space and comments lie within a number of bytes
abbrev pub BlankIn : ℕ → Option Gap → Type 0
BlankIn n (Some g) = g.len ≤ n
BlankIn n None = 0 < n

pub run_within : (c : Class) (z : List ℕ) → run c z ≤ length z
run_within c [] = omega arith
run_within c (b ∷ z) = cond_both (is_in c b) (suc (run c z)) 0 (λ n. n ≤ length (b ∷ z)) (λ h. let more : run c z ≤ length z = run_within c z in omega arith) (λ h. omega arith)

pub run_some : (c : Class) (z : List ℕ) → is_in c (get_or z 0 0) ≡ true → 0 < length z → 0 < run c z
run_some c [] h some = absurd (omega arith)
run_some c (b ∷ z) h some = rw h (omega arith)

-- a byte that passes a test that 0 does not pass stands within
pub there : (P : ℕ → Bool) (z : List ℕ) (i : ℕ) → P 0 ≡ false → P (get_or z i 0) ≡ true → i < length z
there P z i none h = go (nat_lt i (length z)) refl
  where
    go : (t : Bool) → nat_lt i (length z) ≡ t → i < length z
    go true e = ltb-true i (length z) e
    go false e = let past : get_or z i 0 ≡ 0 = get_or_past z i 0 (ltb-false i (length z) e) in let both : true ≡ false = sym h ∙ ap P past ∙ none in absurd cc

drop_len : (n : ℕ) (z : List ℕ) → length (drop n z) ≡ length z - n
drop_len n z = length-drop n z

-- ---- words

word_fits : (z : List ℕ) → 0 < length z → is_letter (get_or z 0 0) ≡ true → FitsIn (length z) (Some (word z))
word_fits z some h = (run_some class.Word z (or_right (is_digit (get_or z 0 0)) (is_letter (get_or z 0 0)) h) some, run_within class.Word z)

-- ---- signs

doubled_some : (b : ℕ) (k : Sign) → doubled_sign b ≡ Some k → 0 < b
doubled_some zero k h = absurd cc
doubled_some (suc b) k h = omega arith

pub two_some : (b c : ℕ) (k : Sign) → sign_of_two b c ≡ Some k → 0 < c
two_some b c k = cond_both (c == 61) _ _ (λ o. o ≡ Some k → 0 < c) (λ e h. let is : c ≡ 61 = eqb-true c 61 e in omega arith)
    (λ e. cond_both (b == c) _ _ (λ o. o ≡ Some k → 0 < c) (λ f h. let same : b ≡ c = eqb-true b c f in let some : 0 < b = doubled_some b k h in omega arith)
    (λ f. cond_both (b == 45 && c == 62) _ _ (λ o. o ≡ Some k → 0 < c) (λ g h. let is : c ≡ 62 = eqb-true c 62 (and_parts (b == 45) (c == 62) g).1 in omega arith) (λ g h. absurd cc)))

pub three_some : (b c d : ℕ) (k : Sign) → sign_of_three b c d ≡ Some k → 0 < d
three_some b c d k = cond_both (b == 60 && c == 60 && d == 61) _ _ (λ o. o ≡ Some k → 0 < d) (λ e h. let is : d ≡ 61 = last 60 60 61 e in omega arith)
    (λ e. cond_both (b == 62 && c == 62 && d == 61) _ _ (λ o. o ≡ Some k → 0 < d) (λ f h. let is : d ≡ 61 = last 62 62 61 f in omega arith)
    (λ f. cond_both (b == 46 && c == 46 && d == 46) _ _ (λ o. o ≡ Some k → 0 < d) (λ g h. let is : d ≡ 46 = last 46 46 46 g in omega arith) (λ g h. absurd cc)))
  where
    last : (x y w : ℕ) → (b == x && c == y && d == w) ≡ true → d ≡ w
    last x y w e = eqb-true d w (and_parts (b == x && c == y) (d == w) e).1

pub within_two : (z : List ℕ) (i : ℕ) → 0 < get_or z i 0 → i < length z
within_two z i h = there (λ b. nat_lt 0 b) z i refl (lt-ltb 0 (get_or z i 0) h)

sign_fits : (z : List ℕ) → 0 < length z → FitsIn (length z) (sign z)
sign_fits z some = three (sign_of_three (get_or z 0 0) (get_or z 1 0) (get_or z 2 0)) refl
  where
    one : (o : Option Sign) → FitsIn (length z) (or_shorter o 1 None)
    one None = tt
    one (Some k) = (omega arith, omega arith)

    two : (o : Option Sign) → sign_of_two (get_or z 0 0) (get_or z 1 0) ≡ o → FitsIn (length z) (or_shorter o 2 (or_shorter (sign_of_one (get_or z 0 0)) 1 None))
    two None e = one (sign_of_one (get_or z 0 0))
    two (Some k) e = let enough : 1 < length z = within_two z 1 (two_some (get_or z 0 0) (get_or z 1 0) k e) in (omega arith, omega arith)

    three : (o : Option Sign) → sign_of_three (get_or z 0 0) (get_or z 1 0) (get_or z 2 0) ≡ o
        → FitsIn (length z) (or_shorter o 3 (or_shorter (sign_of_two (get_or z 0 0) (get_or z 1 0)) 2 (or_shorter (sign_of_one (get_or z 0 0)) 1 None)))
    three None e = two (sign_of_two (get_or z 0 0) (get_or z 1 0)) refl
    three (Some k) e = let enough : 2 < length z = within_two z 2 (three_some (get_or z 0 0) (get_or z 1 0) (get_or z 2 0) k e) in (omega arith, omega arith)

-- ---- numbers

number_begin : (z : List ℕ) → begins_number z ≡ true → is_in class.Number (get_or z 0 0) ≡ true
number_begin z = go (get_or z 0 0)
  where
    by : (d l p : Bool) (x : Bool) → (d || (p && x)) ≡ true → (d || l || p) ≡ true
    by true l p x h = refl
    by false true p x h = refl
    by false false true x h = refl
    by false false false x h = absurd cc

    go : (b : ℕ) → (is_digit b || (b == 46 && is_digit (get_or z 1 0))) ≡ true → is_in class.Number b ≡ true
    go b h = by (is_digit b) (is_letter b) (b == 46) (is_digit (get_or z 1 0)) h

number_fits : (z : List ℕ) → 0 < length z → begins_number z ≡ true → FitsIn (length z) (number z)
number_fits z some h = go (number_of (take (run class.Number z) z))
  where
    go : (o : Option TokenKind) → FitsIn (length z) (option_map (λ kind. record { kind = kind; len = run class.Number z }) o)
    go None = tt
    go (Some kind) = (run_some class.Number z (number_begin z h) some, run_within class.Number z)

-- ---- texts and characters

below_one_more : (n : ℕ) (o : Option ℕ) → ((m : ℕ) → o ≡ Some m → m < n) → (m : ℕ) → option_map (λ k. suc k) o ≡ Some m → m < suc n
below_one_more n None h m e = absurd cc
below_one_more n (Some k) h m e = let small : k < n = h k refl in let same : suc k ≡ m = cc in omega arith

pub quoted_within : (k q : ℕ) (z : List ℕ) (n : ℕ) → quoted_behind k q z ≡ Some n → n < length z
quoted_within zero q [] n h = absurd cc
quoted_within (suc k) q [] n h = absurd cc
quoted_within (suc k) q (b ∷ z) n h = below_one_more (length z) (quoted_behind k q z) (λ m e. quoted_within k q z m e) n h
quoted_within zero q (b ∷ z) n given = cond_both (b == q) _ _ P (λ e h. let same : 0 ≡ n = cc in omega arith)
    (λ e. cond_both (b == 10) _ _ P (λ f h. absurd cc)
    (λ f. cond_both (b == 92) _ _ P (λ g. escaped (escape z) (λ k m i. quoted_within k q z m i)) (λ g h. below_one_more (length z) (quoted_behind 0 q z) (λ m i. quoted_within 0 q z m i) n h))) given
  where
    P : Option ℕ → Type 0
    P o = o ≡ Some n → n < suc (length z)

    escaped : (o : Option Escape) → ((k m : ℕ) → quoted_behind k q z ≡ Some m → m < length z) → P (option_and_then (λ e. option_map (λ m. suc m) (quoted_behind e.len q z)) o)
    escaped None further h = absurd cc
    escaped (Some e) further h = below_one_more (length z) (quoted_behind e.len q z) (further e.len) n h

text_fits : (z : List ℕ) → 0 < length z → FitsIn (length z) (text z)
text_fits z some = go (quoted 34 (drop 1 z)) refl
  where
    go : (o : Option ℕ) → quoted 34 (drop 1 z) ≡ o → FitsIn (length z) (option_map (λ n. record { kind = k.Text; len = n + 2 }) o)
    go None e = tt
    go (Some n) e = let small : n < length (drop 1 z) = quoted_within 0 34 (drop 1 z) n e in let len : length (drop 1 z) ≡ length z - 1 = drop_len 1 z in (omega arith, omega arith)

character_fits : (z : List ℕ) → 0 < length z → FitsIn (length z) (character z)
character_fits z some = go (quoted 39 (drop 1 z)) refl
  where
    found : (n : ℕ) → n < length (drop 1 z) → (o : Option ℕ) → FitsIn (length z) (option_map (λ b. record { kind = k.Character b; len = n + 2 }) o)
    found n small None = tt
    found n small (Some b) = let len : length (drop 1 z) ≡ length z - 1 = drop_len 1 z in (omega arith, omega arith)

    go : (o : Option ℕ) → quoted 39 (drop 1 z) ≡ o → FitsIn (length z) (option_and_then (character_of (drop 1 z)) o)
    go None e = tt
    go (Some n) e = found n (quoted_within 0 39 (drop 1 z) n e) (character_byte (take n (drop 1 z)))

-- ---- tokens

pub cut_fits : (z : List ℕ) → 0 < length z → FitsIn (length z) (cut z)
unfolding cut
cut_fits z some =
    cond_both (is_letter (get_or z 0 0)) _ _ (FitsIn (length z)) (λ h. word_fits z some h)
    (λ _. cond_both (begins_number z) _ _ (FitsIn (length z)) (λ h. number_fits z some h)
    (λ _. cond_both (get_or z 0 0 == 34) _ _ (FitsIn (length z)) (λ _. text_fits z some)
    (λ _. cond_both (get_or z 0 0 == 39) _ _ (FitsIn (length z)) (λ _. character_fits z some) (λ _. sign_fits z some))))

-- ---- white space and comments

pub comment_place : (z : List ℕ) (n : ℕ) → comment_end z ≡ Some n → n + 2 ≤ length z
comment_place [] n h = absurd cc
comment_place (b ∷ z) n given = cond_both (ends_comment (b ∷ z)) _ _ (λ o. o ≡ Some n → n + 2 ≤ suc (length z))
    (λ e h. let two : 1 < suc (length z) = there (λ x. x == 47) (b ∷ z) 1 refl (and_parts (b == 42) (get_or z 0 0 == 47) e).1 in let same : 0 ≡ n = cc in omega arith)
    (λ e h. more (comment_end z) (λ m f. comment_place z m f) n h) given
  where
    more : (o : Option ℕ) → ((m : ℕ) → o ≡ Some m → m + 2 ≤ length z) → (n : ℕ) → option_map (λ m. suc m) o ≡ Some n → n + 2 ≤ suc (length z)
    more None further n h = absurd cc
    more (Some m) further n h = let small : m + 2 ≤ length z = further m refl in let same : suc m ≡ n = cc in omega arith

block_fits : (z : List ℕ) → 1 < length z → BlankIn (length z) (block_comment z)
block_fits z two = go (comment_end (drop 2 z)) refl
  where
    go : (o : Option ℕ) → comment_end (drop 2 z) ≡ o → BlankIn (length z) (option_map (λ n. gap (n + 4) false) o)
    go None e = omega arith
    go (Some n) e = let small : n + 2 ≤ length (drop 2 z) = comment_place (drop 2 z) n e in let len : length (drop 2 z) ≡ length z - 2 = drop_len 2 z in omega arith

pub blank_fits : (z : List ℕ) → BlankIn (length z) (blank z)
blank_fits z = cond_both (is_in class.Space (get_or z 0 0)) _ _ (BlankIn (length z)) (λ _. run_within class.Space z)
    (λ _. cond_both (get_or z 0 0 == 47 && get_or z 1 0 == 47) _ _ (BlankIn (length z)) (λ _. run_within class.NotLineFeed z)
    (λ _. cond_both (get_or z 0 0 == 47 && get_or z 1 0 == 42) _ _ (BlankIn (length z))
    (λ k. block_fits z (there (λ b. b == 42) z 1 refl (and_parts (get_or z 0 0 == 47) (get_or z 1 0 == 42) k).1))
    (λ _. omega arith)))

-- what is found lies from a place on and up to another
abbrev pub BlankFrom : ℕ → ℕ → Result Gap ℕ → Type 0
BlankFrom at n (Ok g) = (at ≤ g.len) × (g.len ≤ n)
BlankFrom at n (Err p) = (at ≤ p) × (p < n)

then_fits : (at : ℕ) (breaks : Bool) (z : List ℕ) (further : Gap → Result Gap ℕ) (r : Option Gap) → BlankIn (length z) r → ((g : Gap) → g.len ≤ length z → BlankFrom at (at + length z) (further g)) → BlankFrom at (at + length z) (blanks_then at breaks r further)
then_fits at breaks z further None h more = (omega arith, omega arith)
then_fits at breaks z further (Some g) h more = cond_both (g.len == 0) _ _ (BlankFrom at (at + length z)) (λ _. (omega arith, omega arith)) (λ _. more g h)

from_later : (at later end final : ℕ) (r : Result Gap ℕ) → at ≤ later → end ≤ final → BlankFrom later end r → BlankFrom at final r
from_later at later end final (Ok g) h k b = let x = b.0 in let y = b.1 in (omega arith, omega arith)
from_later at later end final (Err p) h k b = let x = b.0 in let y = b.1 in (omega arith, omega arith)

pub blanks_fit : (f at : ℕ) (breaks : Bool) (z : List ℕ) → BlankFrom at (at + length z) (blanks_within f at breaks z)
unfolding blanks_within
blanks_fit zero at breaks z = (omega arith, omega arith)
blanks_fit (suc f) at breaks z = then_fits at breaks z (λ g. blanks_within f (at + g.len) (breaks || g.breaks_line) (drop g.len z)) (blank z) (blank_fits z)
    (λ g h. let len : length (drop g.len z) ≡ length z - g.len = drop_len g.len z in from_later at (at + g.len) (at + g.len + length (drop g.len z)) (at + length z) (blanks_within f (at + g.len) (breaks || g.breaks_line) (drop g.len z)) (omega arith) (omega arith) (blanks_fit f (at + g.len) (breaks || g.breaks_line) (drop g.len z)))

-- ---- the bound on the number of pieces does not matter

then_same : (at : ℕ) (breaks : Bool) (r : Option Gap) (f g : Gap → Result Gap ℕ) → ((p : Gap) → r ≡ Some p → 0 < p.len → f p ≡ g p) → blanks_then at breaks r f ≡ blanks_then at breaks r g
then_same at breaks None f g h = refl
then_same at breaks (Some p) f g h = go (p.len == 0) refl
  where
    go : (t : Bool) → (p.len == 0) ≡ t → cond t (Ok (gap at breaks)) (f p) ≡ cond t (Ok (gap at breaks)) (g p)
    go true e = refl
    go false e = h p refl (let some : p.len ≢ 0 = eqb-false p.len 0 e in omega arith)

pub enough : (f g at : ℕ) (breaks : Bool) (z : List ℕ) → length z < f → length z < g → blanks_within f at breaks z ≡ blanks_within g at breaks z
unfolding blanks_within
enough zero g at breaks z a b = absurd (omega arith)
enough (suc f) zero at breaks z a b = absurd (omega arith)
enough (suc f) (suc g) at breaks z a b = then_same at breaks (blank z) (λ p. blanks_within f (at + p.len) (breaks || p.breaks_line) (drop p.len z)) (λ p. blanks_within g (at + p.len) (breaks || p.breaks_line) (drop p.len z))
    (λ p e some. let len : length (drop p.len z) ≡ length z - p.len = drop_len p.len z in let within : p.len ≤ length z = subst (BlankIn (length z)) e (blank_fits z) in
    enough f g (at + p.len) (breaks || p.breaks_line) (drop p.len z) (omega arith) (omega arith))

-- ---- the pieces one after another

pub blanks_begin : (z : List ℕ) → blanks z ≡ blanks_within (suc (length z - 0)) 0 false (drop 0 z)
blanks_begin z = let e : suc (length z) ≡ suc (length z - 0) = omega arith in ap (λ n. blanks_within n 0 false z) e

module _ (z : List ℕ) (at : ℕ) (breaks : Bool) (within : at ≤ length z) (r : Result Gap ℕ) (same : r ≡ blanks_within (suc (length z - at)) at breaks (drop at z)) where
  abbrev further : Gap → Result Gap ℕ
  further g = blanks_within (length z - at) (at + g.len) (breaks || g.breaks_line) (drop g.len (drop at z))

  pub blanks_stop : (g : Gap) → g.len ≡ 0 → blank (drop at z) ≡ Some g → r ≡ Ok (gap at breaks)
  unfolding blanks_within
  blanks_stop g none e = same ∙ ap (λ b. blanks_then at breaks b further) e ∙ ap (λ (n : ℕ). cond (n == 0) (Ok (gap at breaks)) (further g)) none

  pub blanks_broken : blank (drop at z) ≡ None → r ≡ Err at
  unfolding blanks_within
  blanks_broken e = same ∙ ap (λ b. blanks_then at breaks b further) e

  pub blanks_more_within : (g : Gap) → blank (drop at z) ≡ Some g → at + g.len ≤ length z
  blanks_more_within g e = let len : length (drop at z) ≡ length z - at = drop_len at z in let more : g.len ≤ length (drop at z) = subst (BlankIn (length (drop at z))) e (blank_fits (drop at z)) in omega arith

  pub blanks_more : (g : Gap) → g.len ≢ 0 → blank (drop at z) ≡ Some g → r ≡ blanks_within (suc (length z - (at + g.len))) (at + g.len) (breaks || g.breaks_line) (drop (at + g.len) z)
  unfolding blanks_within
  blanks_more g some e =
      let more : at + g.len ≤ length z = blanks_more_within g e in
      let len : length (drop at z) ≡ length z - at = drop_len at z in
      let rest : length (drop g.len (drop at z)) ≡ length (drop at z) - g.len = drop_len g.len (drop at z) in
      same ∙ ap (λ b. blanks_then at breaks b further) e
      ∙ ap (λ t. cond t (Ok (gap at breaks)) (further g)) (ne_eqb g.len 0 some)
      ∙ enough (length z - at) (suc (length z - (at + g.len))) (at + g.len) (breaks || g.breaks_line) (drop g.len (drop at z)) (omega arith) (omega arith)
      ∙ ap (blanks_within (suc (length z - (at + g.len))) (at + g.len) (breaks || g.breaks_line)) (drop-drop g.len at z)
