-- Tokens that cover a text are its tokens.
use Rattle.std.proofs.Common.{◌≡◌, inl, inr, ℕ, zero, suc, ◌+◌, ◌-◌, ◌<◌, ◌≤◌, Bool, true, false, cond, not, ◌&&◌, ◌||◌, ◌==◌, nat_lt, List, [], ◌∷◌, ◌++◌, length, take, drop, get_or, append_assoc, append-nil, Option, Some, None, Result, Ok, Err, refl, sym, ap, ap₂, subst, ◌∙◌, arith}
use Rattle.std.specs.Option.{option_map}
use Rattle.std.proofs.lemmas.Bool.{cond_both, and_parts, eqb-true, ne_eqb, lt-ltb}
use Rattle.std.proofs.lemmas.List.{take-append-drop, length-drop, length-take-le, drop-drop, length-append}
use Rattle.c_lexer.specs.declared.token.BadToken.{BadToken}
use Rattle.c_lexer.specs.declared.token.TokenKind.{TokenKind}
use Rattle.c_lexer.specs.declared.bytes.Class.TheVariants as class
use Rattle.c_lexer.specs.declared.pieces.Found.{Found}
use Rattle.c_lexer.specs.declared.pieces.Gap.{Gap}
use Rattle.c_lexer.specs.Bytes.{is_space, begins_number, run, ends_comment, comment_end}
use Rattle.c_lexer.specs.Blanks.{gap, white_space, line_comment, block_comment, blank, blanks_then, blanks_within, blanks}
use Rattle.c_lexer.specs.Numbers.{number}
use Rattle.c_lexer.specs.Cut.{cut}
use Rattle.c_lexer.specs.Tokens.{Left, Lexeme, bad_token, begins_line, next_of, Tokens, end, broken, token}
use Rattle.c_lexer.specs.Written.{IsToken}
use Rattle.c_lexer.specs.Laws.{begins_blank, EndsLine, Blanks, none, space, line, block, IsLongest, BeginsBadly, open_comment, no_number, no_token, Covers, last, stopped, next}
use Rattle.c_lexer.proofs.FitLemmas.{FitsIn, cut_fits, enough}
use Rattle.c_lexer.proofs.ListLemmas.{drop_front, take_front, run_append}
use Rattle.c_lexer.proofs.NextLemmas.{at_end, at_token, next_gap, next_broken}
use Rattle.c_lexer.proofs.NumberLemmas.{number_parts, number_written}
use Rattle.c_lexer.proofs.LongestLemmas.{Stands, Ends, found, cut_number}
use Rattle.c_lexer.proofs.WrittenLemmas.{cut_written}
use Rattle.c_lexer.proofs.CoverLemmas.{less_suc}

-- ---- white space and comments

-- nothing is skipped where neither white space nor a comment begins
no_gap : (z : List ℕ) → begins_blank z ≡ false → blank z ≡ Some (gap 0 false)
no_gap z h = go (is_space (get_or z 0 0)) (get_or z 0 0 == 47) (get_or z 1 0 == 47) (get_or z 1 0 == 42) h
  where
    go : (s a b c : Bool) → (s || (a && (b || c))) ≡ false → cond s (Some (white_space z)) (cond (a && b) (Some (line_comment z)) (cond (a && c) (block_comment z) (Some (gap 0 false)))) ≡ Some (gap 0 false)
    go true a b c h = absurd cc
    go false false b c h = refl
    go false true true c h = absurd cc
    go false true false true h = absurd cc
    go false true false false h = refl

white_flag : (c : ℕ) (z : List ℕ) → is_space c ≡ true → (white_space (c ∷ z)).breaks_line ≡ (c == 10 || (white_space z).breaks_line)
white_flag c z h = rw h (go (c == 10))
  where
    go : (t : Bool) → nat_lt (cond (not t) (suc (run class.NotLineFeed (take (run class.Space z) z))) 0) (suc (run class.Space z)) ≡ (t || (white_space z).breaks_line)
    go true = lt-ltb 0 (suc (run class.Space z)) (omega arith)
    go false = less_suc (run class.NotLineFeed (take (run class.Space z) z)) (run class.Space z)

space_first : (c : ℕ) (z : List ℕ) → is_space c ≡ true → blank (c ∷ z) ≡ Some (gap (suc (run class.Space z)) (c == 10 || (white_space z).breaks_line))
space_first c z h = ap (λ t. cond t (Some (white_space (c ∷ z))) (cond (c == 47 && get_or z 0 0 == 47) (Some (line_comment (c ∷ z))) (cond (c == 47 && get_or z 0 0 == 42) (block_comment (c ∷ z)) (Some (gap 0 false))))) h
    ∙ ap₂ (λ n b. Some (gap n b)) (ap (λ t. cond t (suc (run class.Space z)) 0) h) (white_flag c z h)

or_false : (b : Bool) → (b || false) ≡ b
or_false true = refl
or_false false = refl

or_twice : (a b c : Bool) → (a || (b || c)) ≡ ((a || b) || c)
or_twice true b c = refl
or_twice false b c = refl

-- one byte of white space can be skipped alone
space_step : (f at : ℕ) (a : Bool) (b : ℕ) (y : List ℕ) → is_space b ≡ true → length y < f → blanks_within (suc f) at a (b ∷ y) ≡ blanks_within f (at + 1) (a || b == 10) y
unfolding blanks_within
space_step f at a b y h small =
    ap (λ o. blanks_then at a o (λ g. blanks_within f (at + g.len) (a || g.breaks_line) (drop g.len (b ∷ y)))) (space_first b y h)
    ∙ ap (λ t. cond t (Ok (gap at a)) (blanks_within f (at + suc (run class.Space y)) (a || (b == 10 || (white_space y).breaks_line)) (drop (run class.Space y) y))) (ne_eqb (suc (run class.Space y)) 0 (λ (e : suc (run class.Space y) ≡ 0). absurd (omega arith)))
    ∙ rest f y small
  where
    goes_on : (f c : ℕ) (z : List ℕ) → suc (length z) < suc f → is_space c ≡ true → blanks_within (suc f) (at + suc (suc (run class.Space z))) (a || (b == 10 || (c == 10 || (white_space z).breaks_line))) (drop (run class.Space z) z) ≡ blanks_within (suc f) (at + 1) (a || b == 10) (c ∷ z)
    goes_on f c z small s =
        let len : length (drop (run class.Space z) z) ≡ length z - run class.Space z = length-drop (run class.Space z) z in
        let count : at + suc (suc (run class.Space z)) ≡ at + 1 + suc (run class.Space z) = omega arith in
        ap₂ (λ n t. blanks_within (suc f) n t (drop (run class.Space z) z)) count (or_twice a (b == 10) (c == 10 || (white_space z).breaks_line))
        ∙ enough (suc f) f (at + 1 + suc (run class.Space z)) ((a || b == 10) || (c == 10 || (white_space z).breaks_line)) (drop (run class.Space z) z) (omega arith) (omega arith)
        ∙ sym (ap (λ o. blanks_then (at + 1) (a || b == 10) o (λ g. blanks_within f (at + 1 + g.len) ((a || b == 10) || g.breaks_line) (drop g.len (c ∷ z)))) (space_first c z s)
        ∙ ap (λ t. cond t (Ok (gap (at + 1) (a || b == 10))) (blanks_within f (at + 1 + suc (run class.Space z)) ((a || b == 10) || (c == 10 || (white_space z).breaks_line)) (drop (run class.Space z) z))) (ne_eqb (suc (run class.Space z)) 0 (λ (e : suc (run class.Space z) ≡ 0). absurd (omega arith))))

    by_space : (f c : ℕ) (z : List ℕ) → suc (length z) < suc f → (t : Bool) → is_space c ≡ t
        → blanks_within (suc f) (at + suc (cond t (suc (run class.Space z)) 0)) (a || (b == 10 || nat_lt (run class.NotLineFeed (take (cond t (suc (run class.Space z)) 0) (c ∷ z))) (cond t (suc (run class.Space z)) 0))) (drop (cond t (suc (run class.Space z)) 0) (c ∷ z)) ≡ blanks_within (suc f) (at + 1) (a || b == 10) (c ∷ z)
    by_space f c z small true s = ap (λ t. blanks_within (suc f) (at + suc (suc (run class.Space z))) (a || (b == 10 || t)) (drop (run class.Space z) z)) (sym (ap (λ t. nat_lt (run class.NotLineFeed (take (cond t (suc (run class.Space z)) 0) (c ∷ z))) (cond t (suc (run class.Space z)) 0)) s) ∙ white_flag c z s) ∙ goes_on f c z small s
    by_space f c z small false s = ap (λ t. blanks_within (suc f) (at + 1) (a || t) (c ∷ z)) (or_false (b == 10))

    rest : (f : ℕ) (y : List ℕ) → length y < f → blanks_within f (at + suc (run class.Space y)) (a || (b == 10 || (white_space y).breaks_line)) (drop (run class.Space y) y) ≡ blanks_within f (at + 1) (a || b == 10) y
    rest f [] small = ap (λ t. blanks_within f (at + 1) (a || t) []) (or_false (b == 10))
    rest zero (c ∷ z) small = absurd (omega arith)
    rest (suc f) (c ∷ z) small = by_space f c z small (is_space c) refl

-- a comment's end is found where more stands behind it
comment_more : (u v : List ℕ) (n : ℕ) → comment_end u ≡ Some n → comment_end (u ++ v) ≡ Some n
comment_more [] v n h = absurd cc
comment_more (b ∷ []) v n h = absurd (alone h)
  where
    alone : comment_end (b ∷ []) ≡ Some n → ⊥
    alone given = cond_both (ends_comment (b ∷ [])) _ _ (λ o. o ≡ Some n → ⊥) (λ e h. let two : 0 ≡ 47 = eqb-true 0 47 (and_parts (b == 42) (0 == 47) e).1 in omega arith) (λ _ h. absurd cc) given
comment_more (b ∷ c ∷ u) v n given = go (ends_comment (b ∷ c ∷ u)) refl (λ m h. comment_more (c ∷ u) v m h) given
  where
    later : (o p : Option ℕ) → ((m : ℕ) → o ≡ Some m → p ≡ Some m) → option_map (λ m. suc m) o ≡ Some n → option_map (λ m. suc m) p ≡ Some n
    later None p more h = absurd cc
    later (Some m) p more h = ap (option_map (λ m. suc m)) (more m refl) ∙ h

    go : (t : Bool) → ends_comment (b ∷ c ∷ u) ≡ t → ((m : ℕ) → comment_end (c ∷ u) ≡ Some m → comment_end ((c ∷ u) ++ v) ≡ Some m)
        → cond t (Some 0) (option_map (λ m. suc m) (comment_end (c ∷ u))) ≡ Some n → cond t (Some 0) (option_map (λ m. suc m) (comment_end ((c ∷ u) ++ v))) ≡ Some n
    go true e more h = h
    go false e more h = later (comment_end (c ∷ u)) (comment_end ((c ∷ u) ++ v)) more h

ends_run : (z : List ℕ) → EndsLine z → run class.NotLineFeed z ≡ 0
ends_run [] h = refl
ends_run (b ∷ z) h = subst (λ x. run class.NotLineFeed (x ∷ z) ≡ 0) (sym h) refl

-- a piece that is skipped
piece_step : (f at : ℕ) (a : Bool) (z y : List ℕ) (n : ℕ) → 0 < n → blank z ≡ Some (gap n false) → drop n z ≡ y → blanks_within (suc f) at a z ≡ blanks_within f (at + n) a y
unfolding blanks_within
piece_step f at a z y n some e d =
    ap (λ o. blanks_then at a o (λ g. blanks_within f (at + g.len) (a || g.breaks_line) (drop g.len z))) e
    ∙ ap (λ t. cond t (Ok (gap at a)) (blanks_within f (at + n) (a || false) (drop n z))) (ne_eqb n 0 (λ (e : n ≡ 0). absurd (omega arith)))
    ∙ ap₂ (λ t x. blanks_within f (at + n) t x) (or_false a) d

line_step : (f at : ℕ) (a : Bool) (body y : List ℕ) → run class.NotLineFeed body ≡ length body → EndsLine y → blanks_within (suc f) at a (47 ∷ 47 ∷ body ++ y) ≡ blanks_within f (at + suc (suc (length body))) a y
line_step f at a body y all ends =
    let counted : run class.NotLineFeed (body ++ y) ≡ length body + run class.NotLineFeed y = run_append class.NotLineFeed body y all in
    let nothing : run class.NotLineFeed y ≡ 0 = ends_run y ends in
    let len : run class.NotLineFeed (body ++ y) ≡ length body = omega arith in
    piece_step f at a (47 ∷ 47 ∷ body ++ y) y (suc (suc (length body))) (omega arith) (ap (λ (n : ℕ). Some (gap (suc (suc n)) false)) len) (drop_front body y)

block_step : (f at : ℕ) (a : Bool) (body y : List ℕ) → comment_end (body ++ 42 ∷ 47 ∷ []) ≡ Some (length body) → blanks_within (suc f) at a (47 ∷ 42 ∷ body ++ 42 ∷ 47 ∷ y) ≡ blanks_within f (at + (length body + 4)) a y
block_step f at a body y e =
    let ends : comment_end (body ++ 42 ∷ 47 ∷ y) ≡ Some (length body) = ap comment_end (sym (append_assoc body (42 ∷ 47 ∷ []) y)) ∙ comment_more (body ++ 42 ∷ 47 ∷ []) y (length body) e in
    piece_step f at a (47 ∷ 42 ∷ body ++ 42 ∷ 47 ∷ y) y (length body + 4) (omega arith) (ap (option_map (λ n. gap (n + 4) false)) ends)
    (ap (λ (n : ℕ). drop n (47 ∷ 42 ∷ body ++ 42 ∷ 47 ∷ y)) (let count : length body + 4 ≡ suc (suc (suc (suc (length body)))) = omega arith in count) ∙ behind body)
  where
    behind : (u : List ℕ) → drop (suc (suc (length u))) (u ++ 42 ∷ 47 ∷ y) ≡ y
    behind [] = refl
    behind (b ∷ u) = behind u

-- what is answered behind white space and comments, by what is answered where they end
module _ (rest : List ℕ) (answer : ℕ → Bool → Result Gap ℕ) (there : (f at : ℕ) (a : Bool) → length rest < f → blanks_within f at a rest ≡ answer at a) where
  skips : (breaks : Bool) (w : List ℕ) → Blanks breaks w rest → (f at : ℕ) (a : Bool) → length (w ++ rest) < f → blanks_within f at a (w ++ rest) ≡ answer (at + length w) (a || breaks)
  skips _ _ none f at a small = there f at a small ∙ ap₂ answer (let e : at ≡ at + 0 = omega arith in e) (sym (or_false a))
  skips _ _ (space b {breaks} {w} h more) zero at a small = absurd (omega arith)
  skips _ _ (space b {breaks} {w} h more) (suc f) at a small =
      space_step f at a b (w ++ rest) h (omega arith) ∙ skips breaks w more f (at + 1) (a || b == 10) (omega arith) ∙ ap₂ answer (let e : at + 1 + length w ≡ at + suc (length w) = omega arith in e) (sym (or_twice a (b == 10) breaks))
  skips _ _ (line body {breaks} {w} all ends more) zero at a small = absurd (omega arith)
  skips _ _ (line body {breaks} {w} all ends more) (suc f) at a small =
      let len : length (body ++ w) ≡ length body + length w = length-append body w in
      let len_all : length ((body ++ w) ++ rest) ≡ length (body ++ w) + length rest = length-append (body ++ w) rest in
      let len_rest : length (w ++ rest) ≡ length w + length rest = length-append w rest in
      ap (λ x. blanks_within (suc f) at a (47 ∷ 47 ∷ x)) (append_assoc body w rest) ∙ line_step f at a body (w ++ rest) all ends
      ∙ skips breaks w more f (at + suc (suc (length body))) a (omega arith) ∙ ap (λ n. answer n (a || breaks)) (let e : at + suc (suc (length body)) + length w ≡ at + suc (suc (length (body ++ w))) = omega arith in e)
  skips _ _ (block body {breaks} {w} e more) zero at a small = absurd (omega arith)
  skips _ _ (block body {breaks} {w} e more) (suc f) at a small =
      let len : length (body ++ 42 ∷ 47 ∷ w) ≡ length body + suc (suc (length w)) = length-append body (42 ∷ 47 ∷ w) in
      let len_all : length ((body ++ 42 ∷ 47 ∷ w) ++ rest) ≡ length (body ++ 42 ∷ 47 ∷ w) + length rest = length-append (body ++ 42 ∷ 47 ∷ w) rest in
      let len_rest : length (w ++ rest) ≡ length w + length rest = length-append w rest in
      ap (λ x. blanks_within (suc f) at a (47 ∷ 42 ∷ x)) (append_assoc body (42 ∷ 47 ∷ w) rest) ∙ block_step f at a body (w ++ rest) e
      ∙ skips breaks w more f (at + (length body + 4)) a (omega arith) ∙ ap (λ n. answer n (a || breaks)) (let e : at + (length body + 4) + length w ≡ at + suc (suc (length (body ++ 42 ∷ 47 ∷ w))) = omega arith in e)

-- where nothing more is skipped
stays : (rest : List ℕ) → blank rest ≡ Some (gap 0 false) → (f at : ℕ) (a : Bool) → length rest < f → blanks_within f at a rest ≡ Ok (gap at a)
unfolding blanks_within
stays rest e zero at a small = absurd (omega arith)
stays rest e (suc f) at a small = ap (λ o. blanks_then at a o (λ g. blanks_within f (at + g.len) (a || g.breaks_line) (drop g.len rest))) e

breaks_off : (rest : List ℕ) → blank rest ≡ None → (f at : ℕ) (a : Bool) → length rest < f → blanks_within f at a rest ≡ Err at
unfolding blanks_within
breaks_off rest e zero at a small = absurd (omega arith)
breaks_off rest e (suc f) at a small = ap (λ o. blanks_then at a o (λ g. blanks_within f (at + g.len) (a || g.breaks_line) (drop g.len rest))) e

skipped_to : (breaks : Bool) (w rest : List ℕ) → Blanks breaks w rest → blank rest ≡ Some (gap 0 false) → blanks (w ++ rest) ≡ Ok (gap (length w) breaks)
skipped_to breaks w rest b e = skips rest (λ p t. Ok (gap p t)) (stays rest e) breaks w b (suc (length (w ++ rest))) 0 false (omega arith) ∙ ap (λ n. Ok (gap n breaks)) (let e : 0 + length w ≡ length w = omega arith in e)

skipped_open : (breaks : Bool) (w rest : List ℕ) → Blanks breaks w rest → blank rest ≡ None → blanks (w ++ rest) ≡ Err (length w)
skipped_open breaks w rest b e = skips rest (λ p t. Err p) (breaks_off rest e) breaks w b (suc (length (w ++ rest))) 0 false (omega arith) ∙ ap (λ (n : ℕ). Err n) (let e : 0 + length w ≡ length w = omega arith in e)

-- ---- tokens

-- the longest token that stands in front of bytes is what is found there
pub longest_found : (w rest : List ℕ) (kind : TokenKind) → IsLongest w rest kind → cut (w ++ rest) ≡ Some (record { kind = kind; len = length w })
longest_found w rest kind i = by_stands (found w rest kind i.written (by_number (begins_number (w ++ rest)) refl))
  where
    by_number : (t : Bool) → begins_number (w ++ rest) ≡ t → Ends w rest
    by_number false b = inl b
    by_number true b = inr (i.ends b)

    by_stands : Stands (length w) kind (w ++ rest) → cut (w ++ rest) ≡ Some (record { kind = kind; len = length w })
    by_stands s =
        let joined : length (w ++ rest) ≡ length w + length rest = length-append w rest in
        let some : 0 < length w = i.some in
        let fits : FitsIn (length (w ++ rest)) (Some s.found) = subst (FitsIn (length (w ++ rest))) s.cut_is (cut_fits (w ++ rest) (omega arith)) in
        let len : length (take s.found.len (w ++ rest)) ≡ s.found.len = length-take-le s.found.len (w ++ rest) fits.1 in
        let most : length (take s.found.len (w ++ rest)) ≤ length w = i.longest (take s.found.len (w ++ rest)) (drop s.found.len (w ++ rest)) s.found.kind (sym (take-append-drop s.found.len (w ++ rest))) (cut_written (w ++ rest) s.found (omega arith) s.cut_is) in
        let least : length w ≤ s.found.len = s.long in
        let same_len : s.found.len ≡ length w = omega arith in
        s.cut_is ∙ ap₂ (λ (k : TokenKind) (n : ℕ). Some (record { kind = k; len = n })) (s.same same_len) same_len

-- nothing is found where a bad token begins
no_token_found : (z : List ℕ) → 0 < length z → ((w rest : List ℕ) (kind : TokenKind) → z ≡ w ++ rest → IsToken w kind → ⊥) → cut z ≡ None
no_token_found z some never = go (cut z) refl
  where
    go : (o : Option Found) → cut z ≡ o → o ≡ None
    go None e = refl
    go (Some t) e = absurd (never (take t.len z) (drop t.len z) t.kind (sym (take-append-drop t.len z)) (cut_written z t some e))

no_number_found : (w rest : List ℕ) → begins_number (w ++ rest) ≡ true → run class.Number w ≡ length w → run class.Number rest ≡ 0 → ((kind : TokenKind) → IsToken w kind → ⊥) → cut (w ++ rest) ≡ None
no_number_found w rest b all nothing never = cut_number (w ++ rest) b ∙ go (number (w ++ rest)) refl
  where
    len : run class.Number (w ++ rest) ≡ length w
    len = let counted : run class.Number (w ++ rest) ≡ length w + run class.Number rest = run_append class.Number w rest all in omega arith

    go : (o : Option Found) → number (w ++ rest) ≡ o → o ≡ None
    go None e = refl
    go (Some t) e = absurd (never t.kind (subst (λ x. IsToken x t.kind) (ap (λ (n : ℕ). take n (w ++ rest)) ((number_parts (w ++ rest) t e).0 ∙ len) ∙ take_front w rest) (number_written (w ++ rest) t e)))

pub digit_no_blank : (z : List ℕ) → begins_number z ≡ true → begins_blank z ≡ false
digit_no_blank z h = search (arith) depth 9

-- ---- all tokens

-- the tokens behind a place
module _ (bytes : List ℕ) where
  abbrev at_place : ℕ → Left
  at_place p = record { bytes = bytes; at = p }

  -- what stands behind white space and comments
  behind_gap : (at : ℕ) (w z : List ℕ) → w ++ z ≡ drop at bytes → z ≡ drop (at + length w) bytes
  behind_gap at w z e = sym (drop_front w z) ∙ ap (drop (length w)) e ∙ drop-drop (length w) at bytes

  place_inside : (p : ℕ) (z : List ℕ) → z ≡ drop p bytes → 0 < length z → p < length bytes
  place_inside p z e some = let len : length (drop p bytes) ≡ length bytes - p = length-drop p bytes in let same : length z ≡ length (drop p bytes) = ap length e in omega arith

  -- the answer where a bad token stands behind white space and comments
  bad_answer : (at : ℕ) (breaks : Bool) (w z : List ℕ) → Blanks breaks w z → w ++ z ≡ drop at bytes → begins_blank z ≡ false → 0 < length z → cut z ≡ None → next_of (at_place at) ≡ Err (bad_token (at + length w))
  bad_answer at breaks w z b e clear some c =
      let is : z ≡ drop (at + length w) bytes = behind_gap at w z e in
      next_gap (at_place at) (gap (length w) breaks) (ap blanks (sym e) ∙ skipped_to breaks w z b (no_gap z clear))
      ∙ at_token bytes (at + length w) (begins_line at (gap (length w) breaks)) (place_inside (at + length w) z is some) None (ap cut (sym is) ∙ c)

  stops : (at : ℕ) (breaks : Bool) (w z : List ℕ) → Blanks breaks w z → w ++ z ≡ drop at bytes → BeginsBadly z → next_of (at_place at) ≡ Err (bad_token (at + length w))
  stops at breaks w _ b e (open_comment z c) = next_broken (at_place at) (length w) (ap blanks (sym e) ∙ skipped_open breaks w (47 ∷ 42 ∷ z) b (ap (option_map (λ n. gap (n + 4) false)) c))
  stops at breaks w _ b e (no_number u rest n all nothing never) = bad_answer at breaks w (u ++ rest) b e (digit_no_blank (u ++ rest) n) (number_some (u ++ rest) n) (no_number_found u rest n all nothing never)
    where
      number_some : (z : List ℕ) → begins_number z ≡ true → 0 < length z
      number_some [] h = absurd cc
      number_some (c ∷ z) h = omega arith
  stops at breaks w _ b e (no_token z some clear n never) = bad_answer at breaks w z b e clear some (no_token_found z some never)

  takes : (at : ℕ) (breaks : Bool) (w rest : List ℕ) (t : Lexeme) → Blanks breaks w (t.text ++ rest) → w ++ (t.text ++ rest) ≡ drop at bytes → IsLongest t.text rest t.kind
      → t.start ≡ at + length w → t.end ≡ t.start + length t.text → t.begins_line ≡ (at == 0 || breaks) → next_of (at_place at) ≡ Ok (Some t)
  takes at breaks w rest t b e i start finish line_is =
      let is : t.text ++ rest ≡ drop (at + length w) bytes = behind_gap at w (t.text ++ rest) e in
      let joined : length (t.text ++ rest) ≡ length t.text + length rest = length-append t.text rest in
      let some : 0 < length t.text = i.some in
      let text_is : take (length t.text) (drop (at + length w) bytes) ≡ t.text = ap (take (length t.text)) (sym is) ∙ take_front t.text rest in
      let ends : at + length w + length t.text ≡ t.end = ap (λ n. n + length t.text) (sym start) ∙ sym finish in
      next_gap (at_place at) (gap (length w) breaks) (ap blanks (sym e) ∙ skipped_to breaks w (t.text ++ rest) b (no_gap (t.text ++ rest) i.no_blank))
      ∙ at_token bytes (at + length w) (begins_line at (gap (length w) breaks)) (place_inside (at + length w) (t.text ++ rest) is (omega arith)) (Some (record { kind = t.kind; len = length t.text })) (ap cut (sym is) ∙ longest_found t.text rest t.kind i)
      ∙ made t.kind (take (length t.text) (drop (at + length w) bytes)) t.text (at + length w) t.start (at + length w + length t.text) t.end (at == 0 || breaks) t.begins_line text_is (sym start) ends (sym line_is)
    where
      made : (kind : TokenKind) (x y : List ℕ) (p q m n : ℕ) (f g : Bool) → x ≡ y → p ≡ q → m ≡ n → f ≡ g
          → ◌≡◌ {A = Result (Option Lexeme) BadToken} (Ok (Some (record { kind = kind; text = x; start = p; end = m; begins_line = f }))) (Ok (Some (record { kind = kind; text = y; start = q; end = n; begins_line = g })))
      made kind x y p q m n f g a b c d = rw (a, b, c, d) refl

  only : (at : ℕ) (z : List ℕ) (ts : List Lexeme) (o : Option BadToken) → z ≡ drop at bytes → Covers at z ts o → Tokens (at_place at) ts o
  only at _ _ _ e (last {breaks = breaks} w b) =
      let len : length (drop at bytes) ≡ length bytes - at = length-drop at bytes in
      let same : length w ≡ length (drop at bytes) = ap length e in
      end (at_place at) (next_gap (at_place at) (gap (length w) breaks) (ap blanks (sym e ∙ sym (append-nil w)) ∙ skipped_to breaks w [] b refl) ∙ at_end bytes (at + length w) (begins_line at (gap (length w) breaks)) (omega arith))
  only at _ _ _ e (stopped {breaks = breaks} w z b bad) = broken (at_place at) (bad_token (at + length w)) (stops at breaks w z b e bad)
  only at _ _ _ e (next {breaks = breaks} w rest t {ts} {o} b i start finish line_is more) =
      let whole : w ++ (t.text ++ rest) ≡ drop at bytes = sym (append_assoc w t.text rest) ∙ e in
      let is : t.text ++ rest ≡ drop (at + length w) bytes = behind_gap at w (t.text ++ rest) whole in
      let ends : at + length w + length t.text ≡ t.end = ap (λ n. n + length t.text) (sym start) ∙ sym finish in
      let rest_is : rest ≡ drop t.end bytes = behind_gap (at + length w) t.text rest is ∙ ap (λ (n : ℕ). drop n bytes) ends in
      token (at_place at) t (takes at breaks w rest t b whole i start finish line_is) (only t.end rest ts o rest_is more)

pub only_covers : (l : Left) (ts : List Lexeme) (o : Option BadToken) → Covers l.at (drop l.at l.bytes) ts o → Tokens l ts o
only_covers l ts o c = only l.bytes l.at (drop l.at l.bytes) ts o refl c
