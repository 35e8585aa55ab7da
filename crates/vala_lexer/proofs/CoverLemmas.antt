-- A text has one list of tokens, and it covers the text.
use Rattle.std.proofs.Common.{◌≡◌, ℕ, zero, suc, ◌+◌, ◌-◌, ◌<◌, ◌≤◌, Bool, true, false, cond, not, ◌&&◌, ◌==◌, nat_lt, nat_le, List, [], ◌∷◌, ◌++◌, length, take, drop, get_or, append_assoc, append-nil, Option, Some, None, Result, Ok, Err, refl, sym, ap, ap₂, subst, ◌∙◌, arith}
use Rattle.std.specs.Option.{option_map}
use Rattle.std.proofs.lemmas.Bool.{cond_both, and_parts, eqb-true, ltb-false, leb-true, leb-false}
use Rattle.std.proofs.lemmas.List.{take-append-drop, length-drop, length-take-le, drop-drop, length-append}
use Rattle.static_rules.specs.declared.rules.Refusal.{Refusal}
use Rattle.vala_lexer.specs.declared.bytes.Class.{Class}
use Rattle.vala_lexer.specs.declared.bytes.Class.TheVariants as class
use Rattle.vala_lexer.specs.declared.bytes.Ending.TheVariants as ending
use Rattle.vala_lexer.specs.declared.pieces.Found.{Found}
use Rattle.vala_lexer.specs.declared.pieces.Fault.{Fault}
use Rattle.vala_lexer.specs.Bytes.{is_in, is_space, run, place_of, is_ending}
use Rattle.vala_lexer.specs.Pieces.{bad_byte}
use Rattle.vala_lexer.specs.Blanks.{comment, block_comment_to, blank, blanks_then, blanks_within, blanks}
use Rattle.vala_lexer.specs.Cut.{cut}
use Rattle.vala_lexer.specs.Tokens.{Left, Lexeme, Answer, next_of, next_behind, found_at, refusal, span, behind, Tokens, end, broken, token}
use Rattle.vala_lexer.specs.Laws.{EndsLine, NoZero, Blanks, none, space, line, block, Covers, last, stopped, next}
use Rattle.vala_lexer.proofs.FitLemmas.{FitsIn, BlankIn, BlankFrom, cut_fits, blank_fits, blanks_fit, run_within, comment_place, place_is}
use Rattle.vala_lexer.proofs.NextLemmas.{TokenFound, token_found, found_within, token_ends}

-- ---- one list

pub one_list : (l : Left) (ts us : List Lexeme) (o p : Option Refusal) → Tokens l ts o → Tokens l us p → (ts ≡ us) × (o ≡ p)
one_list _ _ _ _ _ (end l e) (end _ f) = (refl, refl)
one_list _ _ _ _ _ (end l e) (broken _ r f) = absurd cc
one_list _ _ _ _ _ (end l e) (token _ t f more) = absurd cc
one_list _ _ _ _ _ (broken l r e) (end _ f) = absurd cc
one_list _ _ _ _ _ (broken l r e) (broken _ s f) = (refl, cc)
one_list _ _ _ _ _ (broken l r e) (token _ t f more) = absurd cc
one_list _ _ _ _ _ (token l t e more) (end _ f) = absurd cc
one_list _ _ _ _ _ (token l t e more) (broken _ r f) = absurd cc
one_list _ _ _ _ _ (token l t {ts} {o} e more) (token _ u {ts = us} {o = p} f further) =
    let same : t ≡ u = cc in
    let rest = one_list (behind l (Ok (Some u))) ts us o p (subst (λ (x : Lexeme). Tokens (behind l (Ok (Some x))) ts o) same more) further in
    (ap₂ (λ (x : Lexeme) (xs : List Lexeme). x ∷ xs) same rest.0, rest.1)

-- ---- a list for each text

record HasTokens (l : Left) : Type 0 where
  ts : List Lexeme
  o : Option Refusal
  tokens : Tokens l ts o

pub token_moves : (l : Left) (t : Lexeme) → next_of l ≡ Ok (Some t) → l.at < t.span.end
token_moves l t h =
    let f : TokenFound l t = token_found l t h in
    let len : length (drop (l.at + f.n) l.bytes) ≡ length l.bytes - (l.at + f.n) = length-drop (l.at + f.n) l.bytes in
    let inside : l.at + f.n < length l.bytes = f.inside in
    let some : 0 < f.found.len = (subst (FitsIn (length (drop (l.at + f.n) l.bytes))) f.cut_is (cut_fits (take (l.at + f.n) l.bytes) (drop (l.at + f.n) l.bytes) (omega arith))).0 in
    let moved : l.at < l.at + f.n + f.found.len = omega arith in
    subst (λ (x : Lexeme). l.at < x.span.end) f.is moved

has_tokens : (n : ℕ) (l : Left) → length l.bytes - l.at < n → HasTokens l
has_tokens zero l h = absurd (omega arith)
has_tokens (suc n) l h = go (next_of l) refl (λ t e.
    let moves : l.at < t.span.end = token_moves l t e in
    let ends : t.span.end ≤ length l.bytes = token_ends l t e in
    has_tokens n (behind l (Ok (Some t))) (omega arith))
  where
    go : (a : Answer) → next_of l ≡ a → ((t : Lexeme) → next_of l ≡ Ok (Some t) → HasTokens (behind l (Ok (Some t)))) → HasTokens l
    go (Ok None) e more = record { ts = []; o = None; tokens = end l e }
    go (Err r) e more = record { ts = []; o = Some r; tokens = broken l r e }
    go (Ok (Some t)) e more = let m : HasTokens (behind l (Ok (Some t))) = more t e in record { ts = t ∷ m.ts; o = m.o; tokens = token l t e m.tokens }

pub some_list : (l : Left) → (ts : List Lexeme) × (o : Option Refusal) × Tokens l ts o
some_list l = let h : HasTokens l = has_tokens (suc (length l.bytes - l.at)) l (omega arith) in (h.ts, h.o, h.tokens)

-- ---- white space and comments

pub two_bytes : (x y : ℕ) (z : List ℕ) → 0 < x → 0 < y → (get_or z 0 0 == x && get_or z 1 0 == y) ≡ true → z ≡ x ∷ y ∷ drop 2 z
two_bytes x y [] a b h = let same : 0 ≡ x = eqb-true 0 x (and_parts (0 == x) (0 == y) h).0 in absurd (omega arith)
two_bytes x y (c ∷ []) a b h = let same : 0 ≡ y = eqb-true 0 y (and_parts (c == x) (0 == y) h).1 in absurd (omega arith)
two_bytes x y (c ∷ d ∷ z) a b h = ap₂ (λ (m n : ℕ). m ∷ n ∷ z) (eqb-true c x (and_parts (c == x) (d == y) h).0) (eqb-true d y (and_parts (c == x) (d == y) h).1)

-- a run that goes on to a place goes on to it also where the bytes end there
pub run_front : (c : Class) (n : ℕ) (z : List ℕ) → n ≤ run c z → run c (take n z) ≡ n
run_front c zero z h = refl
run_front c (suc n) [] h = absurd (omega arith)
run_front c (suc n) (b ∷ z) given = cond_both (is_in c b) (suc (run c z)) 0 (λ m. suc n ≤ m → run c (b ∷ take n z) ≡ suc n)
    (λ e h. rw e (ap (λ (m : ℕ). suc m) (run_front c n z (omega arith)))) (λ e h. absurd (omega arith)) given

ends_line : (z : List ℕ) → EndsLine (drop (run class.NotLineFeed z) z)
ends_line [] = tt
ends_line (b ∷ z) = go (b == 10) refl (ends_line z)
  where
    go : (t : Bool) → (b == 10) ≡ t → EndsLine (drop (run class.NotLineFeed z) z) → EndsLine (drop (cond (not t) (suc (run class.NotLineFeed z)) 0) (b ∷ z))
    go true e more = eqb-true b 10 e
    go false e more = more

spaces : (z w rest : List ℕ) → drop (run class.Space z) z ≡ w ++ rest → Blanks w rest → Blanks (take (run class.Space z) z ++ w) rest
spaces [] w rest = λ e b. b
spaces (c ∷ z) w rest = λ e b. go (is_space c) refl (spaces z w rest) e b
  where
    go : (t : Bool) → is_space c ≡ t → (drop (run class.Space z) z ≡ w ++ rest → Blanks w rest → Blanks (take (run class.Space z) z ++ w) rest)
        → drop (cond t (suc (run class.Space z)) 0) (c ∷ z) ≡ w ++ rest → Blanks w rest → Blanks (take (cond t (suc (run class.Space z)) 0) (c ∷ z) ++ w) rest
    go true h more e b = space c h (more e b)
    go false h more e b = b

no_zeros : (n m : ℕ) (z : List ℕ) → comment n z ≡ Ok m → (n ≡ m) × (n ≤ run class.NotZero (take n z))
no_zeros n m z = go (nat_lt (run class.NotZero (take n z)) n) refl
  where
    go : (t : Bool) → nat_lt (run class.NotZero (take n z)) n ≡ t → cond {A = Result ℕ Fault} t (Err (bad_byte (run class.NotZero (take n z)))) (Ok n) ≡ Ok m → (n ≡ m) × (n ≤ run class.NotZero (take n z))
    go true e h = absurd cc
    go false e h = ((cc), ltb-false (run class.NotZero (take n z)) n e)

-- a comment to the end of its line
line_comment : (y w rest : List ℕ) (m : ℕ) → comment (run class.NotLineFeed (47 ∷ 47 ∷ y)) (47 ∷ 47 ∷ y) ≡ Ok m → drop m (47 ∷ 47 ∷ y) ≡ w ++ rest → Blanks w rest → Blanks (take m (47 ∷ 47 ∷ y) ++ w) rest
line_comment y w rest m c e b =
    let k : ℕ = run class.NotLineFeed y in
    let sound = no_zeros (run class.NotLineFeed (47 ∷ 47 ∷ y)) m (47 ∷ 47 ∷ y) c in
    let len : length (take (run class.NotLineFeed y) y) ≡ run class.NotLineFeed y = length-take-le (run class.NotLineFeed y) y (run_within class.NotLineFeed y) in
    let all : run class.NotLineFeed (take (run class.NotLineFeed y) y) ≡ length (take (run class.NotLineFeed y) y) = run_front class.NotLineFeed (run class.NotLineFeed y) y (omega arith) ∙ sym len in
    let most : run class.NotZero (take (run class.NotLineFeed y) y) ≤ length (take (run class.NotLineFeed y) y) = run_within class.NotZero (take (run class.NotLineFeed y) y) in
    let least : suc (suc (run class.NotLineFeed y)) ≤ suc (suc (run class.NotZero (take (run class.NotLineFeed y) y))) = sound.1 in
    let none_zero : NoZero (take (run class.NotLineFeed y) y) = (let e : run class.NotZero (take (run class.NotLineFeed y) y) ≡ length (take (run class.NotLineFeed y) y) = omega arith in e) in
    let same : suc (suc (run class.NotLineFeed y)) ≡ m = sound.0 in
    let behind_is : drop (run class.NotLineFeed y) y ≡ w ++ rest = ap (λ (n : ℕ). drop n (47 ∷ 47 ∷ y)) same ∙ e in
    subst (λ (n : ℕ). Blanks (take n (47 ∷ 47 ∷ y) ++ w) rest) same (line (take (run class.NotLineFeed y) y) all none_zero (subst EndsLine behind_is (ends_line y)) b)

-- the first ending is the first also where the bytes end behind it
first_byte : (k : ℕ) (y : List ℕ) → place_of ending.Comment y ≡ Some k → get_or y 0 0 ≡ get_or (take k y ++ 42 ∷ 47 ∷ []) 0 0
first_byte zero y h = let is : is_ending ending.Comment (drop 0 y) ≡ true = place_is ending.Comment y 0 h in eqb-true (get_or y 0 0) 42 (and_parts (get_or y 0 0 == 42) (get_or y 1 0 == 47) is).0
first_byte (suc k) [] h = absurd cc
first_byte (suc k) (b ∷ y) h = refl

place_front : (k : ℕ) (y : List ℕ) → place_of ending.Comment y ≡ Some k → place_of ending.Comment (take k y ++ 42 ∷ 47 ∷ []) ≡ Some k
place_front k [] = λ h. absurd cc
place_front k (b ∷ y) = go k (is_ending ending.Comment (b ∷ y)) refl (λ j e. place_front j y e)
  where
    go : (k : ℕ) (t : Bool) → is_ending ending.Comment (b ∷ y) ≡ t → ((j : ℕ) → place_of ending.Comment y ≡ Some j → place_of ending.Comment (take j y ++ 42 ∷ 47 ∷ []) ≡ Some j)
        → cond t (Some 0) (option_map (λ n. suc n) (place_of ending.Comment y)) ≡ Some k → place_of ending.Comment (take k (b ∷ y) ++ 42 ∷ 47 ∷ []) ≡ Some k
    go zero true t more h = refl
    go (suc k) true t more h = absurd cc
    go zero false t more h = absurd (none_zero (place_of ending.Comment y) h)
      where
        none_zero : (o : Option ℕ) → option_map (λ n. suc n) o ≡ Some 0 → ⊥
        none_zero None h = cc
        none_zero (Some n) h = let e : suc n ≡ 0 = cc in omega arith
    go (suc k) false t more h =
        let here : place_of ending.Comment y ≡ Some k = less (place_of ending.Comment y) h in
        let none : (b == 42 && get_or (take k y ++ 42 ∷ 47 ∷ []) 0 0 == 47) ≡ false = ap (λ (x : ℕ). b == 42 && x == 47) (sym (first_byte k y here)) ∙ t in
        rw none (ap (option_map (λ n. suc n)) (more k here))
      where
        less : (o : Option ℕ) → option_map (λ n. suc n) o ≡ Some (suc k) → o ≡ Some k
        less None h = cc
        less (Some n) h = cc

take_two : (u : List ℕ) (x y : ℕ) (v : List ℕ) → take (suc (suc (length u))) (u ++ x ∷ y ∷ v) ≡ u ++ x ∷ y ∷ []
take_two [] x y v = refl
take_two (b ∷ u) x y v = ap (λ w. b ∷ w) (take_two u x y v)

drop_two : (u : List ℕ) (x y : ℕ) (v : List ℕ) → drop (suc (suc (length u))) (u ++ x ∷ y ∷ v) ≡ v
drop_two [] x y v = refl
drop_two (b ∷ u) x y v = drop_two u x y v

all_in_front : (c : Class) (u v : List ℕ) → length u ≤ run c (u ++ v) → run c u ≡ length u
all_in_front c [] v h = refl
all_in_front c (b ∷ u) v given = cond_both (is_in c b) (suc (run c (u ++ v))) 0 (λ n. suc (length u) ≤ n → cond (is_in c b) (suc (run c u)) 0 ≡ suc (length u))
    (λ e h. rw e (ap (λ (m : ℕ). suc m) (all_in_front c u v (omega arith)))) (λ e h. absurd (omega arith)) given

block_whole : (body tail w rest : List ℕ) → place_of ending.Comment (body ++ 42 ∷ 47 ∷ []) ≡ Some (length body)
    → suc (suc (suc (suc (length body)))) ≤ run class.NotZero (take (suc (suc (suc (suc (length body))))) (47 ∷ 42 ∷ body ++ 42 ∷ 47 ∷ tail))
    → drop (suc (suc (suc (suc (length body))))) (47 ∷ 42 ∷ body ++ 42 ∷ 47 ∷ tail) ≡ w ++ rest → Blanks w rest
    → Blanks (take (suc (suc (suc (suc (length body))))) (47 ∷ 42 ∷ body ++ 42 ∷ 47 ∷ tail) ++ w) rest
block_whole body tail w rest first sound e b =
    let front : take (suc (suc (length body))) (body ++ 42 ∷ 47 ∷ tail) ≡ body ++ 42 ∷ 47 ∷ [] = take_two body 42 47 tail in
    let sound_two : suc (suc (suc (suc (length body)))) ≤ suc (suc (run class.NotZero (body ++ 42 ∷ 47 ∷ []))) = subst (λ x. suc (suc (suc (suc (length body)))) ≤ run class.NotZero (47 ∷ 42 ∷ x)) front sound in
    let none_zero : NoZero body = all_in_front class.NotZero body (42 ∷ 47 ∷ []) (omega arith) in
    let written : 47 ∷ 42 ∷ body ++ 42 ∷ 47 ∷ w ≡ (47 ∷ 42 ∷ take (suc (suc (length body))) (body ++ 42 ∷ 47 ∷ tail)) ++ w = ap (λ x. 47 ∷ 42 ∷ x) (sym (append_assoc body (42 ∷ 47 ∷ []) w)) ∙ ap (λ x. (47 ∷ 42 ∷ x) ++ w) (sym front) in
    subst (λ x. Blanks x rest) written (block body first none_zero b)

block_to : (y w rest : List ℕ) (m : ℕ) (o : Option ℕ) → place_of ending.Comment y ≡ o → block_comment_to (47 ∷ 42 ∷ y) o ≡ Ok m → drop m (47 ∷ 42 ∷ y) ≡ w ++ rest → Blanks w rest → Blanks (take m (47 ∷ 42 ∷ y) ++ w) rest
block_to y w rest m None p c e b = absurd cc
block_to y w rest m (Some k) p c e b =
    let sound = no_zeros (k + 4) m (47 ∷ 42 ∷ y) c in
    let len : length (take k y) ≡ k = length-take-le k y (let bound : k + 2 ≤ length y = comment_place y k p in omega arith) in
    let ends : drop k y ≡ 42 ∷ 47 ∷ drop 2 (drop k y) = two_bytes 42 47 (drop k y) (omega arith) (omega arith) (place_is ending.Comment y k p) in
    let whole : y ≡ take k y ++ 42 ∷ 47 ∷ drop 2 (drop k y) = sym (take-append-drop k y) ∙ ap (λ x. take k y ++ x) ends in
    let first : place_of ending.Comment (take k y ++ 42 ∷ 47 ∷ []) ≡ Some (length (take k y)) = place_front k y p ∙ ap Some (sym len) in
    let four : k + 4 ≡ suc (suc (suc (suc (length (take k y))))) = omega arith in
    let count : m ≡ suc (suc (suc (suc (length (take k y))))) = sym sound.0 ∙ four in
    block_at y (take k y) (drop 2 (drop k y)) w rest m whole count first (subst (λ n. n ≤ run class.NotZero (take n (47 ∷ 42 ∷ y))) sound.0 sound.1) e b
  where
    block_at : (y body tail w rest : List ℕ) (m : ℕ) → y ≡ body ++ 42 ∷ 47 ∷ tail → m ≡ suc (suc (suc (suc (length body)))) → place_of ending.Comment (body ++ 42 ∷ 47 ∷ []) ≡ Some (length body)
        → m ≤ run class.NotZero (take m (47 ∷ 42 ∷ y)) → drop m (47 ∷ 42 ∷ y) ≡ w ++ rest → Blanks w rest → Blanks (take m (47 ∷ 42 ∷ y) ++ w) rest
    block_at y body tail w rest m whole count first sound e b =
        let P : List ℕ → ℕ → Type 0 = λ y m. m ≤ run class.NotZero (take m (47 ∷ 42 ∷ y)) → drop m (47 ∷ 42 ∷ y) ≡ w ++ rest → Blanks w rest → Blanks (take m (47 ∷ 42 ∷ y) ++ w) rest in
        subst (λ x. P x m) (sym whole) (subst (λ n. P (body ++ 42 ∷ 47 ∷ tail) n) (sym count) (block_whole body tail w rest first)) sound e b

blank_piece : (z w rest : List ℕ) (m : ℕ) → blank z ≡ Ok m → drop m z ≡ w ++ rest → Blanks w rest → Blanks (take m z ++ w) rest
blank_piece z w rest m =
    cond_both (is_space (get_or z 0 0)) _ _ P (λ _ e. subst (λ n. drop n z ≡ w ++ rest → Blanks w rest → Blanks (take n z ++ w) rest) (let same : run class.Space z ≡ m = cc in same) (spaces z w rest))
    (λ _. cond_both (get_or z 0 0 == 47 && get_or z 1 0 == 47) _ _ P
    (λ h. subst (λ x. comment (run class.NotLineFeed x) x ≡ Ok m → drop m x ≡ w ++ rest → Blanks w rest → Blanks (take m x ++ w) rest) (sym (two_bytes 47 47 z (omega arith) (omega arith) h)) (line_comment (drop 2 z) w rest m))
    (λ _. cond_both (get_or z 0 0 == 47 && get_or z 1 0 == 42) _ _ P
    (λ h. subst (λ x. block_comment_to x (place_of ending.Comment (drop 2 z)) ≡ Ok m → drop m x ≡ w ++ rest → Blanks w rest → Blanks (take m x ++ w) rest) (sym (two_bytes 47 42 z (omega arith) (omega arith) h)) (block_to (drop 2 z) w rest m (place_of ending.Comment (drop 2 z)) refl))
    (λ _ e. subst (λ n. drop n z ≡ w ++ rest → Blanks w rest → Blanks (take n z ++ w) rest) (let same : 0 ≡ m = cc in same) (λ _ b. b))))
  where
    P : Result ℕ Fault → Type 0
    P r = r ≡ Ok m → drop m z ≡ w ++ rest → Blanks w rest → Blanks (take m z ++ w) rest

-- white space and comments from a place up to another, and what stands behind them
record Skipped (at p : ℕ) (z : List ℕ) : Type 0 where
  w : List ℕ
  rest : List ℕ
  whole : z ≡ w ++ rest
  count : p ≡ at + length w
  blanks_are : Blanks w rest

skipped : (f at p : ℕ) (z : List ℕ) → blanks_within f at z ≡ Ok p → Skipped at p z
unfolding blanks_within
skipped zero at p z h = record { w = []; rest = z; whole = refl; count = (let e : p ≡ at + 0 = stay h in e); blanks_are = none }
  where
    stay : ◌≡◌ {A = Result ℕ Fault} (Ok at) (Ok p) → p ≡ at + 0
    stay h = let same : at ≡ p = cc in omega arith
skipped (suc f) at p z h = go (blank z) refl (λ n. skipped f (at + n) p (drop n z)) h
  where
    more : (n : ℕ) → blank z ≡ Ok n → Skipped (at + n) p (drop n z) → Skipped at p z
    more n e s =
        let within : n ≤ length z = subst (BlankIn (length z)) e (blank_fits z) in
        let front : length (take n z) ≡ n = length-take-le n z within in
        let joined : length (take n z ++ s.w) ≡ length (take n z) + length s.w = length-append (take n z) s.w in
        let counted : p ≡ at + n + length s.w = s.count in
        record {
          w = take n z ++ s.w;
          rest = s.rest;
          whole = sym (take-append-drop n z) ∙ ap (λ x. take n z ++ x) s.whole ∙ sym (append_assoc (take n z) s.w s.rest);
          count = omega arith;
          blanks_are = blank_piece z s.w s.rest n e s.whole s.blanks_are;
        }

    go : (r : Result ℕ Fault) → blank z ≡ r → ((n : ℕ) → blanks_within f (at + n) (drop n z) ≡ Ok p → Skipped (at + n) p (drop n z)) → blanks_then at r (λ n. blanks_within f (at + n) (drop n z)) ≡ Ok p → Skipped at p z
    go (Err g) e further h = absurd cc
    go (Ok n) e further given = cond_both (n == 0) _ _ (λ r. r ≡ Ok p → Skipped at p z)
        (λ _ h. record { w = []; rest = z; whole = refl; count = (let same : at ≡ p = cc in omega arith); blanks_are = none })
        (λ _ h. more n e (further n h)) given

-- ---- what is left is covered

end_found : (l : Left) → next_of l ≡ Ok None → (n : ℕ) × (blanks (drop l.at l.bytes) ≡ Ok n) × (length l.bytes ≤ l.at + n)
unfolding next_of
end_found l h = by_blanks (blanks (drop l.at l.bytes)) refl h
  where
    by_found : (p : ℕ) (r : Result Found Fault) → found_at l p r ≡ Ok None → ⊥
    by_found p (Err f) h = cc
    by_found p (Ok t) h = cc

    by_end : (n : ℕ) → blanks (drop l.at l.bytes) ≡ Ok n → (b : Bool) → nat_le (length l.bytes) (l.at + n) ≡ b → cond b (Ok None) (found_at l (l.at + n) (cut (take (l.at + n) l.bytes) (drop (l.at + n) l.bytes))) ≡ Ok None
        → (n : ℕ) × (blanks (drop l.at l.bytes) ≡ Ok n) × (length l.bytes ≤ l.at + n)
    by_end n e true b h = (n, e, leb-true (length l.bytes) (l.at + n) b)
    by_end n e false b h = absurd (by_found (l.at + n) (cut (take (l.at + n) l.bytes) (drop (l.at + n) l.bytes)) h)

    by_blanks : (r : Result ℕ Fault) → blanks (drop l.at l.bytes) ≡ r → next_behind l r ≡ Ok None → (n : ℕ) × (blanks (drop l.at l.bytes) ≡ Ok n) × (length l.bytes ≤ l.at + n)
    by_blanks (Err f) e h = absurd cc
    by_blanks (Ok n) e h = by_end n e (nat_le (length l.bytes) (l.at + n)) refl h

-- a broken rule is named behind the place up to which tokens were taken
record Broken (l : Left) (r : Refusal) : Type 0 where
  file_is : r.span.file ≡ l.file
  from : l.at ≤ r.span.start
  some : r.span.start < r.span.end
  up_to : r.span.end ≤ length l.bytes

broken_found : (l : Left) (r : Refusal) → l.at ≤ length l.bytes → next_of l ≡ Err r → Broken l r
unfolding next_of
broken_found l r within h = by_blanks (blanks (drop l.at l.bytes)) refl h
  where
    whole : length (drop l.at l.bytes) ≡ length l.bytes - l.at
    whole = length-drop l.at l.bytes

    made : (p : ℕ) (f : Fault) → l.at ≤ p → 0 < f.len → p + f.start + f.len ≤ length l.bytes → Broken l (refusal l.file p f)
    made p f a b c = record { file_is = refl; from = omega arith; some = omega arith; up_to = c }

    by_cut : (n : ℕ) → l.at + n < length l.bytes → (a : Result Found Fault) → cut (take (l.at + n) l.bytes) (drop (l.at + n) l.bytes) ≡ a → found_at l (l.at + n) a ≡ Err r → Broken l r
    by_cut n i (Ok t) c h = absurd cc
    by_cut n i (Err f) c h =
        let len : length (drop (l.at + n) l.bytes) ≡ length l.bytes - (l.at + n) = length-drop (l.at + n) l.bytes in
        let fits : FitsIn (length (drop (l.at + n) l.bytes)) (Err f) = subst (FitsIn (length (drop (l.at + n) l.bytes))) c (cut_fits (take (l.at + n) l.bytes) (drop (l.at + n) l.bytes) (omega arith)) in
        let bound : f.start + f.len ≤ length (drop (l.at + n) l.bytes) = fits.1 in
        subst (Broken l) (let same : refusal l.file (l.at + n) f ≡ r = cc in same) (made (l.at + n) f (omega arith) fits.0 (omega arith))

    by_end : (n : ℕ) → (b : Bool) → nat_le (length l.bytes) (l.at + n) ≡ b → cond b (Ok None) (found_at l (l.at + n) (cut (take (l.at + n) l.bytes) (drop (l.at + n) l.bytes))) ≡ Err r → Broken l r
    by_end n true b h = absurd cc
    by_end n false b h = by_cut n (leb-false (length l.bytes) (l.at + n) b) (cut (take (l.at + n) l.bytes) (drop (l.at + n) l.bytes)) refl h

    by_blanks : (a : Result ℕ Fault) → blanks (drop l.at l.bytes) ≡ a → next_behind l a ≡ Err r → Broken l r
    by_blanks (Err f) e h =
        let fits : BlankFrom 0 (0 + length (drop l.at l.bytes)) (Err f) = subst (BlankFrom 0 (0 + length (drop l.at l.bytes))) e (blanks_fit _ 0 (drop l.at l.bytes)) in
        let bound : f.start + f.len ≤ 0 + length (drop l.at l.bytes) = fits.1 in
        let len : length (drop l.at l.bytes) ≡ length l.bytes - l.at = whole in
        subst (Broken l) (let same : refusal l.file l.at f ≡ r = cc in same) (made l.at f (omega arith) fits.0 (omega arith))
    by_blanks (Ok n) e h = by_end n (nat_le (length l.bytes) (l.at + n)) refl h

drop_front : (u v : List ℕ) (n : ℕ) → n ≡ length u → drop n (u ++ v) ≡ v
drop_front u v n e = ap (λ m. drop m (u ++ v)) e ∙ go u
  where
    go : (u : List ℕ) → drop (length u) (u ++ v) ≡ v
    go [] = refl
    go (b ∷ u) = go u

covered_next : (l : Left) (n : ℕ) (found : Found) → l.at + n < length l.bytes → cut (take (l.at + n) l.bytes) (drop (l.at + n) l.bytes) ≡ Ok found → Skipped 0 n (drop l.at l.bytes) → (ts : List Lexeme) (o : Option Refusal)
    → Covers l.file (l.at + n + found.len) (drop (l.at + n + found.len) l.bytes) ts o
    → Covers l.file l.at (drop l.at l.bytes) (record { kind = found.kind; text = take found.len (drop (l.at + n) l.bytes); span = span l.file (l.at + n) found.len } ∷ ts) o
covered_next l n found inside cut_is s ts o further =
    let counted : n ≡ length s.w = (let c : n ≡ 0 + length s.w = s.count in omega arith) in
    let behind_is : s.rest ≡ drop (l.at + n) l.bytes = sym (drop_front s.w s.rest n counted) ∙ ap (drop n) (sym s.whole) ∙ drop-drop n l.at l.bytes in
    let split : s.rest ≡ take found.len (drop (l.at + n) l.bytes) ++ drop found.len (drop (l.at + n) l.bytes) = behind_is ∙ sym (take-append-drop found.len (drop (l.at + n) l.bytes)) in
    let bound : l.at + n + found.len ≤ length l.bytes = found_within l.bytes (l.at + n) found inside cut_is in
    let len : length (drop (l.at + n) l.bytes) ≡ length l.bytes - (l.at + n) = length-drop (l.at + n) l.bytes in
    let some : 0 < found.len = (subst (FitsIn (length (drop (l.at + n) l.bytes))) cut_is (cut_fits (take (l.at + n) l.bytes) (drop (l.at + n) l.bytes) (omega arith))).0 in
    let text_len : length (take found.len (drop (l.at + n) l.bytes)) ≡ found.len = length-take-le found.len (drop (l.at + n) l.bytes) (omega arith) in
    let place : l.at + n ≡ l.at + length s.w = omega arith in
    let ends : l.at + n + found.len ≡ l.at + length s.w + length (take found.len (drop (l.at + n) l.bytes)) = omega arith in
    let spans : span l.file (l.at + n) found.len ≡ span l.file (l.at + length s.w) (length (take found.len (drop (l.at + n) l.bytes))) = ap₂ (λ (p m : ℕ). span l.file p m) place (sym text_len) in
    let rest_is : drop (l.at + n + found.len) l.bytes ≡ drop found.len (drop (l.at + n) l.bytes) = sym (drop-drop found.len (l.at + n) l.bytes) in
    let more : Covers l.file (l.at + length s.w + length (take found.len (drop (l.at + n) l.bytes))) (drop found.len (drop (l.at + n) l.bytes)) ts o = subst (λ p. Covers l.file p (drop found.len (drop (l.at + n) l.bytes)) ts o) ends (subst (λ x. Covers l.file (l.at + n + found.len) x ts o) rest_is further) in
    let whole : drop l.at l.bytes ≡ s.w ++ take found.len (drop (l.at + n) l.bytes) ++ drop found.len (drop (l.at + n) l.bytes) = s.whole ∙ ap (λ x. s.w ++ x) split ∙ sym (append_assoc s.w (take found.len (drop (l.at + n) l.bytes)) (drop found.len (drop (l.at + n) l.bytes))) in
    subst (λ x. Covers l.file l.at x (record { kind = found.kind; text = take found.len (drop (l.at + n) l.bytes); span = span l.file (l.at + n) found.len } ∷ ts) o) (sym whole)
    (next s.w (drop found.len (drop (l.at + n) l.bytes)) (record { kind = found.kind; text = take found.len (drop (l.at + n) l.bytes); span = span l.file (l.at + n) found.len })
    (subst (λ x. Blanks s.w x) split s.blanks_are) (omega arith) spans more)

pub covered : (l : Left) (ts : List Lexeme) (o : Option Refusal) → l.at ≤ length l.bytes → Tokens l ts o → Covers l.file l.at (drop l.at l.bytes) ts o
covered _ _ _ within (end l e) =
    let f = end_found l e in
    let s : Skipped 0 f.0 (drop l.at l.bytes) = skipped _ 0 f.0 (drop l.at l.bytes) f.1 in
    let past : length l.bytes ≤ l.at + f.0 = f.2 in
    let counted : f.0 ≡ 0 + length s.w = s.count in
    let len : length (drop l.at l.bytes) ≡ length l.bytes - l.at = length-drop l.at l.bytes in
    let split : length (drop l.at l.bytes) ≡ length s.w + length s.rest = ap length s.whole ∙ length-append s.w s.rest in
    let nothing : s.rest ≡ [] = empty s.rest (omega arith) in
    let all : drop l.at l.bytes ≡ s.w = s.whole ∙ ap (λ x. s.w ++ x) nothing ∙ append-nil s.w in
    subst (λ x. Covers l.file l.at x [] None) (sym all) (last s.w (subst (λ x. Blanks s.w x) nothing s.blanks_are))
  where
    empty : (z : List ℕ) → length z ≡ 0 → z ≡ []
    empty [] h = refl
    empty (b ∷ z) h = absurd (omega arith)
covered _ _ _ within (broken l r e) =
    let b : Broken l r = broken_found l r within e in
    let len : length (drop l.at l.bytes) ≡ length l.bytes - l.at = length-drop l.at l.bytes in
    let up_to : r.span.end ≤ length l.bytes = b.up_to in
    stopped (drop l.at l.bytes) r b.file_is b.from b.some (omega arith)
covered _ _ _ within (token l t {ts} {o} e more) =
    let f : TokenFound l t = token_found l t e in
    let s : Skipped 0 f.n (drop l.at l.bytes) = skipped _ 0 f.n (drop l.at l.bytes) f.blank in
    let ends : t.span.end ≤ length l.bytes = token_ends l t e in
    let further : Covers l.file t.span.end (drop t.span.end l.bytes) ts o = covered (behind l (Ok (Some t))) ts o ends more in
    subst (λ (x : Lexeme). Covers l.file x.span.end (drop x.span.end l.bytes) ts o → Covers l.file l.at (drop l.at l.bytes) (x ∷ ts) o) f.is (covered_next l f.n f.found f.inside f.cut_is s ts o) further
