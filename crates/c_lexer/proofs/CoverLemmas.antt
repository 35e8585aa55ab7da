-- A text has one list of tokens, and it covers the text.
use Rattle.std.proofs.Common.{◌≡◌, ◌≢◌, ℕ, zero, suc, ◌+◌, ◌-◌, ◌<◌, ◌≤◌, Bool, true, false, cond, not, ◌&&◌, ◌||◌, ◌==◌, nat_lt, nat_le, List, [], ◌∷◌, ◌++◌, length, take, drop, get_or, append_assoc, append-nil, Option, Some, None, Result, Ok, Err, refl, sym, ap, ap₂, subst, ◌∙◌, arith}
use Rattle.std.specs.Option.{option_map}
use Rattle.std.proofs.lemmas.Bool.{cond_both, eqb-true, eqb-false, ltb-true, ltb-false, lt-ltb, le-ltb, leb-true, leb-false}
use Rattle.std.proofs.lemmas.List.{take-append-drop, length-drop, length-take-le, drop-drop, length-append}
use Rattle.c_lexer.specs.declared.token.BadToken.{BadToken}
use Rattle.c_lexer.specs.declared.bytes.Class.TheVariants as class
use Rattle.c_lexer.specs.declared.pieces.Found.{Found}
use Rattle.c_lexer.specs.declared.pieces.Gap.{Gap}
use Rattle.c_lexer.specs.Bytes.{is_space, is_in, run, ends_comment, comment_end}
use Rattle.c_lexer.specs.Blanks.{gap, white_space, line_comment, block_comment, blank, blanks_then, blanks_within, blanks}
use Rattle.c_lexer.specs.Cut.{cut}
use Rattle.c_lexer.specs.Tokens.{Left, Lexeme, Answer, bad_token, lexeme, begins_line, next_of, next_behind, found_at, behind, Tokens, end, broken, token}
use Rattle.c_lexer.specs.Laws.{begins_blank, EndsLine, Blanks, none, space, line, block, BeginsBadly, open_comment, Covers, last, stopped, next}
use Rattle.c_lexer.proofs.FitLemmas.{BlankIn, blank_fits, run_within, run_some, comment_place}
use Rattle.c_lexer.proofs.ListLemmas.{two_bytes, run_front, drop_front}
use Rattle.c_lexer.proofs.NextLemmas.{TokenFound, token_found, found_within, token_ends}
use Rattle.c_lexer.proofs.WrittenLemmas.{cut_longest, cut_badly}

-- ---- one list

pub one_list : (l : Left) (ts us : List Lexeme) (o p : Option BadToken) → Tokens l ts o → Tokens l us p → (ts ≡ us) × (o ≡ p)
one_list _ _ _ _ _ (end l e) (end _ f) = (refl, refl)
one_list _ _ _ _ _ (end l e) (broken _ r f) = absurd cc
one_list _ _ _ _ _ (end l e) (token _ t f more) = absurd cc
one_list _ _ _ _ _ (broken l r e) (end _ f) = absurd cc
one_list _ _ _ _ _ (broken l r e) (broken _ s f) = (refl, cc)
one_list _ _ _ _ _ (broken l r e) (token _ t f more) = absurd cc
one_list _ _ _ _ _ (token l t e more) (end _ f) = absurd cc
one_list _ _ _ _ _ (token l t e more) (broken _ r f) = absurd cc
one_list _ _ _ _ _ (token l t {ts} {o} e more) (token _ u {ts = us} {o = p} f further) =
    let same : t ≡ u = cc in
    let rest = one_list (behind l (Ok (Some u))) ts us o p (subst (λ (x : Lexeme). Tokens (behind l (Ok (Some x))) ts o) same more) further in
    (ap₂ (λ (x : Lexeme) (xs : List Lexeme). x ∷ xs) same rest.0, rest.1)

-- ---- a list for each text

record HasTokens (l : Left) : Type 0 where
  ts : List Lexeme
  o : Option BadToken
  tokens : Tokens l ts o

pub token_moves : (l : Left) (t : Lexeme) → next_of l ≡ Ok (Some t) → l.at < t.end
token_moves l t h =
    let f : TokenFound l t = token_found l t h in
    let some : 0 < f.found.len = (found_within l.bytes (l.at + f.gap.len) (begins_line l.at f.gap) f.found f.inside f.cut_is).0 in
    let moved : l.at < l.at + f.gap.len + f.found.len = omega arith in
    subst (λ (x : Lexeme). l.at < x.end) f.is moved

has_tokens : (n : ℕ) (l : Left) → length l.bytes - l.at < n → HasTokens l
has_tokens zero l h = absurd (omega arith)
has_tokens (suc n) l h = go (next_of l) refl (λ t e.
    let moves : l.at < t.end = token_moves l t e in
    let ends : t.end ≤ length l.bytes = token_ends l t e in
    has_tokens n (behind l (Ok (Some t))) (omega arith))
  where
    go : (a : Answer) → next_of l ≡ a → ((t : Lexeme) → next_of l ≡ Ok (Some t) → HasTokens (behind l (Ok (Some t)))) → HasTokens l
    go (Ok None) e more = record { ts = []; o = None; tokens = end l e }
    go (Err r) e more = record { ts = []; o = Some r; tokens = broken l r e }
    go (Ok (Some t)) e more = let m : HasTokens (behind l (Ok (Some t))) = more t e in record { ts = t ∷ m.ts; o = m.o; tokens = token l t e m.tokens }

pub some_list : (l : Left) → (ts : List Lexeme) × (o : Option BadToken) × Tokens l ts o
some_list l = let h : HasTokens l = has_tokens (suc (length l.bytes - l.at)) l (omega arith) in (h.ts, h.o, h.tokens)

-- ---- white space

pub less_suc : (m n : ℕ) → nat_lt (suc m) (suc n) ≡ nat_lt m n
less_suc m n = go (nat_lt m n) refl
  where
    go : (t : Bool) → nat_lt m n ≡ t → nat_lt (suc m) (suc n) ≡ t
    go true e = let small : m < n = ltb-true m n e in lt-ltb (suc m) (suc n) (omega arith)
    go false e = let large : n ≤ m = ltb-false m n e in le-ltb (suc m) (suc n) (omega arith)

or_less : (n : ℕ) (b : Bool) → (nat_lt 0 (suc n) || b) ≡ true
or_less n b = ap (λ t. t || b) (lt-ltb 0 (suc n) (omega arith))

spaces : (z w rest : List ℕ) (b : Bool) → drop (run class.Space z) z ≡ w ++ rest → Blanks b w rest → Blanks ((white_space z).breaks_line || b) (take (run class.Space z) z ++ w) rest
spaces [] w rest b = λ e h. h
spaces (c ∷ z) w rest b = λ e h. go (is_space c) refl (spaces z w rest b) e h
  where
    breaks : (t : Bool) → (c == 10) ≡ t → (t || (nat_lt (run class.NotLineFeed (take (run class.Space z) z)) (run class.Space z) || b)) ≡ (nat_lt (cond (not t) (suc (run class.NotLineFeed (take (run class.Space z) z))) 0) (suc (run class.Space z)) || b)
    breaks true e = sym (or_less (run class.Space z) b)
    breaks false e = ap (λ t. t || b) (sym (less_suc (run class.NotLineFeed (take (run class.Space z) z)) (run class.Space z)))

    go : (t : Bool) → is_space c ≡ t → (drop (run class.Space z) z ≡ w ++ rest → Blanks b w rest → Blanks ((white_space z).breaks_line || b) (take (run class.Space z) z ++ w) rest)
        → drop (cond t (suc (run class.Space z)) 0) (c ∷ z) ≡ w ++ rest → Blanks b w rest → Blanks (nat_lt (run class.NotLineFeed (take (cond t (suc (run class.Space z)) 0) (c ∷ z))) (cond t (suc (run class.Space z)) 0) || b) (take (cond t (suc (run class.Space z)) 0) (c ∷ z) ++ w) rest
    go true h more e x = subst (λ t. Blanks t (c ∷ take (run class.Space z) z ++ w) rest) (breaks (c == 10) refl) (space c h (more e x))
    go false h more e x = x

-- ---- comments

ends_line : (z : List ℕ) → EndsLine (drop (run class.NotLineFeed z) z)
ends_line [] = tt
ends_line (b ∷ z) = go (b == 10) refl (ends_line z)
  where
    go : (t : Bool) → (b == 10) ≡ t → EndsLine (drop (run class.NotLineFeed z) z) → EndsLine (drop (cond (not t) (suc (run class.NotLineFeed z)) 0) (b ∷ z))
    go true e more = eqb-true b 10 e
    go false e more = more

-- a comment to the end of its line
line_piece : (y w rest : List ℕ) (b : Bool) → drop (run class.NotLineFeed y) y ≡ w ++ rest → Blanks b w rest → Blanks b (47 ∷ 47 ∷ take (run class.NotLineFeed y) y ++ w) rest
line_piece y w rest b e h =
    let len : length (take (run class.NotLineFeed y) y) ≡ run class.NotLineFeed y = length-take-le (run class.NotLineFeed y) y (run_within class.NotLineFeed y) in
    let all : run class.NotLineFeed (take (run class.NotLineFeed y) y) ≡ length (take (run class.NotLineFeed y) y) = run_front class.NotLineFeed (run class.NotLineFeed y) y (omega arith) ∙ sym len in
    line (take (run class.NotLineFeed y) y) all (subst EndsLine e (ends_line y)) h

-- the first ending is the first also where the bytes end behind it
comment_front : (n : ℕ) (y : List ℕ) → comment_end y ≡ Some n → (take (suc (suc n)) y ≡ take n y ++ 42 ∷ 47 ∷ []) × (comment_end (take n y ++ 42 ∷ 47 ∷ []) ≡ Some n)
comment_front n [] given = absurd cc
comment_front n (b ∷ y) given = cond_both (ends_comment (b ∷ y)) _ _ P (λ q h. first n q (let same : 0 ≡ n = cc in same)) (λ goes_on h. later (comment_end y) (λ m f. comment_front m y f) goes_on n h) given
  where
    P : Option ℕ → Type 0
    P o = o ≡ Some n → (take (suc (suc n)) (b ∷ y) ≡ take n (b ∷ y) ++ 42 ∷ 47 ∷ []) × (comment_end (take n (b ∷ y) ++ 42 ∷ 47 ∷ []) ≡ Some n)

    first : (n : ℕ) → ends_comment (b ∷ y) ≡ true → 0 ≡ n → (take (suc (suc n)) (b ∷ y) ≡ take n (b ∷ y) ++ 42 ∷ 47 ∷ []) × (comment_end (take n (b ∷ y) ++ 42 ∷ 47 ∷ []) ≡ Some n)
    first (suc n) q same = absurd (omega arith)
    first zero q same = (ap (take 2) (two_bytes 42 47 (b ∷ y) (omega arith) (omega arith) q), refl)

    zeroth_byte : (m : ℕ) (y : List ℕ) → get_or (take (suc m) y) 0 0 ≡ get_or y 0 0
    zeroth_byte m [] = refl
    zeroth_byte m (c ∷ y) = refl

    later : (o : Option ℕ) → ((m : ℕ) → o ≡ Some m → (take (suc (suc m)) y ≡ take m y ++ 42 ∷ 47 ∷ []) × (comment_end (take m y ++ 42 ∷ 47 ∷ []) ≡ Some m)) → ends_comment (b ∷ y) ≡ false → (n : ℕ) → option_map (λ m. suc m) o ≡ Some n
        → (take (suc (suc n)) (b ∷ y) ≡ take n (b ∷ y) ++ 42 ∷ 47 ∷ []) × (comment_end (take n (b ∷ y) ++ 42 ∷ 47 ∷ []) ≡ Some n)
    later None further goes_on n h = absurd cc
    later (Some m) further goes_on zero h = let never : suc m ≡ 0 = cc in absurd (omega arith)
    later (Some m) further goes_on (suc n) h =
        let f = further n (let same : m ≡ n = cc in ap Some same) in
        let first_is : get_or (take n y ++ 42 ∷ 47 ∷ []) 0 0 ≡ get_or y 0 0 = ap (λ x. get_or x 0 0) (sym f.0) ∙ zeroth_byte (suc n) y in
        let no_ending : ends_comment (b ∷ take n y ++ 42 ∷ 47 ∷ []) ≡ false = ap (λ (x : ℕ). b == 42 && x == 47) first_is ∙ goes_on in
        (ap (λ x. b ∷ x) f.0, rw no_ending (ap (option_map (λ m. suc m)) f.1))

block_piece : (y w rest : List ℕ) (b : Bool) (n : ℕ) → comment_end y ≡ Some n → n ≤ length y → Blanks b w rest → Blanks b (take (n + 4) (47 ∷ 42 ∷ y) ++ w) rest
block_piece y w rest b n e small h =
    let f = comment_front n y e in
    let len : length (take n y) ≡ n = length-take-le n y small in
    let front : take (n + 4) (47 ∷ 42 ∷ y) ≡ 47 ∷ 42 ∷ take n y ++ 42 ∷ 47 ∷ [] = ap (λ (i : ℕ). take i (47 ∷ 42 ∷ y)) (let count : n + 4 ≡ suc (suc (suc (suc n))) = omega arith in count) ∙ ap (λ x. 47 ∷ 42 ∷ x) f.0 in
    subst (λ x. Blanks b x rest) (ap (λ x. 47 ∷ 42 ∷ x) (sym (append_assoc (take n y) (42 ∷ 47 ∷ []) w)) ∙ ap (λ x. x ++ w) (sym front))
    (block (take n y) (f.1 ∙ ap Some (sym len)) h)

blank_piece : (z w rest : List ℕ) (b : Bool) (g : Gap) → blank z ≡ Some g → drop g.len z ≡ w ++ rest → Blanks b w rest → Blanks (g.breaks_line || b) (take g.len z ++ w) rest
blank_piece z w rest b g =
    cond_both (is_space (get_or z 0 0)) _ _ P (λ _ e. subst Q (let same : white_space z ≡ g = cc in same) (spaces z w rest b))
    (λ _. cond_both (get_or z 0 0 == 47 && get_or z 1 0 == 47) _ _ P
    (λ h e. subst Q (let same : line_comment z ≡ g = cc in same) (subst (λ x. drop (run class.NotLineFeed x) x ≡ w ++ rest → Blanks b w rest → Blanks b (take (run class.NotLineFeed x) x ++ w) rest) (sym (two_bytes 47 47 z (omega arith) (omega arith) h)) (line_piece (drop 2 z) w rest b)))
    (λ _. cond_both (get_or z 0 0 == 47 && get_or z 1 0 == 42) _ _ P (λ h. by_end h (comment_end (drop 2 z)) refl)
    (λ _ e. subst Q (let same : gap 0 false ≡ g = cc in same) (λ _ h. h))))
  where
    Q : Gap → Type 0
    Q g = drop g.len z ≡ w ++ rest → Blanks b w rest → Blanks (g.breaks_line || b) (take g.len z ++ w) rest

    P : Option Gap → Type 0
    P o = o ≡ Some g → Q g

    by_end : (get_or z 0 0 == 47 && get_or z 1 0 == 42) ≡ true → (o : Option ℕ) → comment_end (drop 2 z) ≡ o → P (option_map (λ n. gap (n + 4) false) o)
    by_end h None c e = absurd cc
    by_end h (Some n) c e = subst Q (let same : gap (n + 4) false ≡ g = cc in same)
        (λ _ x. subst (λ y. Blanks b (take (n + 4) y ++ w) rest) (sym (two_bytes 47 42 z (omega arith) (omega arith) h)) (block_piece (drop 2 z) w rest b n c (let small : n + 2 ≤ length (drop 2 z) = comment_place (drop 2 z) n c in omega arith) x))

-- white space and comments from a place up to another, and what stands behind them
record Skipped (at p : ℕ) (breaks final : Bool) (z : List ℕ) : Type 0 where
  w : List ℕ
  rest : List ℕ
  inner : Bool
  whole : z ≡ w ++ rest
  count : p ≡ at + length w
  line_is : final ≡ (breaks || inner)
  blanks_are : Blanks inner w rest

or_none : (b : Bool) → b ≡ (b || false)
or_none true = refl
or_none false = refl

or_twice : (a b c : Bool) → ((a || b) || c) ≡ (a || (b || c))
or_twice true b c = refl
or_twice false b c = refl

abbrev nothing_skipped : (at : ℕ) (breaks : Bool) (z : List ℕ) → Skipped at at breaks breaks z
nothing_skipped at breaks z = record { w = []; rest = z; inner = false; whole = refl; count = (let e : at ≡ at + 0 = omega arith in e); line_is = or_none breaks; blanks_are = none }

abbrev more_skipped : (at p : ℕ) (breaks final : Bool) (z : List ℕ) (g : Gap) → blank z ≡ Some g → (s : Skipped (at + g.len) p (breaks || g.breaks_line) final (drop g.len z)) → Skipped at p breaks final z
more_skipped at p breaks final z g e s =
    let within : g.len ≤ length z = subst (BlankIn (length z)) e (blank_fits z) in
    let front : length (take g.len z) ≡ g.len = length-take-le g.len z within in
    let joined : length (take g.len z ++ s.w) ≡ length (take g.len z) + length s.w = length-append (take g.len z) s.w in
    let counted : p ≡ at + g.len + length s.w = s.count in
    record {
      w = take g.len z ++ s.w;
      rest = s.rest;
      inner = g.breaks_line || s.inner;
      whole = sym (take-append-drop g.len z) ∙ ap (λ x. take g.len z ++ x) s.whole ∙ sym (append_assoc (take g.len z) s.w s.rest);
      count = omega arith;
      line_is = s.line_is ∙ or_twice breaks g.breaks_line s.inner;
      blanks_are = blank_piece z s.w s.rest s.inner g e s.whole s.blanks_are;
    }

-- what white space and comments end with: neither goes on
record Ended (at : ℕ) (breaks : Bool) (z : List ℕ) (g : Gap) : Type 0 where
  skip : Skipped at g.len breaks g.breaks_line z
  more : Gap
  stop : blank skip.rest ≡ Some more
  no_more : more.len ≡ 0

ended : (f at : ℕ) (breaks : Bool) (z : List ℕ) (g : Gap) → length z < f → blanks_within f at breaks z ≡ Ok g → Ended at breaks z g
unfolding blanks_within
ended zero at breaks z g small h = absurd (omega arith)
ended (suc f) at breaks z g small h = go (blank z) refl (λ p some e. let len : length (drop p.len z) ≡ length z - p.len = length-drop p.len z in let within : p.len ≤ length z = subst (BlankIn (length z)) e (blank_fits z) in ended f (at + p.len) (breaks || p.breaks_line) (drop p.len z) g (omega arith)) h
  where
    go : (r : Option Gap) → blank z ≡ r → ((p : Gap) → p.len ≢ 0 → blank z ≡ Some p → blanks_within f (at + p.len) (breaks || p.breaks_line) (drop p.len z) ≡ Ok g → Ended (at + p.len) (breaks || p.breaks_line) (drop p.len z) g)
        → blanks_then at breaks r (λ p. blanks_within f (at + p.len) (breaks || p.breaks_line) (drop p.len z)) ≡ Ok g → Ended at breaks z g
    go None e more h = absurd cc
    go (Some p) e more given = cond_both (p.len == 0) _ _ (λ r. r ≡ Ok g → Ended at breaks z g)
        (λ n h. subst (Ended at breaks z) (let same : gap at breaks ≡ g = cc in same) (record { skip = nothing_skipped at breaks z; more = p; stop = e; no_more = eqb-true p.len 0 n }))
        (λ n h. let d : Ended (at + p.len) (breaks || p.breaks_line) (drop p.len z) g = more p (eqb-false p.len 0 n) e h in record { skip = more_skipped at g.len breaks g.breaks_line z p e d.skip; more = d.more; stop = d.stop; no_more = d.no_more }) given

-- white space and comments in front of a comment that has no end
record Open (at p : ℕ) (breaks : Bool) (z : List ℕ) : Type 0 where
  final : Bool
  skip : Skipped at p breaks final z
  stop : blank skip.rest ≡ None

opened : (f at : ℕ) (breaks : Bool) (z : List ℕ) (p : ℕ) → blanks_within f at breaks z ≡ Err p → Open at p breaks z
unfolding blanks_within
opened zero at breaks z p h = absurd cc
opened (suc f) at breaks z p h = go (blank z) refl (λ g. opened f (at + g.len) (breaks || g.breaks_line) (drop g.len z) p) h
  where
    go : (r : Option Gap) → blank z ≡ r → ((g : Gap) → blanks_within f (at + g.len) (breaks || g.breaks_line) (drop g.len z) ≡ Err p → Open (at + g.len) p (breaks || g.breaks_line) (drop g.len z))
        → blanks_then at breaks r (λ g. blanks_within f (at + g.len) (breaks || g.breaks_line) (drop g.len z)) ≡ Err p → Open at p breaks z
    go None e more h = subst (λ n. Open at n breaks z) (let same : at ≡ p = cc in same) (record { final = breaks; skip = nothing_skipped at breaks z; stop = e })
    go (Some g) e more given = cond_both (g.len == 0) _ _ (λ r. r ≡ Err p → Open at p breaks z) (λ n h. absurd cc)
        (λ n h. let d : Open (at + g.len) p (breaks || g.breaks_line) (drop g.len z) = more g h in record { final = d.final; skip = more_skipped at p breaks d.final z g e d.skip; stop = d.stop }) given

-- a comment that has no end
open_is : (z : List ℕ) → blank z ≡ None → BeginsBadly z
open_is z = cond_both (is_space (get_or z 0 0)) _ _ P (λ _ e. absurd cc)
    (λ _. cond_both (get_or z 0 0 == 47 && get_or z 1 0 == 47) _ _ P (λ _ e. absurd cc)
    (λ _. cond_both (get_or z 0 0 == 47 && get_or z 1 0 == 42) _ _ P (λ h. by_end h (comment_end (drop 2 z)) refl) (λ _ e. absurd cc)))
  where
    P : Option Gap → Type 0
    P o = o ≡ None → BeginsBadly z

    by_end : (get_or z 0 0 == 47 && get_or z 1 0 == 42) ≡ true → (o : Option ℕ) → comment_end (drop 2 z) ≡ o → P (option_map (λ n. gap (n + 4) false) o)
    by_end h None c e = subst BeginsBadly (sym (two_bytes 47 42 z (omega arith) (omega arith) h)) (open_comment (drop 2 z) c)
    by_end h (Some n) c e = absurd cc

-- where white space and comments have ended none begins
no_blank : (z : List ℕ) (g : Gap) → 0 < length z → blank z ≡ Some g → g.len ≡ 0 → begins_blank z ≡ false
no_blank z g some e is_zero = go (is_space (get_or z 0 0)) (get_or z 0 0 == 47) (get_or z 1 0 == 47) (get_or z 1 0 == 42) refl refl e
  where
    len_of : (x : Gap) → Some x ≡ Some g → x.len ≡ 0
    len_of x h = let same : x ≡ g = cc in ap (λ (y : Gap). y.len) same ∙ is_zero

    by_end : (o : Option ℕ) → option_map (λ n. gap (n + 4) false) o ≡ Some g → ⊥
    by_end None h = absurd cc
    by_end (Some n) h = let len : n + 4 ≡ 0 = len_of (gap (n + 4) false) h in omega arith

    go : (s a b c : Bool) → is_space (get_or z 0 0) ≡ s → (get_or z 0 0 == 47) ≡ a
        → cond s (Some (white_space z)) (cond (a && b) (Some (line_comment z)) (cond (a && c) (block_comment z) (Some (gap 0 false)))) ≡ Some g → (s || (a && (b || c))) ≡ false
    go true a b c h i e = let len : run class.Space z ≡ 0 = len_of (white_space z) e in let more : 0 < run class.Space z = run_some class.Space z h some in absurd (omega arith)
    go false false b c h i e = refl
    go false true true c h i e =
        let len : run class.NotLineFeed z ≡ 0 = len_of (line_comment z) e in
        let more : 0 < run class.NotLineFeed z = run_some class.NotLineFeed z (subst (λ x. is_in class.NotLineFeed x ≡ true) (sym (eqb-true (get_or z 0 0) 47 i)) refl) some in
        absurd (omega arith)
    go false true false true h i e = absurd (by_end (comment_end (drop 2 z)) e)
    go false true false false h i e = refl

-- ---- what is left is covered

record EndFound (l : Left) : Type 0 where
  g : Gap
  blank_is : blanks (drop l.at l.bytes) ≡ Ok g
  past : length l.bytes ≤ l.at + g.len

end_found : (l : Left) → next_of l ≡ Ok None → EndFound l
unfolding next_of
end_found l h = by_blanks (blanks (drop l.at l.bytes)) refl h
  where
    never : (g : Gap) (o : Option Found) → found_at l.bytes (l.at + g.len) (begins_line l.at g) o ≡ Ok None → ⊥
    never g None h = cc
    never g (Some t) h = cc

    by_end : (g : Gap) → blanks (drop l.at l.bytes) ≡ Ok g → (b : Bool) → nat_le (length l.bytes) (l.at + g.len) ≡ b → cond b (Ok None) (found_at l.bytes (l.at + g.len) (begins_line l.at g) (cut (drop (l.at + g.len) l.bytes))) ≡ Ok None → EndFound l
    by_end g e true b h = record { g = g; blank_is = e; past = leb-true (length l.bytes) (l.at + g.len) b }
    by_end g e false b h = absurd (never g (cut (drop (l.at + g.len) l.bytes)) h)

    by_blanks : (r : Result Gap ℕ) → blanks (drop l.at l.bytes) ≡ r → next_behind l r ≡ Ok None → EndFound l
    by_blanks (Err n) e h = absurd cc
    by_blanks (Ok g) e h = by_end g e (nat_le (length l.bytes) (l.at + g.len)) refl h

-- the rest behind what was skipped is what stands at its place
rest_is : (l : Left) (n : ℕ) (breaks final : Bool) (s : Skipped 0 n breaks final (drop l.at l.bytes)) → s.rest ≡ drop (l.at + n) l.bytes
rest_is l n breaks final s =
    let counted : n ≡ length s.w = (let c : n ≡ 0 + length s.w = s.count in omega arith) in
    sym (ap (λ m. drop m (s.w ++ s.rest)) counted ∙ drop_front s.w s.rest) ∙ ap (drop n) (sym s.whole) ∙ drop-drop n l.at l.bytes

-- the tokens end behind what was skipped
stops_at : (l : Left) (n : ℕ) (breaks final : Bool) (s : Skipped 0 n breaks final (drop l.at l.bytes)) → BeginsBadly s.rest → Covers l.at (drop l.at l.bytes) [] (Some (bad_token (l.at + n)))
stops_at l n breaks final s b =
    let counted : l.at + n ≡ l.at + length s.w = (let c : n ≡ 0 + length s.w = s.count in omega arith) in
    subst (λ x. Covers l.at x [] (Some (bad_token (l.at + n)))) (sym s.whole) (subst (λ p. Covers l.at (s.w ++ s.rest) [] (Some (bad_token p))) (sym counted) (stopped s.w s.rest s.blanks_are b))

broken_covers : (l : Left) (r : BadToken) → next_of l ≡ Err r → Covers l.at (drop l.at l.bytes) [] (Some r)
unfolding next_of
broken_covers l r h = by_blanks (blanks (drop l.at l.bytes)) refl h
  where
    by_cut : (g : Gap) → blanks (drop l.at l.bytes) ≡ Ok g → l.at + g.len < length l.bytes → (o : Option Found) → cut (drop (l.at + g.len) l.bytes) ≡ o → found_at l.bytes (l.at + g.len) (begins_line l.at g) o ≡ Err r → Covers l.at (drop l.at l.bytes) [] (Some r)
    by_cut g e i (Some t) c h = absurd cc
    by_cut g e i None c h =
        let d : Ended 0 false (drop l.at l.bytes) g = ended _ 0 false (drop l.at l.bytes) g (omega arith) e in
        let is : d.skip.rest ≡ drop (l.at + g.len) l.bytes = rest_is l g.len false g.breaks_line d.skip in
        let len : length (drop (l.at + g.len) l.bytes) ≡ length l.bytes - (l.at + g.len) = length-drop (l.at + g.len) l.bytes in
        let same_len : length d.skip.rest ≡ length (drop (l.at + g.len) l.bytes) = ap length is in
        let some : 0 < length d.skip.rest = omega arith in
        subst (λ x. Covers l.at (drop l.at l.bytes) [] (Some x)) (let same : bad_token (l.at + g.len) ≡ r = cc in same)
        (stops_at l g.len false g.breaks_line d.skip (cut_badly d.skip.rest some (no_blank d.skip.rest d.more some d.stop d.no_more) (ap cut is ∙ c)))

    by_end : (g : Gap) → blanks (drop l.at l.bytes) ≡ Ok g → (b : Bool) → nat_le (length l.bytes) (l.at + g.len) ≡ b → cond b (Ok None) (found_at l.bytes (l.at + g.len) (begins_line l.at g) (cut (drop (l.at + g.len) l.bytes))) ≡ Err r → Covers l.at (drop l.at l.bytes) [] (Some r)
    by_end g e true b h = absurd cc
    by_end g e false b h = by_cut g e (leb-false (length l.bytes) (l.at + g.len) b) (cut (drop (l.at + g.len) l.bytes)) refl h

    by_blanks : (a : Result Gap ℕ) → blanks (drop l.at l.bytes) ≡ a → next_behind l a ≡ Err r → Covers l.at (drop l.at l.bytes) [] (Some r)
    by_blanks (Err n) e h =
        let d : Open 0 n false (drop l.at l.bytes) = opened _ 0 false (drop l.at l.bytes) n e in
        subst (λ x. Covers l.at (drop l.at l.bytes) [] (Some x)) (let same : bad_token (l.at + n) ≡ r = cc in same) (stops_at l n false d.final d.skip (open_is d.skip.rest d.stop))
    by_blanks (Ok g) e h = by_end g e (nat_le (length l.bytes) (l.at + g.len)) refl h

covered_next : (l : Left) (g : Gap) (found : Found) → l.at + g.len < length l.bytes → cut (drop (l.at + g.len) l.bytes) ≡ Some found → Ended 0 false (drop l.at l.bytes) g → (ts : List Lexeme) (o : Option BadToken)
    → Covers (l.at + g.len + found.len) (drop (l.at + g.len + found.len) l.bytes) ts o → Covers l.at (drop l.at l.bytes) (lexeme l.bytes (l.at + g.len) (begins_line l.at g) found ∷ ts) o
covered_next l g found inside cut_is d ts o further =
    let s : Skipped 0 g.len false g.breaks_line (drop l.at l.bytes) = d.skip in
    let is : s.rest ≡ drop (l.at + g.len) l.bytes = rest_is l g.len false g.breaks_line s in
    let split : s.rest ≡ take found.len (drop (l.at + g.len) l.bytes) ++ drop found.len (drop (l.at + g.len) l.bytes) = is ∙ sym (take-append-drop found.len (drop (l.at + g.len) l.bytes)) in
    let bound = found_within l.bytes (l.at + g.len) (begins_line l.at g) found inside cut_is in
    let far : l.at + g.len + found.len ≤ length l.bytes = bound.1 in
    let some : 0 < found.len = bound.0 in
    let len : length (drop (l.at + g.len) l.bytes) ≡ length l.bytes - (l.at + g.len) = length-drop (l.at + g.len) l.bytes in
    let same_len : length s.rest ≡ length (drop (l.at + g.len) l.bytes) = ap length is in
    let blank : begins_blank (drop (l.at + g.len) l.bytes) ≡ false = ap begins_blank (sym is) ∙ no_blank s.rest d.more (omega arith) d.stop d.no_more in
    let text_len : length (take found.len (drop (l.at + g.len) l.bytes)) ≡ found.len = length-take-le found.len (drop (l.at + g.len) l.bytes) (omega arith) in
    let counted : l.at + g.len ≡ l.at + length s.w = (let c : g.len ≡ 0 + length s.w = s.count in omega arith) in
    let ends : l.at + g.len + found.len ≡ l.at + g.len + length (take found.len (drop (l.at + g.len) l.bytes)) = omega arith in
    let more : Covers (l.at + g.len + found.len) (drop found.len (drop (l.at + g.len) l.bytes)) ts o = subst (λ x. Covers (l.at + g.len + found.len) x ts o) (sym (drop-drop found.len (l.at + g.len) l.bytes)) further in
    let whole : drop l.at l.bytes ≡ s.w ++ take found.len (drop (l.at + g.len) l.bytes) ++ drop found.len (drop (l.at + g.len) l.bytes) = s.whole ∙ ap (λ x. s.w ++ x) split ∙ sym (append_assoc s.w (take found.len (drop (l.at + g.len) l.bytes)) (drop found.len (drop (l.at + g.len) l.bytes))) in
    subst (λ x. Covers l.at x (lexeme l.bytes (l.at + g.len) (begins_line l.at g) found ∷ ts) o) (sym whole)
    (next s.w (drop found.len (drop (l.at + g.len) l.bytes)) (lexeme l.bytes (l.at + g.len) (begins_line l.at g) found) (subst (λ x. Blanks s.inner s.w x) split s.blanks_are)
    (cut_longest (drop (l.at + g.len) l.bytes) found (omega arith) blank cut_is) counted ends (ap (λ b. l.at == 0 || b) s.line_is) more)

empty : (z : List ℕ) → length z ≡ 0 → z ≡ []
empty [] h = refl
empty (b ∷ z) h = absurd (omega arith)

pub covered : (l : Left) (ts : List Lexeme) (o : Option BadToken) → l.at ≤ length l.bytes → Tokens l ts o → Covers l.at (drop l.at l.bytes) ts o
covered _ _ _ within (end l e) =
    let f : EndFound l = end_found l e in
    let d : Ended 0 false (drop l.at l.bytes) f.g = ended _ 0 false (drop l.at l.bytes) f.g (omega arith) f.blank_is in
    let past : length l.bytes ≤ l.at + f.g.len = f.past in
    let counted : f.g.len ≡ 0 + length d.skip.w = d.skip.count in
    let len : length (drop l.at l.bytes) ≡ length l.bytes - l.at = length-drop l.at l.bytes in
    let split : length (drop l.at l.bytes) ≡ length d.skip.w + length d.skip.rest = ap length d.skip.whole ∙ length-append d.skip.w d.skip.rest in
    let nothing : d.skip.rest ≡ [] = empty d.skip.rest (omega arith) in
    let all : drop l.at l.bytes ≡ d.skip.w = d.skip.whole ∙ ap (λ x. d.skip.w ++ x) nothing ∙ append-nil d.skip.w in
    subst (λ x. Covers l.at x [] None) (sym all) (last d.skip.w (subst (λ x. Blanks d.skip.inner d.skip.w x) nothing d.skip.blanks_are))
covered _ _ _ within (broken l r e) = broken_covers l r e
covered _ _ _ within (token l t {ts} {o} e more) =
    let f : TokenFound l t = token_found l t e in
    let d : Ended 0 false (drop l.at l.bytes) f.gap = ended _ 0 false (drop l.at l.bytes) f.gap (omega arith) f.blank in
    let ends : t.end ≤ length l.bytes = token_ends l t e in
    let further : Covers t.end (drop t.end l.bytes) ts o = covered (behind l (Ok (Some t))) ts o ends more in
    subst (λ (x : Lexeme). Covers x.end (drop x.end l.bytes) ts o → Covers l.at (drop l.at l.bytes) (x ∷ ts) o) f.is (covered_next l f.gap f.found f.inside f.cut_is d ts o) further
