-- The tokens of a text that is written token by token.
use Rattle.std.proofs.Common.{◌≡◌, ℕ, zero, suc, ◌+◌, ◌<◌, ◌≤◌, Bool, true, false, cond, not, ◌&&◌, ◌||◌, ◌==◌, nat_lt, List, [], ◌∷◌, ◌++◌, length, get_or, map, append_assoc, append-nil, Option, Some, None, is_some, refl, sym, ap, subst, ◌∙◌, length-append, arith}
use Rattle.std.proofs.lemmas.Bool.{cond_both, eqb-true, ltb-true, ltb-false, lt-ltb, le-ltb}
use Rattle.c_lexer.specs.declared.bytes.Class.TheVariants as class
use Rattle.c_lexer.specs.declared.token.Sign.{Sign}
use Rattle.c_lexer.specs.declared.token.Sign.TheVariants as s
use Rattle.c_lexer.specs.Bytes.{is_space, is_letter, is_digit, is_in, begins_number, run}
use Rattle.c_lexer.specs.Signs.{sign_of_two, sign_of_three, sign_with_equals, doubled_sign}
use Rattle.c_lexer.specs.Tokens.{Lexeme, Tokens, all_of}
use Rattle.c_lexer.specs.Written.{IsToken}
use Rattle.c_lexer.specs.Laws.{IsLongest}
use Rattle.c_lexer.specs.Apart.{Item, joins, sign_goes_on, needs_space, has_line_feed, Puts, done, put}
use Rattle.c_lexer.proofs.ListLemmas.{first_of, run_append}
use Rattle.c_lexer.proofs.ApartLemmas.{apart, puts_read}
use Rattle.c_printer.specs.declared.piece.Piece.{Piece}
use Rattle.c_printer.specs.Put.{CanBePut, kind_of, spelled}
use Rattle.c_printer.specs.Text.{Text, gap, with_token, spaces, Stays, Says, nothing, white, token}
use Rattle.c_printer.proofs.PutLemmas.{put_token_is}

-- ---- white space keeps tokens apart

both_false : (a b : Bool) → b ≡ false → (a && b) ≡ false
both_false true b h = h
both_false false b h = refl

-- bytes that no token goes on with
pub record Quiet (b : ℕ) : Type 0 where
  word : is_in class.Word b ≡ false
  number : is_in class.Number b ≡ false
  text : (b == 34) ≡ false
  character : (b == 39) ≡ false
  equals : (b == 61) ≡ false
  greater : (b == 62) ≡ false
  dot : (b == 46) ≡ false
  slash : (b == 47) ≡ false
  star : (b == 42) ≡ false
  digit : is_digit b ≡ false
  doubled : doubled_sign b ≡ None

no_two : (x b : ℕ) → Quiet b → sign_of_two x b ≡ None
no_two x b q = ap (λ t. cond t (sign_with_equals x) (cond (x == b) (doubled_sign x) (cond (x == 45 && b == 62) (Some s.Arrow) None))) q.equals ∙ go (x == b) refl
  where
    go : (t : Bool) → (x == b) ≡ t → cond t (doubled_sign x) (cond (x == 45 && b == 62) (Some s.Arrow) None) ≡ None
    go true e = ap doubled_sign (eqb-true x b e) ∙ q.doubled
    go false e = ap (λ t. cond {A = Option Sign} t (Some s.Arrow) None) (both_false (x == 45) (b == 62) q.greater)

no_three : (x y b : ℕ) → Quiet b → sign_of_three x y b ≡ None
no_three x y b q = rw (q.equals, q.dot) (go (x == 60 && y == 60) (x == 62 && y == 62) (x == 46 && y == 46))
  where
    go : (a c d : Bool) → cond (a && false) (Some s.ShiftLeftAssign) (cond (c && false) (Some s.ShiftRightAssign) (cond (d && false) (Some s.Ellipsis) None)) ≡ None
    go a c d = rw (both_false a false refl, both_false c false refl, both_false d false refl) refl

no_join : (x b : ℕ) → Quiet b → joins x b ≡ false
no_join x b q = rw (no_two x b q, q.dot, q.digit, q.slash, q.star, both_false (x == 46) false refl, both_false (x == 47) false refl) refl

quiet_sign : (w : List ℕ) (b : ℕ) → Quiet b → sign_goes_on w b ≡ false
quiet_sign w b q = cond_both (length w == 1) _ _ (λ t. t ≡ false) (λ _. no_join (get_or w 0 0) b q) (λ _. cond_both (length w == 2) _ _ (λ t. t ≡ false) (λ _. ap is_some (no_three (get_or w 0 0) (get_or w 1 0) b q)) (λ _. refl))

pub quiet : (w : List ℕ) (b : ℕ) → Quiet b → needs_space w b ≡ false
quiet w b q = cond_both (is_letter (get_or w 0 0)) _ _ (λ t. t ≡ false) (λ _. rw (q.word, q.text, q.character) refl)
    (λ _. cond_both (begins_number w) _ _ (λ t. t ≡ false) (λ _. q.number) (λ _. cond_both (get_or w 0 0 == 34 || get_or w 0 0 == 39) _ _ (λ t. t ≡ false) (λ _. refl) (λ _. quiet_sign w b q)))

pub quiet_zero : Quiet 0
quiet_zero = record { word = refl; number = refl; text = refl; character = refl; equals = refl; greater = refl; dot = refl; slash = refl; star = refl; digit = refl; doubled = refl }

pub quiet_space : (b : ℕ) → is_space b ≡ true → Quiet b
quiet_space b h = go (b == 32) (b == 9) (b == 10) (b == 12) (b == 13) refl refl refl refl refl h
  where
    at : (x : ℕ) → (b == x) ≡ true → Quiet x → Quiet b
    at x e q = subst Quiet (sym (eqb-true b x e)) q

    go : (s t u v w : Bool) → (b == 32) ≡ s → (b == 9) ≡ t → (b == 10) ≡ u → (b == 12) ≡ v → (b == 13) ≡ w → (s || t || u || v || w) ≡ true → Quiet b
    go true t u v w a c d e f h = at 32 a (record { word = refl; number = refl; text = refl; character = refl; equals = refl; greater = refl; dot = refl; slash = refl; star = refl; digit = refl; doubled = refl })
    go false true u v w a c d e f h = at 9 c (record { word = refl; number = refl; text = refl; character = refl; equals = refl; greater = refl; dot = refl; slash = refl; star = refl; digit = refl; doubled = refl })
    go false false true v w a c d e f h = at 10 d (record { word = refl; number = refl; text = refl; character = refl; equals = refl; greater = refl; dot = refl; slash = refl; star = refl; digit = refl; doubled = refl })
    go false false false true w a c d e f h = at 12 e (record { word = refl; number = refl; text = refl; character = refl; equals = refl; greater = refl; dot = refl; slash = refl; star = refl; digit = refl; doubled = refl })
    go false false false false true a c d e f h = at 13 f (record { word = refl; number = refl; text = refl; character = refl; equals = refl; greater = refl; dot = refl; slash = refl; star = refl; digit = refl; doubled = refl })
    go false false false false false a c d e f h = absurd cc

pub white_first : (b : ℕ) (w : List ℕ) → run class.Space (b ∷ w) ≡ suc (length w) → is_space b ≡ true
white_first b w h = go (is_space b) h
  where
    go : (t : Bool) → cond t (suc (run class.Space w)) 0 ≡ suc (length w) → t ≡ true
    go true h = refl
    go false h = absurd (omega arith)

-- ---- line feeds

less_suc : (m n : ℕ) → nat_lt (suc m) (suc n) ≡ nat_lt m n
less_suc m n = go (nat_lt m n) refl
  where
    go : (t : Bool) → nat_lt m n ≡ t → nat_lt (suc m) (suc n) ≡ t
    go true e = let small : m < n = ltb-true m n e in lt-ltb (suc m) (suc n) (omega arith)
    go false e = let large : n ≤ m = ltb-false m n e in le-ltb (suc m) (suc n) (omega arith)

pub line_feed : (b : ℕ) (w : List ℕ) → has_line_feed (b ∷ w) ≡ (b == 10 || has_line_feed w)
line_feed b w = go (b == 10)
  where
    go : (t : Bool) → nat_lt (cond (not t) (suc (run class.NotLineFeed w)) 0) (suc (length w)) ≡ (t || has_line_feed w)
    go true = lt-ltb 0 (suc (length w)) (omega arith)
    go false = less_suc (run class.NotLineFeed w) (length w)

pub line_feeds : (u v : List ℕ) → has_line_feed (u ++ v) ≡ (has_line_feed u || has_line_feed v)
line_feeds [] v = refl
line_feeds (b ∷ u) v = line_feed b (u ++ v) ∙ ap (λ t. b == 10 || t) (line_feeds u v) ∙ or_twice (b == 10) (has_line_feed u) (has_line_feed v) ∙ ap (λ t. t || has_line_feed v) (sym (line_feed b u))
  where
    or_twice : (a b c : Bool) → (a || (b || c)) ≡ ((a || b) || c)
    or_twice true b c = refl
    or_twice false b c = refl

or_twice : (a b c : Bool) → ((a || b) || c) ≡ (a || (b || c))
or_twice true b c = refl
or_twice false b c = refl

pub or_false : (a : Bool) → (a || false) ≡ a
or_false true = refl
or_false false = refl

-- ---- from left to right

-- white space in front of a text
before : (w : List ℕ) → run class.Space w ≡ length w → (first : Bool) (ts : List Item) (z : List ℕ) → Puts (first || has_line_feed w) ts z → Puts first ts (w ++ z)
before w h first _ _ (done v g) = done (w ++ v) (let counted : run class.Space (w ++ v) ≡ length w + run class.Space v = run_append class.Space w v h in let len : length (w ++ v) ≡ length w + length v = length-append w v in omega arith)
before w h first _ _ (put v text z kind {ts} g i n more) =
    let counted : run class.Space (w ++ v) ≡ length w + run class.Space v = run_append class.Space w v h in
    let len : length (w ++ v) ≡ length w + length v = length-append w v in
    let flag : (first || has_line_feed (w ++ v)) ≡ ((first || has_line_feed w) || has_line_feed v) = ap (λ t. first || t) (line_feeds w v) ∙ sym (or_twice first (has_line_feed w) (has_line_feed v)) in
    subst (λ x. Puts first ((text, kind, (first || has_line_feed w) || has_line_feed v) ∷ ts) x) (ap (λ x. x ++ z) (append_assoc w v text) ∙ append_assoc w (v ++ text) z)
    (subst (λ t. Puts first ((text, kind, t) ∷ ts) ((w ++ v) ++ text ++ z)) flag (put (w ++ v) text z kind (omega arith) i n more))

-- what stands right behind the last token
abbrev Behind : Option (List ℕ) → List ℕ → Type 0
Behind = Stays

white_behind : (o : Option (List ℕ)) (w z : List ℕ) → 0 < length w → run class.Space w ≡ length w → Behind o (w ++ z)
white_behind None w z some h = tt
white_behind (Some l) [] z some h = absurd (omega arith)
white_behind (Some l) (b ∷ w) z some h = quiet l b (quiet_space b (white_first b w h))

token_behind : (o : Option (List ℕ)) (w z : List ℕ) → 0 < length w → Stays o w → Behind o (w ++ z)
token_behind None w z some h = tt
token_behind (Some l) w z some h = ap (needs_space l) (first_of w z 0 some) ∙ h

end_behind : (o : Option (List ℕ)) → Behind o []
end_behind None = tt
end_behind (Some l) = quiet l 0 quiet_zero

then_puts : (ts : List Item) (first : Bool) (t : Text) → Says ts first t → (us : List Item) (z : List ℕ) → Puts first us z → Behind t.last z → Puts true (ts ++ us) (t.bytes ++ z)
then_puts _ _ _ nothing us z p b = p
then_puts _ _ _ (white w {ts} {first} {t} some h s) us z p b =
    subst (Puts true (ts ++ us)) (sym (append_assoc t.bytes w z)) (then_puts ts first t s us (w ++ z) (before w h first us z p) (white_behind t.last w z some h))
then_puts _ _ _ (token w kind {ts} {first} {t} i stays s) us z p b =
    let longest_is : IsLongest w z kind = apart w z kind i b in
    subst (Puts true ((ts ++ (w, kind, first) ∷ []) ++ us)) (sym (append_assoc t.bytes w z)) (subst (λ x. Puts true x (t.bytes ++ (w ++ z))) (sym (append_assoc ts ((w, kind, first) ∷ []) us))
    (then_puts ts first t s ((w, kind, first) ∷ us) (w ++ z) (subst (λ f. Puts first ((w, kind, f) ∷ us) (w ++ z)) (or_false first) (put [] w z kind refl i b p)) (token_behind t.last w z longest_is.some stays)))

pub says_read : (ts : List Item) (first : Bool) (t : Text) → Says ts first t → (ls : List Lexeme) × Tokens (all_of t.bytes) ls None × (map (λ (l : Lexeme). (l.text, l.kind, l.begins_line)) ls ≡ ts)
says_read ts first t s =
    let p : Puts true ts t.bytes = subst (λ x. Puts true x t.bytes) (append-nil ts) (subst (Puts true (ts ++ [])) (append-nil t.bytes) (then_puts ts first t s [] [] (done [] refl) (end_behind t.last))) in
    puts_read ts t.bytes p

-- ---- one token more

pub says_token : (p : Piece) (ts : List Item) (first : Bool) (t : Text) → CanBePut p → Says ts first t → Says (ts ++ (spelled p, kind_of p, first) ∷ []) false (with_token t (spelled p))
says_token p ts first t can s = by_last t.last refl
  where
    i : IsToken (spelled p) (kind_of p)
    i = put_token_is p can

    right_behind : Stays t.last (spelled p) → gap t.last (spelled p) ≡ [] → Says (ts ++ (spelled p, kind_of p, first) ∷ []) false (with_token t (spelled p))
    right_behind stays e = subst (λ x. Says (ts ++ (spelled p, kind_of p, first) ∷ []) false (record { bytes = x ++ spelled p; last = Some (spelled p) })) (sym (append-nil t.bytes) ∙ ap (λ g. t.bytes ++ g) (sym e)) (token (spelled p) (kind_of p) i stays s)

    with_space : gap t.last (spelled p) ≡ 32 ∷ [] → Says (ts ++ (spelled p, kind_of p, first) ∷ []) false (with_token t (spelled p))
    with_space e =
        subst (λ x. Says (ts ++ (spelled p, kind_of p, first) ∷ []) false (record { bytes = (t.bytes ++ x) ++ spelled p; last = Some (spelled p) })) (sym e)
        (subst (λ f. Says (ts ++ (spelled p, kind_of p, f) ∷ []) false (record { bytes = (t.bytes ++ 32 ∷ []) ++ spelled p; last = Some (spelled p) })) (or_false first)
        (token (spelled p) (kind_of p) i tt (white (32 ∷ []) (omega arith) refl s)))

    by_need : (l : List ℕ) → t.last ≡ Some l → (n : Bool) → needs_space l (get_or (spelled p) 0 0) ≡ n → Says (ts ++ (spelled p, kind_of p, first) ∷ []) false (with_token t (spelled p))
    by_need l e true n = with_space (ap (λ o. gap o (spelled p)) e ∙ ap (λ b. cond b (32 ∷ []) []) n)
    by_need l e false n = right_behind (subst (λ o. Stays o (spelled p)) (sym e) n) (ap (λ o. gap o (spelled p)) e ∙ ap (λ b. cond b (32 ∷ []) []) n)

    by_last : (o : Option (List ℕ)) → t.last ≡ o → Says (ts ++ (spelled p, kind_of p, first) ∷ []) false (with_token t (spelled p))
    by_last None e = right_behind (subst (λ o. Stays o (spelled p)) (sym e) tt) (ap (λ o. gap o (spelled p)) e)
    by_last (Some l) e = by_need l e (needs_space l (get_or (spelled p) 0 0)) refl

-- ---- spaces

pub one_space : (n : ℕ) → spaces n ++ 32 ∷ [] ≡ spaces (n + 1)
one_space zero = refl
one_space (suc n) = ap (λ z. 32 ∷ z) (one_space n) ∙ ap spaces (let e : suc (n + 1) ≡ suc n + 1 = omega arith in e)

pub more_spaces : (z y : List ℕ) (n : ℕ) → z ≡ y ++ spaces n → z ++ 32 ∷ [] ≡ y ++ spaces (n + 1)
more_spaces z y n e = ap (λ x. x ++ 32 ∷ []) e ∙ append_assoc y (spaces n) (32 ∷ []) ∙ ap (λ x. y ++ x) (one_space n)
