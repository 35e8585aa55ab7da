-- The tokens of bytes are in order, also where the name of an included file is one.
use Rattle.std.proofs.Common.{◌≡◌, ◌∙◌, refl, sym, subst, ℕ, zero, suc, ◌-◌, ◌+◌, ◌<◌, ◌≤◌, Bool, true, false, cond, ◌&&◌, ◌==◌, List, [], ◌∷◌}
use Rattle.std.proofs.Common.{◌++◌, length, take, drop, codes, Option, Some, None, Result, Ok, Err, nat_le, length-append, eqb-true, arith}
use Rattle.std.proofs.lemmas.List.{length-drop, length-take-le}
use Rattle.std.proofs.lemmas.Bool.{cond_both}
use Rattle.std.specs.Str.{bytes_eq}
use Rattle.c_lexer.specs.declared.token.BadToken.{BadToken}
use Rattle.c_lexer.specs.declared.token.Sign.TheVariants as sign
use Rattle.c_lexer.specs.declared.token.TokenKind.{TokenKind}
use Rattle.c_lexer.specs.declared.token.TokenKind.TheVariants as k
use Rattle.c_lexer.specs.declared.pieces.Found.{Found}
use Rattle.c_lexer.specs.declared.pieces.Gap.{Gap}
use Rattle.c_lexer.specs.Blanks.{blanks}
use Rattle.c_lexer.specs.Cut.{cut}
use Rattle.c_lexer.specs.Tokens.{Left, Lexeme, Answer, Tokens, end, broken, token, all_of, bad_token, begins_line, next_of, next_behind, found_at}
use Rattle.c_lexer.proofs.NextLemmas.{TokenFound, token_found, token_ends, found_within, gap_within, broken_within}
use Rattle.c_tree.specs.declared.unit.Include.TheVariants as include
use Rattle.c_tree.specs.Words.{Word, Named, named, side_by_side, system_file, own_file, file_at, is_file_name, Behind, Other, Hash}
use Rattle.c_tree.specs.Words.{IncludeWord, Inside, is_hash, is_include, then_behind, file_behind, words_by, words_behind, words, start_of}
use Rattle.c_tree.specs.Answers.{ending}
use Rattle.c_grammar.specs.Fronts.{end_of}
use Rattle.c_parser.specs.Ordered.{InOrder}

-- 1. Tokens of bytes

-- tokens in a row from a place to another
abbrev Row : ℕ → ℕ → List Lexeme → Type 0
Row at n [] = at ≤ n
Row at n (t ∷ ts) = ((at ≤ t.start) × (t.end ≡ t.start + length t.text)) × ((0 < length t.text) × Row t.end n ts)

row_weak : (at from n : ℕ) (ts : List Lexeme) → from ≤ at → Row at n ts → Row from n ts
row_weak at from n [] h r = omega (arith, h, r)
row_weak at from n (t ∷ ts) h r = ((omega (arith, h, r.0.0), r.0.1), r.1)

drop_row : (k at n : ℕ) (ts : List Lexeme) → Row at n ts → Row at n (drop k ts)
drop_row zero at n ts r = r
drop_row (suc k) at n [] r = r
drop_row (suc k) at n (t ∷ ts) r = drop_row k at n ts (row_weak t.end at n ts (omega (arith, r.0.0, r.0.1)) r.1.1)

-- where the tokens of bytes end
abbrev end_in : Left → Option BadToken → ℕ
end_in l None = length l.bytes
end_in l (Some b) = b.at

-- a token stands behind what is in front of it, and has length
abbrev Stands : ℕ → Lexeme → Type 0
Stands at t = ((at ≤ t.start) × (t.end ≡ t.start + length t.text)) × (0 < length t.text)

token_stands : (l : Left) (t : Lexeme) → next_of l ≡ Ok (Some t) → Stands l.at t
token_stands l t h =
    let f : TokenFound l t = token_found l t h in
    let within = found_within l.bytes (l.at + f.gap.len) (begins_line l.at f.gap) f.found f.inside f.cut_is in
    let rest : length (drop (l.at + f.gap.len) l.bytes) ≡ length l.bytes - (l.at + f.gap.len) = length-drop (l.at + f.gap.len) l.bytes in
    let text : length (take f.found.len (drop (l.at + f.gap.len) l.bytes)) ≡ f.found.len =
    length-take-le f.found.len (drop (l.at + f.gap.len) l.bytes) (omega (arith, within.1, rest)) in
    subst (Stands l.at) f.is ((omega arith, omega (arith, text)), omega (arith, text, within.0))

-- where the next is no token, it stands behind what is in front of it, and in the bytes
bad_stands : (l : Left) (b : BadToken) → l.at ≤ length l.bytes → next_of l ≡ Err b → (l.at ≤ b.at) × (b.at ≤ length l.bytes)
unfolding next_of
bad_stands l b le h = by_blanks (blanks (drop l.at l.bytes)) refl h
  where
    placed : (n : ℕ) → l.at ≤ n → n ≤ length l.bytes → ◌≡◌ {A = Answer} (Err (bad_token n)) (Err b) → (l.at ≤ b.at) × (b.at ≤ length l.bytes)
    placed n low high e = let same : bad_token n ≡ b = cc in subst (λ (x : BadToken). (l.at ≤ x.at) × (x.at ≤ length l.bytes)) same (low, high)

    by_cut : (g : Gap) → l.at + g.len ≤ length l.bytes → (o : Option Found) → found_at l.bytes (l.at + g.len) (begins_line l.at g) o ≡ Err b
        → (l.at ≤ b.at) × (b.at ≤ length l.bytes)
    by_cut g i None h = placed (l.at + g.len) (omega arith) i h
    by_cut g i (Some f) h = absurd cc

    by_end : (g : Gap) → l.at + g.len ≤ length l.bytes → (x : Bool)
        → cond x (Ok None) (found_at l.bytes (l.at + g.len) (begins_line l.at g) (cut (drop (l.at + g.len) l.bytes))) ≡ Err b → (l.at ≤ b.at)
        × (b.at ≤ length l.bytes)
    by_end g i true h = absurd cc
    by_end g i false h = by_cut g i (cut (drop (l.at + g.len) l.bytes)) h

    by_blanks : (r : Result Gap ℕ) → blanks (drop l.at l.bytes) ≡ r → next_behind l r ≡ Err b → (l.at ≤ b.at) × (b.at ≤ length l.bytes)
    by_blanks (Err n) e h = let w : l.at + n < length l.bytes = broken_within l n le e in placed (l.at + n) (omega arith) (omega (arith, w)) h
    by_blanks (Ok g) e h = by_end g (gap_within l g le e) (nat_le (length l.bytes) (l.at + g.len)) h

-- tokens are in a row
tokens_row : {l : Left} {ts : List Lexeme} {o : Option BadToken} → Tokens l ts o → (n : ℕ) → l.at ≤ length l.bytes → end_in l o ≡ n → Row l.at n ts
tokens_row (end l e) n le h = omega (arith, le, h)
tokens_row (broken l b e) n le h = let s = bad_stands l b le e in omega (arith, s.0, h)
tokens_row (token l t {o = None} e more) n le h = let s = token_stands l t e in let f = token_ends l t e in (s.0, (s.1, tokens_row more n f h))
tokens_row (token l t {o = Some b} e more) n le h = let s = token_stands l t e in let f = token_ends l t e in (s.0, (s.1, tokens_row more n f h))

tokens_end : {l : Left} {ts : List Lexeme} {o : Option BadToken} → Tokens l ts o → l.at ≤ length l.bytes → end_in l o ≤ length l.bytes
tokens_end (end l e) le = omega arith
tokens_end (broken l b e) le = let s = bad_stands l b le e in omega (arith, s.1)
tokens_end (token l t {o = None} e more) le = omega arith
tokens_end (token l t {o = Some b} e more) le = let f = token_ends l t e in tokens_end more f

-- 2. Names of files

same_self : (n : ℕ) → (n == n) ≡ true
same_self n = grind (arith)

true_false : true ≡ false → ⊥
true_false e = absurd cc

-- what follows so many tokens begins no earlier than what stands side by side among them ends
side_row : (k at n : ℕ) (ts : List Lexeme) → Row at n ts → Row (at + length (side_by_side at (take k ts))) n (drop k ts)
side_row zero at n ts r = row_weak at (at + 0) n ts (omega arith) r
side_row (suc k) at n [] r = row_weak at (at + 0) n [] (omega arith) r
side_row (suc k) at n (t ∷ ts) r =
    cond_both (t.start == at) (t.text ++ side_by_side t.end (take k ts)) [] (λ (z : List ℕ). Row (at + length z) n (drop k ts))
    (λ e. row_weak (t.end + length (side_by_side t.end (take k ts))) (at + length (t.text ++ side_by_side t.end (take k ts))) n (drop k ts)
    (omega (arith, eqb-true t.start at e, length-append t.text (side_by_side t.end (take k ts)), r.0.1)) (side_row k t.end n ts r.1.1))
    (λ e. row_weak at (at + 0) n (drop k ts) (omega arith) (drop_row k at n ts (row_weak t.end at n ts (omega (arith, r.0.0, r.0.1)) r.1.1)))

side_some : (x : ℕ) (t : Lexeme) (ts : List Lexeme) → 0 < x → 0 < length t.text → 0 < length (side_by_side t.start (take x (t ∷ ts)))
side_some zero t ts h i = omega (arith, h)
side_some (suc x) t ts h i =
    cond_both (t.start == t.start) (t.text ++ side_by_side t.end (take x ts)) [] (λ (z : List ℕ). 0 < length z)
    (λ e. omega (arith, length-append t.text (side_by_side t.end (take x ts)), i))
    (λ e. absurd (true_false (sym (same_self t.start) ∙ e)))

-- a name has a token or more
abbrev Counted : Option Named → Type 0
Counted None = Unit {0}
Counted (Some m) = 0 < m.tokens

by_bytes : (a b c d e : Bool) → Counted (cond a (named include.Glib 5)
    (cond b (named include.GlibObject 7) (cond c (named include.Gio 7) (cond d (named include.String 5) (cond e (named include.Stdlib 5) None)))))
by_bytes true b c d e = omega arith
by_bytes false true c d e = omega arith
by_bytes false false true d e = omega arith
by_bytes false false false true e = omega arith
by_bytes false false false false true = omega arith
by_bytes false false false false false = tt

system_counted : (at : ℕ) (ts : List Lexeme) → Counted (system_file at ts)
system_counted at ts = by_bytes (bytes_eq (side_by_side at (take 5 ts)) (codes "<glib.h>"))
    (bytes_eq (side_by_side at (take 7 ts)) (codes "<glib-object.h>")) (bytes_eq (side_by_side at (take 7 ts)) (codes "<gio/gio.h>"))
    (bytes_eq (side_by_side at (take 5 ts)) (codes "<string.h>")) (bytes_eq (side_by_side at (take 5 ts)) (codes "<stdlib.h>"))

own_counted : (z : List ℕ) → Counted (own_file z)
own_counted z = cond_both (is_file_name (take (length z - 2) z) && bytes_eq (drop (length z - 2) z) (codes ".h"))
    (named (include.Own (take (length z - 2) z)) 1) None Counted (λ e. omega arith) (λ e. tt)

kind_counted : (kind : TokenKind) (t : Lexeme) (ts : List Lexeme) → Counted (file_at kind t ts)
kind_counted (k.Sign sign.Less) t ts = system_counted t.start (t ∷ ts)
kind_counted k.Text t ts = own_counted (take (length t.text - 2) (drop 1 t.text))
kind_counted kind t ts = tt

counted : (b : Behind) (t : Lexeme) (ts : List Lexeme) → Counted (file_behind b t ts)
counted IncludeWord t ts = cond_both t.begins_line None (file_at t.kind t ts) Counted (λ e. tt) (λ e. kind_counted t.kind t ts)
counted Other t ts = tt
counted Hash t ts = tt
counted (Inside n) t ts = tt

-- 3. Tokens of the grammar

-- tokens from a place to another
abbrev Sits : ℕ → ℕ → Word → Type 0
Sits at n [] = at ≤ n
Sits at n (t ∷ w) = ((at ≤ t.start) × (t.start < t.end)) × Sits t.end n w

-- what is left behind the tokens that are still to be passed
abbrev passed : Behind → List Lexeme → List Lexeme
passed (Inside x) ts = drop x ts
passed b ts = ts

none_passed : (b : Behind) (t : Lexeme) (ts : List Lexeme) → passed (then_behind b t) ts ≡ ts
none_passed Hash t ts = cond_both (is_include t) IncludeWord (cond (is_hash t) Hash Other) (λ (c : Behind). passed c ts ≡ ts) (λ e. refl)
    (λ e. cond_both (is_hash t) Hash Other (λ (c : Behind). passed c ts ≡ ts) (λ f. refl) (λ f. refl))
none_passed Other t ts = cond_both (is_hash t) Hash Other (λ (c : Behind). passed c ts ≡ ts) (λ f. refl) (λ f. refl)
none_passed IncludeWord t ts = cond_both (is_hash t) Hash Other (λ (c : Behind). passed c ts ≡ ts) (λ f. refl) (λ f. refl)
none_passed (Inside x) t ts = cond_both (is_hash t) Hash Other (λ (c : Behind). passed c ts ≡ ts) (λ f. refl) (λ f. refl)

one_more : (x : ℕ) → 0 < x → suc (x - 1) ≡ x
one_more x h = omega (arith, h)

sits_by : (o : Option Named) (b : Behind) (t : Lexeme) (ts : List Lexeme) (at n : ℕ) → Counted o → Row at n (t ∷ ts)
    → ((to : ℕ) (c : Behind) → Row to n (passed c ts) → Sits to n (words_behind c ts)) → Sits at n (words_by o b t ts (λ c. words_behind c ts))
sits_by None b t ts at n h r more =
    ((r.0.0, omega (arith, r.0.1, r.1.0)), more t.end (then_behind b t) (subst (λ (z : List Lexeme). Row t.end n z) (sym (none_passed b t ts)) r.1.1))
sits_by (Some m) b t ts at n h r more =
    let here : Row t.start n (t ∷ ts) = ((omega arith, r.0.1), r.1) in (
      (r.0.0, omega (arith, side_some m.tokens t ts h r.1.0)),
      more _ (Inside (m.tokens - 1))
          (subst (λ (x : ℕ). Row (t.start + length (side_by_side t.start (take x (t ∷ ts)))) n (drop (m.tokens - 1) ts)) (one_more m.tokens h)
          (side_row (suc (m.tokens - 1)) t.start n (t ∷ ts) here)),
    )

words_sit : (b : Behind) (at n : ℕ) (ts : List Lexeme) → Row at n (passed b ts) → Sits at n (words_behind b ts)
words_sit Other at n [] r = r
words_sit Hash at n [] r = r
words_sit IncludeWord at n [] r = r
words_sit (Inside zero) at n [] r = r
words_sit (Inside (suc x)) at n [] r = r
words_sit (Inside (suc x)) at n (t ∷ ts) r = words_sit (Inside x) at n ts r
words_sit (Inside zero) at n (t ∷ ts) r = sits_by (file_behind (Inside 0) t ts) (Inside 0) t ts at n (counted (Inside 0) t ts) r
    (λ to c q. words_sit c to n ts q)
words_sit Other at n (t ∷ ts) r = sits_by (file_behind Other t ts) Other t ts at n (counted Other t ts) r (λ to c q. words_sit c to n ts q)
words_sit Hash at n (t ∷ ts) r = sits_by (file_behind Hash t ts) Hash t ts at n (counted Hash t ts) r (λ to c q. words_sit c to n ts q)
words_sit IncludeWord at n (t ∷ ts) r = sits_by (file_behind IncludeWord t ts) IncludeWord t ts at n (counted IncludeWord t ts) r
    (λ to c q. words_sit c to n ts q)

first_sits : (at n : ℕ) (w : Word) → Sits at n w → at ≤ start_of n w
first_sits at n [] h = h
first_sits at n (t ∷ w) h = h.0.0

front_sits : (at n : ℕ) (front rest : Word) → Sits at n (front ++ rest) → InOrder (start_of n rest) front
front_sits at n [] rest h = tt
front_sits at n (t ∷ []) rest h = (h.0.1, first_sits t.end n rest h.1)
front_sits at n (t ∷ s ∷ w) rest h = (h.0.1, h.1.0.0, front_sits t.end n (s ∷ w) rest h.1)

ends_there : (bytes : List ℕ) (b : Option BadToken) → end_in (all_of bytes) b ≡ end_of (ending bytes b)
ends_there bytes None = refl
ends_there bytes (Some b) = refl

-- ANY TOKENS with which a text begins are in order.
pub in_order : (bytes : List ℕ) (ts : List Lexeme) (b : Option BadToken) → Tokens (all_of bytes) ts b
    → (front rest : Word) → words ts ≡ front ++ rest → InOrder (start_of (end_of (ending bytes b)) rest) front
in_order bytes ts b tokens front rest e =
    let n = end_of (ending bytes b) in
    let row = tokens_row tokens n (omega arith) (ends_there bytes b) in
    front_sits 0 n front rest (subst (λ (w : Word). Sits 0 n w) e (words_sit Other 0 n ts row))

-- they end in the bytes
pub in_bytes : (bytes : List ℕ) (ts : List Lexeme) (b : Option BadToken) → Tokens (all_of bytes) ts b → end_of (ending bytes b) ≤ length bytes
in_bytes bytes ts b tokens = let h = tokens_end tokens (omega arith) in let e = ends_there bytes b in omega (arith, h, e)
