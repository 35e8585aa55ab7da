-- The tokens of bytes are in order, also where the name of an included file is one.
use Rattle.std.proofs.Common.{◌≡◌, ◌∙◌, refl, sym, ap, subst, ℕ, zero, suc, ◌-◌, ◌+◌, ◌<◌, ◌≤◌, Bool, true, false, cond, ◌&&◌, ◌==◌, List, [], ◌∷◌}
use Rattle.std.proofs.Common.{◌++◌, length, take, drop, codes, Option, Some, None, length-append, eqb-true, arith}
use Rattle.std.proofs.lemmas.Bool.{cond_both}
use Rattle.std.specs.Str.{bytes_eq}
use Rattle.c_lexer.specs.declared.token.BadToken.{BadToken}
use Rattle.c_lexer.specs.declared.token.Sign.TheVariants as sign
use Rattle.c_lexer.specs.declared.token.TokenKind.{TokenKind}
use Rattle.c_lexer.specs.declared.token.TokenKind.TheVariants as k
use Rattle.c_lexer.specs.Laws.{Covers, last, stopped, next}
use Rattle.c_lexer.specs.Tokens.{Left, Lexeme, Tokens, all_of}
use Rattle.c_tree.specs.declared.unit.Include.TheVariants as include
use Rattle.c_tree.specs.Words.{Token, Word, Named, named, side_by_side, system_file, own_file, file_at, is_file_name, Behind, Other, Hash}
use Rattle.c_tree.specs.Words.{IncludeWord, Inside, is_hash, is_include, then_behind, file_behind, words_by, words_behind, words, start_of}
use Rattle.c_tree.specs.Answers.{ending}
use Rattle.c_grammar.specs.Fronts.{end_of}
use Rattle.c_fronts.specs.Fronts.{InOrder}
use Rattle.c_text_reader.specs.Laws.{TokensAreInOrder, Within}

-- 1. Tokens of bytes

-- tokens in a row from a place to another
abbrev Row : ℕ → ℕ → List Lexeme → Type 0
Row at n [] = at ≤ n
Row at n (t ∷ ts) = ((at ≤ t.start) × (t.end ≡ t.start + length t.text)) × ((0 < length t.text) × Row t.end n ts)

row_weak : (at from n : ℕ) (ts : List Lexeme) → from ≤ at → Row at n ts → Row from n ts
row_weak at from n [] h r = omega (arith, h, r)
row_weak at from n (t ∷ ts) h r = ((omega (arith, h, r.0.0), r.0.1), r.1)

drop_row : (k at n : ℕ) (ts : List Lexeme) → Row at n ts → Row at n (drop k ts)
drop_row zero at n ts r = r
drop_row (suc k) at n [] r = r
drop_row (suc k) at n (t ∷ ts) r = drop_row k at n ts (row_weak t.end at n ts (omega (arith, r.0.0, r.0.1)) r.1.1)

-- where the tokens of bytes from a place on end
abbrev end_from : ℕ → List ℕ → Option BadToken → ℕ
end_from at z None = at + length z
end_from at z (Some b) = b.at

end_same : (at to : ℕ) (y z : List ℕ) (o : Option BadToken) → at + length y ≡ to + length z → end_from at y o ≡ end_from to z o
end_same at to y z None e = e
end_same at to y z (Some b) e = refl

lengths : (a b c : List ℕ) → length (a ++ b ++ c) ≡ (length a + length b) + length c
lengths a b c = length-append (a ++ b) c ∙ ap (λ (x : ℕ). x + length c) (length-append a b)

covers_row : {at : ℕ} {z : List ℕ} {ts : List Lexeme} {o : Option BadToken} → Covers at z ts o → (n : ℕ) → end_from at z o ≡ n → Row at n ts
covers_row {at} (last w b) n e = omega (arith, e)
covers_row {at} (stopped w z b c) n e = omega (arith, e)
covers_row {at} {o} (next w rest t b l s e f more) n p =
    let whole : at + length (w ++ t.text ++ rest) ≡ t.end + length rest = omega (arith, lengths w t.text rest, s, e) in
    ((omega (arith, s), e), (l.some, covers_row more n (sym (end_same at t.end (w ++ t.text ++ rest) rest o whole) ∙ p)))

-- 2. Names of files

same_self : (n : ℕ) → (n == n) ≡ true
same_self n = grind (arith)

true_false : true ≡ false → ⊥
true_false e = absurd cc

-- what follows so many tokens begins no earlier than what stands side by side among them ends
side_row : (k at n : ℕ) (ts : List Lexeme) → Row at n ts → Row (at + length (side_by_side at (take k ts))) n (drop k ts)
side_row zero at n ts r = row_weak at (at + 0) n ts (omega arith) r
side_row (suc k) at n [] r = row_weak at (at + 0) n [] (omega arith) r
side_row (suc k) at n (t ∷ ts) r =
    cond_both (t.start == at) (t.text ++ side_by_side t.end (take k ts)) [] (λ (z : List ℕ). Row (at + length z) n (drop k ts))
    (λ e. row_weak (t.end + length (side_by_side t.end (take k ts))) (at + length (t.text ++ side_by_side t.end (take k ts))) n (drop k ts)
    (omega (arith, eqb-true t.start at e, length-append t.text (side_by_side t.end (take k ts)), r.0.1)) (side_row k t.end n ts r.1.1))
    (λ e. row_weak at (at + 0) n (drop k ts) (omega arith) (drop_row k at n ts (row_weak t.end at n ts (omega (arith, r.0.0, r.0.1)) r.1.1)))

side_some : (x : ℕ) (t : Lexeme) (ts : List Lexeme) → 0 < x → 0 < length t.text → 0 < length (side_by_side t.start (take x (t ∷ ts)))
side_some zero t ts h i = omega (arith, h)
side_some (suc x) t ts h i =
    cond_both (t.start == t.start) (t.text ++ side_by_side t.end (take x ts)) [] (λ (z : List ℕ). 0 < length z)
    (λ e. omega (arith, length-append t.text (side_by_side t.end (take x ts)), i))
    (λ e. absurd (true_false (sym (same_self t.start) ∙ e)))

-- a name has a token or more
abbrev Counted : Option Named → Type 0
Counted None = Unit {0}
Counted (Some m) = 0 < m.tokens

by_bytes : (a b c d e : Bool) → Counted (cond a (named include.Glib 5)
    (cond b (named include.GlibObject 7) (cond c (named include.Gio 7) (cond d (named include.String 5) (cond e (named include.Stdlib 5) None)))))
by_bytes true b c d e = omega arith
by_bytes false true c d e = omega arith
by_bytes false false true d e = omega arith
by_bytes false false false true e = omega arith
by_bytes false false false false true = omega arith
by_bytes false false false false false = tt

system_counted : (at : ℕ) (ts : List Lexeme) → Counted (system_file at ts)
system_counted at ts = by_bytes (bytes_eq (side_by_side at (take 5 ts)) (codes "<glib.h>"))
    (bytes_eq (side_by_side at (take 7 ts)) (codes "<glib-object.h>")) (bytes_eq (side_by_side at (take 7 ts)) (codes "<gio/gio.h>"))
    (bytes_eq (side_by_side at (take 5 ts)) (codes "<string.h>")) (bytes_eq (side_by_side at (take 5 ts)) (codes "<stdlib.h>"))

own_counted : (z : List ℕ) → Counted (own_file z)
own_counted z = cond_both (is_file_name (take (length z - 2) z) && bytes_eq (drop (length z - 2) z) (codes ".h"))
    (named (include.Own (take (length z - 2) z)) 1) None Counted (λ e. omega arith) (λ e. tt)

kind_counted : (kind : TokenKind) (t : Lexeme) (ts : List Lexeme) → Counted (file_at kind t ts)
kind_counted (k.Sign sign.Less) t ts = system_counted t.start (t ∷ ts)
kind_counted k.Text t ts = own_counted (take (length t.text - 2) (drop 1 t.text))
kind_counted kind t ts = tt

counted : (b : Behind) (t : Lexeme) (ts : List Lexeme) → Counted (file_behind b t ts)
counted IncludeWord t ts = cond_both t.begins_line None (file_at t.kind t ts) Counted (λ e. tt) (λ e. kind_counted t.kind t ts)
counted Other t ts = tt
counted Hash t ts = tt
counted (Inside n) t ts = tt

-- 3. Tokens of the grammar

-- tokens from a place to another
abbrev Sits : ℕ → ℕ → Word → Type 0
Sits at n [] = at ≤ n
Sits at n (t ∷ w) = ((at ≤ t.start) × (t.start < t.end)) × Sits t.end n w

-- what is left behind the tokens that are still to be passed
abbrev passed : Behind → List Lexeme → List Lexeme
passed (Inside x) ts = drop x ts
passed b ts = ts

none_passed : (b : Behind) (t : Lexeme) (ts : List Lexeme) → passed (then_behind b t) ts ≡ ts
none_passed Hash t ts = cond_both (is_include t) IncludeWord (cond (is_hash t) Hash Other) (λ (c : Behind). passed c ts ≡ ts) (λ e. refl)
    (λ e. cond_both (is_hash t) Hash Other (λ (c : Behind). passed c ts ≡ ts) (λ f. refl) (λ f. refl))
none_passed Other t ts = cond_both (is_hash t) Hash Other (λ (c : Behind). passed c ts ≡ ts) (λ f. refl) (λ f. refl)
none_passed IncludeWord t ts = cond_both (is_hash t) Hash Other (λ (c : Behind). passed c ts ≡ ts) (λ f. refl) (λ f. refl)
none_passed (Inside x) t ts = cond_both (is_hash t) Hash Other (λ (c : Behind). passed c ts ≡ ts) (λ f. refl) (λ f. refl)

one_more : (x : ℕ) → 0 < x → suc (x - 1) ≡ x
one_more x h = omega (arith, h)

sits_by : (o : Option Named) (b : Behind) (t : Lexeme) (ts : List Lexeme) (at n : ℕ) → Counted o → Row at n (t ∷ ts)
    → ((to : ℕ) (c : Behind) → Row to n (passed c ts) → Sits to n (words_behind c ts)) → Sits at n (words_by o b t ts (λ c. words_behind c ts))
sits_by None b t ts at n h r more =
    ((r.0.0, omega (arith, r.0.1, r.1.0)), more t.end (then_behind b t) (subst (λ (z : List Lexeme). Row t.end n z) (sym (none_passed b t ts)) r.1.1))
sits_by (Some m) b t ts at n h r more =
    let here : Row t.start n (t ∷ ts) = ((omega arith, r.0.1), r.1) in (
      (r.0.0, omega (arith, side_some m.tokens t ts h r.1.0)),
      more (t.start + length (side_by_side t.start (take m.tokens (t ∷ ts)))) (Inside (m.tokens - 1))
          (subst (λ (x : ℕ). Row (t.start + length (side_by_side t.start (take x (t ∷ ts)))) n (drop (m.tokens - 1) ts)) (one_more m.tokens h)
          (side_row (suc (m.tokens - 1)) t.start n (t ∷ ts) here)),
    )

words_sit : (b : Behind) (at n : ℕ) (ts : List Lexeme) → Row at n (passed b ts) → Sits at n (words_behind b ts)
words_sit Other at n [] r = r
words_sit Hash at n [] r = r
words_sit IncludeWord at n [] r = r
words_sit (Inside zero) at n [] r = r
words_sit (Inside (suc x)) at n [] r = r
words_sit (Inside (suc x)) at n (t ∷ ts) r = words_sit (Inside x) at n ts r
words_sit (Inside zero) at n (t ∷ ts) r = sits_by (file_behind (Inside 0) t ts) (Inside 0) t ts at n (counted (Inside 0) t ts) r
    (λ to c q. words_sit c to n ts q)
words_sit Other at n (t ∷ ts) r = sits_by (file_behind Other t ts) Other t ts at n (counted Other t ts) r (λ to c q. words_sit c to n ts q)
words_sit Hash at n (t ∷ ts) r = sits_by (file_behind Hash t ts) Hash t ts at n (counted Hash t ts) r (λ to c q. words_sit c to n ts q)
words_sit IncludeWord at n (t ∷ ts) r = sits_by (file_behind IncludeWord t ts) IncludeWord t ts at n (counted IncludeWord t ts) r
    (λ to c q. words_sit c to n ts q)

first_sits : (at n : ℕ) (w : Word) → Sits at n w → at ≤ start_of n w
first_sits at n [] h = h
first_sits at n (t ∷ w) h = h.0.0

front_sits : (at n : ℕ) (front rest : Word) → Sits at n (front ++ rest) → InOrder (start_of n rest) front
front_sits at n [] rest h = tt
front_sits at n (t ∷ []) rest h = (h.0.1, first_sits t.end n rest h.1)
front_sits at n (t ∷ s ∷ w) rest h = (h.0.1, h.1.0.0, front_sits t.end n (s ∷ w) rest h.1)

ends_there : (bytes : List ℕ) (b : Option BadToken) → end_from 0 bytes b ≡ end_of (ending bytes b)
ends_there bytes None = omega arith
ends_there bytes (Some b) = refl

-- that tokens cover bytes
abbrev pub TokensCover : Type 0
TokensCover = (l : Left) (ts : List Lexeme) (o : Option BadToken) → l.at ≤ length l.bytes → Tokens l ts o → Covers l.at (drop l.at l.bytes) ts o

-- ANY TOKENS with which a text begins are in order.
pub in_order : TokensCover → TokensAreInOrder
in_order covered bytes ts b tokens front rest e =
    let n = end_of (ending bytes b) in
    let row = covers_row (covered (all_of bytes) ts b (omega arith) tokens) n (ends_there bytes b) in
    front_sits 0 n front rest (subst (λ (w : Word). Sits 0 n w) e (words_sit Other 0 n ts row))

-- so each is within the place behind them
pub within : (n : ℕ) (w : Word) → InOrder n w → Within n w
within n [] h = tt
within n (t ∷ []) h = ((omega (arith, h.0, h.1), h.1), tt)
within n (t ∷ s ∷ w) h = let r = within n (s ∷ w) h.2 in ((omega (arith, h.0, h.1, r.0.0), omega (arith, h.1, r.0.0)), r)

pub within_more : (n m : ℕ) (w : Word) → n ≤ m → Within n w → Within m w
within_more n m [] h i = tt
within_more n m (t ∷ w) h i = ((omega (arith, h, i.0.0), omega (arith, h, i.0.1)), within_more n m w h i.1)
