-- A text has one answer.
use Rattle.std.proofs.Common.{◌≡◌, ◌∙◌, refl, sym, ap, subst, ℕ, ◌≤◌, ◌<◌, nat_le, Bool, true, false, ◌&&◌, true≢false, List, [], ◌∷◌, ◌++◌, append_assoc, append-nil, length, Option, Some, None, Result, Ok, Err, rules, arith}
use Rattle.c_lexer.specs.Tokens.{Lexeme, Left, Tokens, all_of, behind, next_of}
use Rattle.c_lexer.specs.Tokens as lexed
use Rattle.c_lexer.specs.declared.token.BadToken.{BadToken}
use Rattle.c_tree.specs.declared.kinds.Fault.{Fault}
use Rattle.c_tree.specs.declared.kinds.Refusal.{Refusal}
use Rattle.c_tree.specs.declared.unit.Unit.{Unit as CUnit}
use Rattle.c_tree.specs.declared.kinds.Cause.TheVariants as cause
use Rattle.c_tree.specs.Words.{Token, Word, Open, words, with_terminal, is_shallow}
use Rattle.c_tree.specs.Items.{ReadsUnit}
use Rattle.c_tree.specs.Unit.{unit_faults}
use Rattle.c_tree.specs.Answers.{IsSound, CReads, Stops, Ending, Whole, Broken, Begins, Says, Answers, Made, AreItems, GoNoFurther, syntax_at, faults_of, known_behind, without_main, ending, first_of}
use Rattle.c_tree.specs.Answers as a
use Rattle.c_tree.specs.Laws.{OneUnit, OneAnswer}

-- Of two ways to cut a list one is the other, or goes over its item.
data Cuts (w : Word) (t : Token) (w' : Word) (t' : Token) : Type 0 where
  same : w ≡ w' → t ≡ t' → Cuts w t w' t'
  longer : (x : Word) → w ≡ w' ++ t' ∷ x → Cuts w t w' t'
  shorter : (x : Word) → w' ≡ w ++ t ∷ x → Cuts w t w' t'

abbrev head_of : Token → Word → Token
head_of t [] = t
head_of t (s ∷ w) = s

abbrev tail_of : Word → Word
tail_of [] = []
tail_of (s ∷ w) = w

one_on : (s s' : Token) (w : Word) (t : Token) (w' : Word) (t' : Token) → s ≡ s' → Cuts w t w' t' → Cuts (s ∷ w) t (s' ∷ w') t'
one_on s s' w t w' t' e (same p q) = same (ap (λ z. z ∷ w) e ∙ ap (λ z. s' ∷ z) p) q
one_on s s' w t w' t' e (longer x p) = longer x (ap (λ z. z ∷ w) e ∙ ap (λ z. s' ∷ z) p)
one_on s s' w t w' t' e (shorter x p) = shorter x (ap (λ z. z ∷ w') (sym e) ∙ ap (λ z. s ∷ z) p)

cuts : (w : Word) (t : Token) (r : Word) (w' : Word) (t' : Token) (r' : Word) → w ++ t ∷ r ≡ w' ++ t' ∷ r' → Cuts w t w' t'
cuts [] t r [] t' r' e = same refl (ap (head_of t) e)
cuts [] t r (s ∷ w') t' r' e = shorter w' (ap (λ z. z ∷ w') (sym (ap (head_of t) e)))
cuts (s ∷ w) t r [] t' r' e = longer w (ap (λ z. z ∷ w) (ap (head_of t) e))
cuts (s ∷ w) t r (s' ∷ w') t' r' e = one_on s s' w t w' t' (ap (head_of t) e) (cuts w t r w' t' r' (ap tail_of e))

-- what stands in front of tokens is no deeper than they are
both_parts : (a b : Bool) → (a && b) ≡ true → (a ≡ true) × (b ≡ true)
both_parts a b e = search rules

in_front : (o : Open) (u v : Word) → is_shallow o (u ++ v) ≡ true → is_shallow o u ≡ true
in_front o [] v e = refl
in_front o (t ∷ u) v e = let p = both_parts (nat_le (length (with_terminal o t.terminal)) 64) (is_shallow (with_terminal o t.terminal) (u ++ v)) e in
    rw (p.0) (in_front (with_terminal o t.terminal) u v p.1)

-- The token cannot stand behind the tokens: no items go on with it, or too many brackets are open.
data Bars (w : Word) (t : Token) : Type 0 where
  never : GoNoFurther (w ++ t ∷ []) → Bars w t
  deep : is_shallow [] (w ++ t ∷ []) ≡ false → Bars w t

one_more : (w : Word) (t : Token) (x : Word) → w ++ t ∷ x ≡ (w ++ t ∷ []) ++ x
one_more w t x = sym (append_assoc w (t ∷ []) x)

-- A word that goes on over the place where a text stops begins none.
over : (n : ℕ) (w : Word) (t : Token) (w' x : Word) → w' ≡ w ++ t ∷ x → Begins n w' → Bars w t → ⊥
over n w t w' x e b (never nay) = nay (x ++ b.rest) b.items (subst (λ (z : Word). AreItems z b.items) (ap (λ z. z ++ b.rest) (e ∙ one_more w t x) ∙ append_assoc (w ++ t ∷ []) x b.rest) b.reads)
over n w t w' x e b (deep h) = true≢false (sym (in_front [] (w ++ t ∷ []) x (ap (is_shallow []) (sym (e ∙ one_more w t x)) ∙ b.shallow)) ∙ h)

-- what stops a text, and where
record Place (w : Word) (own : Fault) (w' : Word) (own' : Fault) : Type 0 where
  word : w ≡ w'
  fault : own ≡ own'

by_cut : (n n' : ℕ) (w : Word) (t : Token) (w' : Word) (t' : Token) → Begins n w → Begins n' w' → Bars w t → Bars w' t' → Cuts w t w' t' → Place w (syntax_at t.start) w' (syntax_at t'.start)
by_cut n n' w t w' t' b b' nay nay' (same p q) = record { word = p; fault = ap (λ (t : Token). syntax_at t.start) q }
by_cut n n' w t w' t' b b' nay nay' (longer x p) = absurd (over n w' t' w x p b nay')
by_cut n n' w t w' t' b b' nay nay' (shorter x p) = absurd (over n' w t w' x p b' nay)

two_tokens : (text : Word) (n n' : ℕ) (w : Word) (t : Token) (r : Word) (w' : Word) (t' : Token) (r' : Word) → Begins n w → Begins n' w' → text ≡ w ++ t ∷ r → text ≡ w' ++ t' ∷ r' → Bars w t → Bars w' t'
    → Place w (syntax_at t.start) w' (syntax_at t'.start)
two_tokens text n n' w t r w' t' r' b b' p p' nay nay' = by_cut n n' w t w' t' b b' nay nay' (cuts w t r w' t' r' (sym p ∙ p'))

one_place : (text : Word) (e : Ending) (w : Word) (f : Fault) (w' : Word) (f' : Fault) → (n n' : ℕ) → Begins n w → Begins n' w' → Stops text e w f → Stops text e w' f' → Place w f w' f'
one_place text e w f w' f' n n' b b' (a.at_broken at) (a.at_broken at') = record { word = refl; fault = refl }
one_place text e w f w' f' n n' b b' (a.at_broken at) (a.at_token e' w'' t r p nay) = absurd (over n w'' t text r p b (never nay))
one_place text e w f w' f' n n' b b' (a.at_broken at) (a.at_deep e' w'' t r p h) = absurd (over n w'' t text r p b (deep h))
one_place text e w f w' f' n n' b b' (a.at_token e' w'' t r p nay) (a.at_broken at) = absurd (over n' w'' t text r p b' (never nay))
one_place text e w f w' f' n n' b b' (a.at_deep e' w'' t r p h) (a.at_broken at) = absurd (over n' w'' t text r p b' (deep h))
one_place text e w f w' f' n n' b b' (a.at_token e1 w1 t r p nay) (a.at_token e2 w2 t' r' p' nay') = two_tokens text n n' w1 t r w2 t' r' b b' p p' (never nay) (never nay')
one_place text e w f w' f' n n' b b' (a.at_token e1 w1 t r p nay) (a.at_deep e2 w2 t' r' p' h') = two_tokens text n n' w1 t r w2 t' r' b b' p p' (never nay) (deep h')
one_place text e w f w' f' n n' b b' (a.at_deep e1 w1 t r p h) (a.at_token e2 w2 t' r' p' nay') = two_tokens text n n' w1 t r w2 t' r' b b' p p' (deep h) (never nay')
one_place text e w f w' f' n n' b b' (a.at_deep e1 w1 t r p h) (a.at_deep e2 w2 t' r' p' h') = two_tokens text n n' w1 t r w2 t' r' b b' p p' (deep h) (deep h')
one_place text e w f w' f' n n' b b' (a.at_token e1 w1 t r p nay) (a.at_end m q) = absurd (over n' w1 t text r p b' (never nay))
one_place text e w f w' f' n n' b b' (a.at_deep e1 w1 t r p h) (a.at_end m q) = absurd (over n' w1 t text r p b' (deep h))
one_place text e w f w' f' n n' b b' (a.at_end m q) (a.at_token e1 w1 t r p nay) = absurd (over n w1 t text r p b (never nay))
one_place text e w f w' f' n n' b b' (a.at_end m q) (a.at_deep e1 w1 t r p h) = absurd (over n w1 t text r p b (deep h))
one_place text e w f w' f' n n' b b' (a.at_end m q) (a.at_end m' q') = record { word = refl; fault = refl }

-- a text that reads does not stop
bars_none : (text w : Word) (t : Token) (r : Word) (u : CUnit) → ReadsUnit text u → text ≡ w ++ t ∷ r → Bars w t → ⊥
bars_none text w t r u h p nay = over 0 w t text r p (record { shallow = h.shallow; rest = []; items = u.items; made = search rules; reads = subst (λ (z : Word). AreItems z u.items) (sym (append-nil text)) h.items }) nay

reads_on : (text : Word) (n : ℕ) (w : Word) (f : Fault) (u : CUnit) → ReadsUnit text u → Stops text (Whole n) w f → ⊥
reads_on text n w f u h (a.at_token e w' t r p nay) = bars_none text w' t r u h p (never nay)
reads_on text n w f u h (a.at_deep e w' t r p d) = bars_none text w' t r u h p (deep d)
reads_on text n w f u h (a.at_end m q) = q u.items h.items

some : {A : Type 0} (x y : A) → Some x ≡ Some y → x ≡ y
some x y e = search rules

abbrev all_faults : ℕ → CUnit → List Fault
all_faults n u = unit_faults u ++ without_main u n

sound_none : (n : ℕ) (u : CUnit) → IsSound u → all_faults n u ≡ []
sound_none n u h = rw (h.0, h.1) refl

not_faulty : (n : ℕ) (u u' : CUnit) (f : Refusal) → u ≡ u' → IsSound u → first_of None (all_faults n u') ≡ Some f → ⊥
not_faulty n u u' f e h k = differ (subst (λ (z : List Fault). first_of None z ≡ Some f) (ap (all_faults n) (sym e) ∙ sound_none n u h) k)
  where
    differ : None ≡ Some f → ⊥
    differ h = search rules

pub one_saying : OneUnit → (text : Word) (e : Ending) (r s : Result CUnit Refusal) → Says text e r → Says text e s → r ≡ s
one_saying one text e r s (a.unit n u h k) (a.unit n' u' h' k') = ap (λ x. Ok x) (one text u u' h h')
one_saying one text e r s (a.unit n u h k) (a.faulty n' u' f h' k') = absurd (not_faulty n u u' f (one text u u' h h') k k')
one_saying one text e r s (a.unit n u h k) (a.stopped e' w own f q b c) = absurd (reads_on text n w own u h q)
one_saying one text e r s (a.faulty n u f h k) (a.unit n' u' h' k') = absurd (not_faulty n u' u f (one text u' u h' h) k' k)
one_saying one text e r s (a.faulty n u f h k) (a.faulty n' u' f' h' k') = ap (λ x. Err x) (some f f' (sym k ∙ ap (λ x. first_of None (all_faults n x)) (one text u u' h h') ∙ k'))
one_saying one text e r s (a.faulty n u f h k) (a.stopped e' w own f' q b c) = absurd (reads_on text n w own u h q)
one_saying one text e r s (a.stopped e' w own f q b c) (a.unit n u h k) = absurd (reads_on text n w own u h q)
one_saying one text e r s (a.stopped e' w own f q b c) (a.faulty n u f' h k) = absurd (reads_on text n w own u h q)
one_saying one text e r s (a.stopped e1 w own f q b c) (a.stopped e2 w' own' f' q' b' c') = ap (λ x. Err x) (some f f' (sym (c b.rest b.items b.made b.reads) ∙ there))
  where
    place : Place w own w' own'
    place = one_place text e w own w' own' own.place own'.place b b' q q'

    made : Made own'.place b.rest
    made = subst (λ (z : Fault). Made z.place b.rest) place.fault b.made

    there : first_of (Some own) (known_behind w (faults_of b.items)) ≡ Some f'
    there = rw (place.word, place.fault) (c' b.rest b.items made (subst (λ (x : Word). AreItems (x ++ b.rest) b.items) place.word b.reads))

-- one list of tokens, and one place where they stop
record Same (ts us : List Lexeme) (o p : Option BadToken) : Type 0 where
  tokens : ts ≡ us
  stop : o ≡ p

end_or_token : (l : Left) (t : Lexeme) → next_of l ≡ Ok None → next_of l ≡ Ok (Some t) → ⊥
end_or_token l t h k = search rules

end_or_broken : (l : Left) (b : BadToken) → next_of l ≡ Ok None → next_of l ≡ Err b → ⊥
end_or_broken l b h k = search rules

token_or_broken : (l : Left) (t : Lexeme) (b : BadToken) → next_of l ≡ Ok (Some t) → next_of l ≡ Err b → ⊥
token_or_broken l t b h k = search rules

abbrev token_of : Lexeme → Result (Option Lexeme) BadToken → Lexeme
token_of t (Ok (Some s)) = s
token_of t r = t

abbrev bad_of : BadToken → Result (Option Lexeme) BadToken → BadToken
bad_of b (Err c) = c
bad_of b r = b

same_token : (l : Left) (t s : Lexeme) → next_of l ≡ Ok (Some t) → next_of l ≡ Ok (Some s) → t ≡ s
same_token l t s h k = ap (token_of t) (sym h ∙ k)

same_bad : (l : Left) (b c : BadToken) → next_of l ≡ Err b → next_of l ≡ Err c → b ≡ c
same_bad l b c h k = ap (bad_of b) (sym h ∙ k)

more : (t s : Lexeme) (ts us : List Lexeme) (o p : Option BadToken) → t ≡ s → Same ts us o p → Same (t ∷ ts) (s ∷ us) o p
more t s ts us o p e h = record { tokens = ap (λ z. z ∷ ts) e ∙ ap (λ z. s ∷ z) h.tokens; stop = h.stop }

one_list : (l : Left) (ts us : List Lexeme) (o p : Option BadToken) → Tokens l ts o → Tokens l us p → Same ts us o p
one_list l ts us o p (lexed.end m h) (lexed.end n k) = record { tokens = refl; stop = refl }
one_list l ts us o p (lexed.end m h) (lexed.broken n b k) = absurd (end_or_broken l b h k)
one_list l ts us o p (lexed.end m h) (lexed.token n t k r) = absurd (end_or_token l t h k)
one_list l ts us o p (lexed.broken m b h) (lexed.end n k) = absurd (end_or_broken l b k h)
one_list l ts us o p (lexed.broken m b h) (lexed.broken n c k) = record { tokens = refl; stop = ap (λ z. Some z) (same_bad l b c h k) }
one_list l ts us o p (lexed.broken m b h) (lexed.token n t k r) = absurd (token_or_broken l t b k h)
one_list l ts us o p (lexed.token m t h r) (lexed.end n k) = absurd (end_or_token l t k h)
one_list l ts us o p (lexed.token m t h r) (lexed.broken n b k) = absurd (token_or_broken l t b h k)
one_list l ts us o p (lexed.token m t {ts = ts1} {o = o1} h r) (lexed.token n s {ts = us1} {o = p1} k q) =
    more t s ts1 us1 o1 p1 (same_token l t s h k) (one_list (behind l (Ok (Some s))) ts1 us1 o1 p1 (subst (λ (z : Lexeme). Tokens (behind l (Ok (Some z))) ts1 o1) (same_token l t s h k) r) q)

not_large : (bytes : List ℕ) (limit : ℕ) → limit < length bytes → length bytes ≤ limit → ⊥
not_large bytes limit h k = omega arith

-- what tokens answer, at other tokens and another end that are the same
moved : (bytes : List ℕ) (ts us : List Lexeme) (o p : Option BadToken) (r : Result CUnit Refusal) → Same ts us o p → Says (words us) (ending bytes p) r → Says (words ts) (ending bytes o) r
moved bytes ts us o p r h s = subst (λ (z : List Lexeme). Says (words z) (ending bytes o) r) (sym h.tokens) (subst (λ (z : Option BadToken). Says (words us) (ending bytes z) r) (sym h.stop) s)

both : OneUnit → (bytes : List ℕ) (ts us : List Lexeme) (o p : Option BadToken) (r s : Result CUnit Refusal) → Tokens (all_of bytes) ts o → Tokens (all_of bytes) us p → Says (words ts) (ending bytes o) r → Says (words us) (ending bytes p) s
    → r ≡ s
both one bytes ts us o p r s h k x y = one_saying one (words ts) (ending bytes o) r s x (moved bytes ts us o p s (one_list (all_of bytes) ts us o p h k) y)

pub one_answer : OneUnit → OneAnswer
one_answer one bytes limit r s (a.large h) (a.large k) = refl
one_answer one bytes limit r s (a.large h) (a.reads u ts k q x) = absurd (not_large bytes limit h k)
one_answer one bytes limit r s (a.large h) (a.refused f ts b k q x) = absurd (not_large bytes limit h k)
one_answer one bytes limit r s (a.reads u ts k q x) (a.large h) = absurd (not_large bytes limit h k)
one_answer one bytes limit r s (a.reads u ts k q x) (a.reads u' ts' k' q' x') = both one bytes ts ts' None None (Ok u) (Ok u') q q' x x'
one_answer one bytes limit r s (a.reads u ts k q x) (a.refused f ts' b k' q' x') = both one bytes ts ts' None b (Ok u) (Err f) q q' x x'
one_answer one bytes limit r s (a.refused f ts b k q x) (a.large h) = absurd (not_large bytes limit h k)
one_answer one bytes limit r s (a.refused f ts b k q x) (a.reads u ts' k' q' x') = both one bytes ts ts' b None (Err f) (Ok u) q q' x x'
one_answer one bytes limit r s (a.refused f ts b k q x) (a.refused f' ts' b' k' q' x') = both one bytes ts ts' b b' (Err f) (Err f') q q' x x'

abbrev EqualAnswer : Result CUnit Refusal → Result CUnit Refusal → Type 0
EqualAnswer r s = r ≡ s

refusal_is_no_unit : (f : Refusal) (u : CUnit) → EqualAnswer (Err f) (Ok u) → ⊥
refusal_is_no_unit f u e = search rules

okay_answer : (x y : CUnit) → EqualAnswer (Ok x) (Ok y) → x ≡ y
okay_answer x y e = search rules

-- what a text that is answered by a unit is
read_as : (text : Word) (e : Ending) (r : Result CUnit Refusal) (u : CUnit) → Says text e r → r ≡ Ok u → ReadsUnit text u × IsSound u
read_as text e r u (a.unit n v h k) p = subst (λ (z : CUnit). ReadsUnit text z × IsSound z) (okay_answer v u p) (h, k)
read_as text e r u (a.faulty n v f h k) p = absurd (refusal_is_no_unit f u p)
read_as text e r u (a.stopped e' w own f q b c) p = absurd (refusal_is_no_unit f u p)

as_unit : (bytes : List ℕ) (ts : List Lexeme) (u : CUnit) → Tokens (all_of bytes) ts None → ReadsUnit (words ts) u × IsSound u → CReads bytes u
as_unit bytes ts u q h = record { tokens = ts; lexed = q; reads = h.0; sound = h.1 }

answered : (bytes : List ℕ) (limit : ℕ) (r : Result CUnit Refusal) (u : CUnit) → Answers bytes limit r → r ≡ Ok u → (length bytes ≤ limit) × CReads bytes u
answered bytes limit r u (a.large h) p = absurd (refusal_is_no_unit _ u p)
answered bytes limit r u (a.refused f ts b k q x) p = absurd (refusal_is_no_unit f u p)
answered bytes limit r u (a.reads v ts k q x) p = (k, as_unit bytes ts u q (read_as (words ts) (Whole (length bytes)) (Ok v) u x (ap (λ z. Ok z) (okay_answer v u p))))

pub answers_of : (bytes : List ℕ) (limit : ℕ) (u : CUnit) → Answers bytes limit (Ok u) → (length bytes ≤ limit) × CReads bytes u
answers_of bytes limit u h = answered bytes limit (Ok u) u h refl

pub answers_to : (bytes : List ℕ) (limit : ℕ) (u : CUnit) → (length bytes ≤ limit) × CReads bytes u → Answers bytes limit (Ok u)
answers_to bytes limit u (k, c) = a.reads u c.tokens k c.lexed (a.unit (length bytes) u c.reads c.sound)
