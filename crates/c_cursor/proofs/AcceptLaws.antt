-- What taking a token, and asking for one, comes to.
use Rattle.std.proofs.Common.{◌≡◌, ℕ, suc, Bool, true, false, if◌then◌else◌, [], ◌∷◌, Option, Some, None, refl, sym, ap, ap₂, ◌∙◌}
use Rattle.mending_readers.specs.Mending.{Going, Stopped, mend_token, take_below, make, next_in}
use Rattle.c_tree.specs.Words.{Word}
use Rattle.c_tree.specs.Words as words
use Rattle.c_grammar.specs.Sorts.{Kind, kind}
use Rattle.c_grammar.specs.Grammar.{C}
use Rattle.c_grammar.specs.Laws.{c_limits}
use Rattle.c_grammar.specs.Mending.{made_up}
use Rattle.c_nodes.specs.declared.token.Token.{Token}
use Rattle.c_nodes.specs.Seen.{seen}
use Rattle.c_cursor.specs.declared.parser.Parser.{Parser}
use Rattle.c_cursor.specs.declared.sets.Set.{Set}
use Rattle.c_cursor.specs.Gives.{IsAsked, accepted, asked, state, state_at, test}
use Rattle.c_cursor.specs.Made.{made_for}
use Rattle.c_cursor.specs.Places.{place_of}
use Rattle.c_cursor.specs.Reading.{Place, is_next}
use Rattle.c_cursor.specs.Scopes.{names_of}
use Rattle.c_cursor.specs.Sets.{is_in}
use Rattle.c_cursor.specs.State.{first, is_first_in, rest}
use Rattle.c_cursor.proofs.MadeLaws.{is_first}

-- 1. The next token

pub next_stopped : (x : Set) (p : Parser) → p.is_stopped ≡ true → false ≡ next_in kind (test x p) (state p)
next_stopped x p e = ap (λ (b : Bool). next_in kind (test x p) (state_at b (rest p.cursor))) (sym e)

next_first : (f : Kind → Bool) (b : Bool) (w : Word) → b ≡ false → is_first_in f w ≡ next_in kind f (state_at b w)
next_first f true w e = absurd cc
next_first f false [] e = refl
next_first f false (t ∷ w) e = refl

pub next_found : (x : Set) (p : Parser) (r : Bool) → p.is_stopped ≡ false → r ≡ is_first_in (is_in x (names_of p.names)) (rest p.cursor)
    → r ≡ next_in kind (test x p) (state p)
next_found x p r e h = h ∙ next_first (test x p) p.is_stopped (rest p.cursor) e

pub is_next_law : (x : Set) (p : Parser) (r : Bool) → r ≡ next_in kind (test x p) (state p) → r ≡ is_next (names_of p.names) x (state p)
unfolding is_next
is_next_law x p r e = e

-- 2. Asking for one

abbrev accepted_at : ℕ → (Kind → Bool) → ℕ → Bool → Word → Option words.Token × Place
accepted_at e f l b w =
    if next_in kind f (state_at b w)
    then (Some (mend_token C (made_up e) c_limits l 0 f [] (state_at b w)).0, (mend_token C (made_up e) c_limits l 0 f [] (state_at b w)).1)
    else (None, state_at b w)

-- whatever stands before
abbrev got_by : words.Token × Place → words.Token × Place → Bool → words.Token × Place
got_by y m c = if c then y else m

abbrev option_by : Bool → words.Token × Place → Place → Option words.Token × Place
option_by c y s = if c then (Some y.0, y.1) else (None, s)

asked_at : (e : ℕ) (f : Kind → Bool) (l : ℕ) (before : Word) (b : Bool) (w : Word) (t : words.Token) (s : Place) → (Some t, s) ≡ accepted_at e f l b w
    → (t, s) ≡ mend_token C (made_up e) c_limits l 0 f before (state_at b w)
asked_at e f l before true w t s h = absurd (let none : Some t ≡ None = ap (λ (z : Option words.Token × Place). z.0) h in cc)
asked_at e f l before false [] t s h = absurd (let none : Some t ≡ None = ap (λ (z : Option words.Token × Place). z.0) h in cc)
asked_at e f l before false (y ∷ ts) t s h =
    go (f (kind y)) (take_below C (made_up e) c_limits l 0 y ts) (make C (made_up e) f [] (y ∷ ts)) (make C (made_up e) f before (y ∷ ts))
    (ap (λ (z : Option words.Token × Place). z.0) h) (ap (λ (z : Option words.Token × Place). z.1) h)
  where
    go : (c : Bool) (below m n : words.Token × Place) → Some t ≡ (option_by c (got_by below m c) (Going (y ∷ ts))).0
        → s ≡ (option_by c (got_by below m c) (Going (y ∷ ts))).1 → (t, s) ≡ got_by below n c
    go false below m n h i = absurd cc
    go true below m n h i = let token : t ≡ below.0 = cc in ap₂ (λ (z : words.Token) (r : Place). (z, r)) token i

pub asked_taken : (x : Set) (l : ℕ) (before : Word) (p q : Parser) (t : Token) → (Some (seen t), state q) ≡ accepted x l p
    → (seen t, state q) ≡ asked x l before p
asked_taken x l before p q t h = asked_at p.end (test x p) l before p.is_stopped (rest p.cursor) (seen t) (state q) h

-- where the next one is not in the set
pub passed_over : (x : Set) (l : ℕ) (p q : Parser) → (None, state q) ≡ accepted x l p → (next_in kind (test x p) (state p) ≡ false) × (state q ≡ state p)
passed_over x l p q h = go (next_in kind (test x p) (state p)) (asked x l [] p) (ap (λ (z : Option words.Token × Place). z.0) h)
    (ap (λ (z : Option words.Token × Place). z.1) h)
  where
    go : (c : Bool) (y : words.Token × Place) → None ≡ (option_by c y (state p)).0 → state q ≡ (option_by c y (state p)).1 → (c ≡ false) × (state q ≡ state p)
    go true y h i = absurd cc
    go false y h i = (refl, i)

abbrev words_at : Place → Word
words_at (Going w) = w
words_at (Stopped w) = w

state_words : (b : Bool) (w : Word) → words_at (state_at b w) ≡ w
state_words true w = refl
state_words false w = refl

same_rest : (p q : Parser) → state q ≡ state p → rest q.cursor ≡ rest p.cursor
same_rest p q e = sym (state_words q.is_stopped (rest q.cursor)) ∙ ap words_at e ∙ state_words p.is_stopped (rest p.cursor)

made_at : (e : ℕ) (f : Kind → Bool) (l : ℕ) (before : Word) (b : Bool) (w : Word) → next_in kind f (state_at b w) ≡ false
    → make C (made_up e) f before w ≡ mend_token C (made_up e) c_limits l 0 f before (state_at b w)
made_at e f l before true w h = refl
made_at e f l before false [] h = refl
made_at e f l before false (t ∷ ts) h = ap (λ (c : Bool). if c then take_below C (made_up e) c_limits l 0 t ts
    else make C (made_up e) f before (t ∷ ts)) (sym h)

made_place_is : (e : ℕ) (w : Word) → place_of e (first w) ≡ suc (words.start_of e w)
made_place_is e [] = refl
made_place_is e (t ∷ w) = refl

abbrev stopped_with : words.Token → Word → words.Token × Place
stopped_with y w = (y, Stopped w)

-- one that is made up
pub asked_made : (x : Set) (l : ℕ) (before : Word) (p q : Parser) (t : words.Token) (n : Option words.Token) (place : ℕ) → IsAsked x before
    → (None, state q) ≡ accepted x l p
    → q.end ≡ p.end → n ≡ first (rest q.cursor) → place ≡ place_of q.end n → t ≡ made_for place x → (t, Stopped (rest q.cursor)) ≡ asked x l before p
asked_made x l before p q t n place asks none ends next at made =
    let over = passed_over x l p q none in
    let left : rest q.cursor ≡ rest p.cursor = same_rest p q over.1 in
    let where_is : place ≡ suc (words.start_of p.end (rest p.cursor)) =
    at ∙ ap₂ place_of ends (next ∙ ap first left) ∙ made_place_is p.end (rest p.cursor) in
    let token : t ≡ (make C (made_up p.end) (test x p) before (rest p.cursor)).0 =
    made ∙ ap (λ (i : ℕ). made_for i x) where_is ∙ sym (is_first (suc (words.start_of p.end (rest p.cursor))) x (names_of p.names) before asks) in
    ap₂ (λ (y : words.Token) (w : Word). stopped_with y w) token left ∙ made_at p.end (test x p) l before p.is_stopped (rest p.cursor) over.0

pub ruleset next_laws = (next_stopped, next_found, is_next_law)
