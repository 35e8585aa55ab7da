-- Tokens that pass tests, and the ways that these decide.
use Rattle.std.proofs.Common.{◌≡◌, ℕ, ◌&&◌, Bool, true, false, nat_lt, if◌then◌else◌, List, [], ◌∷◌, Some, None, refl, sym, ap, ◌∙◌}
use Rattle.mending_readers.specs.Mending.{Going, Stopped, mend_token, mend_then, take_below, make, next_in}
use Rattle.c_lexer.specs.declared.token.TokenKind.{TokenKind}
use Rattle.c_lexer.specs.declared.token.TokenKind.TheVariants as k
use Rattle.c_tree.specs.Names.{Names, Role}
use Rattle.c_tree.specs.Words.{Of, Word, IsName, meant}
use Rattle.c_tree.specs.Words as words
use Rattle.c_grammar.specs.Sorts.{Kind, kind, on}
use Rattle.c_grammar.specs.Tests.{name_with}
use Rattle.c_grammar.specs.Grammar.{C}
use Rattle.c_grammar.specs.Laws.{c_limits}
use Rattle.c_grammar.specs.Mending.{made_up}
use Rattle.c_grammar.proofs.Tokens.{is_name_with}
use Rattle.c_nodes.specs.declared.token.Terminal.{Terminal}
use Rattle.c_nodes.specs.declared.token.Terminal.TheVariants as terminal
use Rattle.c_nodes.specs.declared.token.Token.{Token}
use Rattle.c_nodes.specs.Seen.{seen, terminal_of, bytes_of}
use Rattle.c_cursor.specs.Reading.{Read, Place, give, first_then, behind}
use Rattle.c_parser.proofs.TypeLaws.{some_same}

-- 1. Ways

-- what goes on behind either of two ways
pub way_then : {A B : Type 0} (b : Bool) (x y : Read A) (f : A → Place → Read B)
    → mend_then (if b then x else y) f ≡ (if b then mend_then x f else mend_then y f)
way_then true x y f = refl
way_then false x y f = refl

pub give_then : {A B D : Type 0} (f : A → B) (o : Read A) (k : B → Place → Read D) → mend_then (give f o) k ≡ mend_then o (λ a z. k (f a) z)
give_then f None k = refl
give_then f (Some x) k = refl

pub give_twice : {A B D : Type 0} (g : B → D) (f : A → B) (o : Read A) → give g (give f o) ≡ give (λ a. g (f a)) o
give_twice g f None = refl
give_twice g f (Some x) = refl

pub give_same : {A B : Type 0} (f g : A → B) (o : Read A) → ((a : A) → f a ≡ g a) → give f o ≡ give g o
give_same f g None e = refl
give_same f g (Some x) e = ap (λ b. Some (b, x.1)) (e x.0)

-- lists
pub behind_nothing : {A : Type 0} (xs : List A) → behind xs None ≡ None
unfolding behind
behind_nothing xs = refl

pub behind_one : {A : Type 0} (x : A) (o : Read (List A)) → first_then x o ≡ behind (x ∷ []) o
unfolding behind first_then
behind_one x None = refl
behind_one x (Some y) = refl

-- 2. Tokens

-- a token where the reader is, of a set of kinds
abbrev pub taken : ℕ → ℕ → (Kind → Bool) → Place → words.Token × Place
taken e l p s = mend_token C (made_up e) c_limits l 0 p [] s

abbrev taken_by : ℕ → ℕ → (Kind → Bool) → words.Token → Word → Bool → words.Token × Place
taken_by e l p t ts b = if b then take_below C (made_up e) c_limits l 0 t ts else make C (made_up e) p [] (t ∷ ts)

-- a token that passes two tests is taken by both
pub same_taken : (e l : ℕ) (p q : Kind → Bool) (s : Place) → next_in kind p s ≡ true → next_in kind q s ≡ true → taken e l p s ≡ taken e l q s
same_taken e l p q (Going []) h g = absurd cc
same_taken e l p q (Stopped ts) h g = absurd cc
same_taken e l p q (Going (t ∷ ts)) h g = ap (taken_by e l p t ts) h ∙ sym (ap (taken_by e l q t ts) g)

abbrev below_by : ℕ → words.Token → Word → Bool → words.Token × Place
below_by e t ts c = if c && true then (t, Going ts) else ((made_up e).moved (t ∷ ts) t, Stopped (t ∷ ts))

-- a token that is taken passes the test
pub taken_kind : (e l : ℕ) (p : Kind → Bool) (s : Place) → next_in kind p s ≡ true → p (kind (taken e l p s).0) ≡ true
taken_kind e l p (Going []) h = absurd cc
taken_kind e l p (Stopped ts) h = absurd cc
taken_kind e l p (Going (t ∷ ts)) h = go (p (kind t)) refl h
  where
    below : p (kind t) ≡ true → (c : Bool) → p (kind (below_by e t ts c).0) ≡ true
    below holds true = holds
    below holds false = holds

    go : (b : Bool) → p (kind t) ≡ b → b ≡ true → p (kind (taken_by e l p t ts b).0) ≡ true
    go true holds h = below holds (nat_lt l 65)
    go false holds h = absurd cc

-- a token that is taken passes also a test of what it is that the next token passes
pub taken_as : (e l : ℕ) (p q : Kind → Bool) (s : Place) → next_in kind p s ≡ true → next_in kind q s ≡ true → q (kind (taken e l p s).0) ≡ true
taken_as e l p q s h g = ap (λ (x : words.Token × Place). q (kind x.0)) (same_taken e l p q s h g) ∙ taken_kind e l q s g

-- 3. Names

named_bytes : (t : Token) → IsName (seen t) → (seen t).bytes ≡ t.text.now
named_bytes t e = go t.terminal e
  where
    go : (x : Terminal) → terminal_of x t.text.now ≡ Of k.Identifier → bytes_of x t.text.now ≡ t.text.now
    go (terminal.Of y) e = let same : y ≡ k.Identifier = cc in ap (λ (z : TokenKind). meant z t.text.now) same
    go (terminal.File f) e = absurd cc

-- the letters of a name that was taken for its role
pub role_bytes : (e : ℕ) (ns : Names) (test : Role → Bool) (l : ℕ) (s z : Place) (t : Token) → next_in kind (on ns (name_with test)) s ≡ true
    → Some (taken e l (on ns (name_with test)) s) ≡ Some (seen t, z) → (seen t).bytes ≡ t.text.now
role_bytes e ns test l s z t is took =
    let pair : taken e l (on ns (name_with test)) s ≡ (seen t, z) = some_same (taken e l (on ns (name_with test)) s) (seen t, z) took in
    let token : (taken e l (on ns (name_with test)) s).0 ≡ seen t = ap (λ (x : words.Token × Place). x.0) pair in
    named_bytes t (is_name_with ns test (seen t) (ap (λ (x : words.Token). on ns (name_with test) (kind x)) (sym token)
    ∙ taken_kind e l (on ns (name_with test)) s is)).0
