-- What is known of tokens that are taken.
use Rattle.std.proofs.Common.{◌≡◌, ℕ, Bool, true, false, ◌&&◌, ◌||◌, nat_lt, if◌then◌else◌, [], ◌∷◌, Option, Some, None, refl, sym, ap, subst, ◌∙◌}
use Rattle.mending_readers.specs.Mending.{Going, Stopped, mend_token, take_below, make, next_in}
use Rattle.c_lexer.specs.declared.token.Keyword.TheVariants as keyword
use Rattle.c_lexer.specs.declared.token.TokenKind.{TokenKind}
use Rattle.c_lexer.specs.declared.token.TokenKind.TheVariants as k
use Rattle.c_tree.specs.Names.{Names}
use Rattle.c_tree.specs.Types.{can_be_type}
use Rattle.c_tree.specs.Words.{Of, Word, IsName, meant}
use Rattle.c_tree.specs.Words as words
use Rattle.c_grammar.specs.Sorts.{Kind, kind, on}
use Rattle.c_grammar.specs.Tests.{word_is, name_with, is_base, begins_low, is_any_name}
use Rattle.c_grammar.specs.Grammar.{C}
use Rattle.c_grammar.specs.Laws.{c_limits}
use Rattle.c_grammar.specs.Mending.{made_up}
use Rattle.c_grammar.proofs.Tokens.{is_sign, is_word, is_name, is_name_with}
use Rattle.c_nodes.specs.declared.token.Terminal.{Terminal}
use Rattle.c_nodes.specs.declared.token.Terminal.TheVariants as terminal
use Rattle.c_nodes.specs.declared.token.Token.{Token}
use Rattle.c_nodes.specs.Seen.{seen, terminal_of, bytes_of}
use Rattle.c_cursor.specs.declared.parser.Parser.{Parser}
use Rattle.c_cursor.specs.declared.sets.Set.{Set}
use Rattle.c_cursor.specs.declared.sets.Set.TheVariants as set
use Rattle.c_cursor.specs.Gives.{IsAsked, accepted, asked, is_asked_sign, is_asked_word, state, test}
use Rattle.c_cursor.specs.Reading.{Read, Place, is_next, one}
use Rattle.c_cursor.specs.Scopes.{names_of}
use Rattle.c_cursor.specs.Sets.{is_in, is_row}
use Rattle.c_cursor.specs.State.{seen_option}
use Rattle.c_cursor.specs.Steps.{Bears, Took, Where, is_asked, is_base_token}

both_left : (a b : Bool) → (a && b) ≡ true → a ≡ true
both_left true b e = refl
both_left false b e = absurd cc

-- 1. What a token of a set is

named_bytes : (t : Token) → IsName (seen t) → (seen t).bytes ≡ t.text.now
named_bytes t e = go t.terminal e
  where
    go : (x : Terminal) → terminal_of x t.text.now ≡ Of k.Identifier → bytes_of x t.text.now ≡ t.text.now
    go (terminal.Of y) e = let same : y ≡ k.Identifier = cc in ap (λ (z : TokenKind). meant z t.text.now) same
    go (terminal.File f) e = absurd cc

any_name : (t : Token) → is_any_name (kind (seen t)) ≡ true → (seen t).bytes ≡ t.text.now
any_name t h = named_bytes t (is_name [] (seen t) h)

base_token : (anyhow : Bool) (ns : Names) (t : Token) → on ns (is_base anyhow) (kind (seen t)) ≡ true → is_base_token (seen t).terminal ≡ true
base_token anyhow ns t h = go (on ns (word_is keyword.Void) (kind (seen t))) (on ns (word_is keyword.Int) (kind (seen t)))
    (on ns (word_is keyword.Char) (kind (seen t))) refl refl refl h
  where
    go : (a b c : Bool) → on ns (word_is keyword.Void) (kind (seen t)) ≡ a → on ns (word_is keyword.Int) (kind (seen t)) ≡ b
        → on ns (word_is keyword.Char) (kind (seen t)) ≡ c
        → (a || b || c || on ns (name_with (can_be_type anyhow)) (kind (seen t))) ≡ true → is_base_token (seen t).terminal ≡ true
    go true b c x y z h = ap is_base_token (is_word ns keyword.Void (seen t) x)
    go false true c x y z h = ap is_base_token (is_word ns keyword.Int (seen t) y)
    go false false true x y z h = ap is_base_token (is_word ns keyword.Char (seen t) z)
    go false false false x y z h = ap is_base_token (is_name_with ns (can_be_type anyhow) (seen t) h).0

pub bears_law : (x : Set) (ns : Names) (t : Token) → is_in x ns (kind (seen t)) ≡ true → Bears x t
bears_law (set.Sign s) ns t h = is_sign ns s (seen t) h
bears_law set.Name ns t h = named_bytes t (is_name ns (seen t) h)
bears_law set.Tag ns t h = any_name t (both_left (is_any_name (kind (seen t))) (begins_low (kind (seen t)).bytes) h)
bears_law (set.NameOf w) ns t h = any_name t (both_left (is_any_name (kind (seen t))) _ h)
bears_law (set.FreeName main) ns t h = any_name t (both_left (is_any_name (kind (seen t))) _ h)
bears_law set.InfoOrType ns t h = any_name t (both_left (is_any_name (kind (seen t))) _ h)
bears_law set.RowName ns t h = named_bytes t (is_name_with ns is_row (seen t) h).0
bears_law (set.Base anyhow) ns t h = base_token anyhow ns t h
bears_law (set.BaseOnLine line) ns t h = base_token true ns t (both_left (on ns (is_base true) (kind (seen t))) _ h)
bears_law x ns t h = tt

-- 2. A token that is taken where it is in a set

abbrev below_by : ℕ → words.Token → Word → Bool → words.Token × Place
below_by e t ts c = if c && true then (t, Going ts) else ((made_up e).moved (t ∷ ts) t, Stopped (t ∷ ts))

abbrev taken_by : ℕ → ℕ → (Kind → Bool) → words.Token → Word → Bool → words.Token × Place
taken_by e l p t ts b = if b then take_below C (made_up e) c_limits l 0 t ts else make C (made_up e) p [] (t ∷ ts)

taken_kind : (e l : ℕ) (p : Kind → Bool) (s : Place) → next_in kind p s ≡ true → p (kind (mend_token C (made_up e) c_limits l 0 p [] s).0) ≡ true
taken_kind e l p (Going []) h = absurd cc
taken_kind e l p (Stopped ts) h = absurd cc
taken_kind e l p (Going (t ∷ ts)) h = go (p (kind t)) refl h
  where
    below : p (kind t) ≡ true → (c : Bool) → p (kind (below_by e t ts c).0) ≡ true
    below holds true = holds
    below holds false = holds

    go : (b : Bool) → p (kind t) ≡ b → b ≡ true → p (kind (taken_by e l p t ts b).0) ≡ true
    go true holds h = below holds (nat_lt l 65)
    go false holds h = absurd cc

abbrev accepted_by : Bool → words.Token × Place → Place → Option words.Token × Place
accepted_by b y s = if b then (Some y.0, y.1) else (None, s)

abbrev read_one : words.Token → Place → Read words.Token
read_one t z = Some (t, z)

pub took_law : (x : Set) (l : ℕ) (p q : Parser) (o : Option Token) → (seen_option o, state q) ≡ accepted x l p → Took x l p o q
unfolding one is_next
took_law x l p q o h = go (next_in kind (test x p) (state p)) refl o (ap (λ (y : Option words.Token × Place). y.0) h)
    (ap (λ (y : Option words.Token × Place). y.1) h)
  where
    go : (b : Bool) → next_in kind (test x p) (state p) ≡ b → (o : Option Token) → seen_option o ≡ (accepted_by b (asked x l [] p) (state p)).0
        → state q ≡ (accepted_by b (asked x l [] p) (state p)).1 → Took x l p o q
    go true holds None h there = absurd cc
    go true holds (Some t) h there =
        let token : seen t ≡ (asked x l [] p).0 = cc in (
          holds,
          ap (λ (y : words.Token). read_one y (asked x l [] p).1) (sym token) ∙ ap (λ (z : Place). read_one (seen t) z) (sym there),
          bears_law x (names_of p.names) t (subst (λ (y : words.Token). is_in x (names_of p.names) (kind y) ≡ true) (sym token)
              (taken_kind p.end l (test x p) (state p) holds)),
        )
    go false other None h there = (other, there)
    go false other (Some t) h there = absurd cc

-- 3. A token that is asked for

where_asked : (b : Bool) {P : Type 0} → (b ≡ true → P) → Where b P
where_asked true h = h refl
where_asked false h = tt

pub asked_at_law : (x : Set) (l : ℕ) (p : Parser) (s : Place) (t : Token) → ((before : Word) → IsAsked x before → (seen t, s) ≡ asked x l before p)
    → Where (is_asked x) (one p.end (names_of p.names) x l (state p) ≡ Some (seen t, s))
unfolding one
asked_at_law (set.Sign s) l p z t h = where_asked (is_asked_sign s) (λ e. ap Some (sym (h [] e)))
asked_at_law (set.Word w) l p z t h = where_asked (is_asked_word w) (λ e. ap Some (sym (h [] e)))
asked_at_law set.Name l p z t h = ap Some (sym (h [] tt))
asked_at_law set.Number l p z t h = ap Some (sym (h [] tt))
asked_at_law set.Null l p z t h = ap Some (sym (h [] tt))
asked_at_law set.File l p z t h = ap Some (sym (h [] tt))
asked_at_law set.IncludeWord l p z t h = ap Some (sym (h [] tt))
asked_at_law set.Tag l p z t h = ap Some (sym (h [] tt))
asked_at_law set.InitFunc l p z t h = ap Some (sym (h [] tt))
asked_at_law (set.FreeName main) l p z t h = ap Some (sym (h [] tt))
asked_at_law (set.Base anyhow) l p z t h = ap Some (sym (h [] tt))
asked_at_law (set.BaseOnLine line) l p z t h = ap Some (sym (h [] tt))
asked_at_law set.KeyBase l p z t h = ap Some (sym (h [] tt))
asked_at_law set.OtherBase l p z t h = ap Some (sym (h [] tt))
asked_at_law set.IntBase l p z t h = ap Some (sym (h [] tt))
asked_at_law set.CharBase l p z t h = ap Some (sym (h [] tt))
asked_at_law x l p z t h = tt

pub asked_law : (x : Set) (l : ℕ) (p q : Parser) (t : Token) → ((before : Word) → IsAsked x before → (seen t, state q) ≡ asked x l before p)
    → Where (is_asked x) (one p.end (names_of p.names) x l (state p) ≡ Some (seen t, state q))
asked_law x l p q t h = asked_at_law x l p (state q) t h
