-- Tests of kinds, by tests of sorts and of letters.
use Rattle.std.proofs.Common.{◌≡◌, ℕ, Bool, true, false, ◌&&◌, ◌||◌, not, if◌then◌else◌, List, [], ◌∷◌, Option, Some, None, Err, refl, sym, ap, ◌∙◌, true≢false, codes}
use Rattle.predictive_grammar.specs.Steps.{LeftOut, Syntax, shift}
use Rattle.vala_lexer.specs.Tokens.{Lexeme}
use Rattle.vala_lexer.specs.Texts.{text_value}
use Rattle.vala_tree.specs.declared.member.Modifier.{Modifier}
use Rattle.vala_grammar.specs.declared.sort.Sort.{Sort}
use Rattle.vala_grammar.specs.declared.sort.Sort.TheVariants as s
use Rattle.vala_grammar.specs.Sorts.{sort}
use Rattle.vala_grammar.specs.Tests.{is, among}
use Rattle.vala_grammar.specs.Trees.{same_bytes}
use Rattle.vala_grammar.specs.Label.{Here}
use Rattle.vala_grammar.specs.Answer.{limits}
use Rattle.vala_cursor.specs.Gets as cursor
use Rattle.vala_cursor.specs.Gets.{sort_at, token_at}
use Rattle.vala_file_grammar.specs.declared.kind.Special.{Special}
use Rattle.vala_file_grammar.specs.declared.kind.Special.TheVariants as special
use Rattle.vala_file_grammar.specs.Kinds.{Kind, CText, Of, Word, kind, sort_in, sorted, one_of, word, is_word, is_c_text, is_c_text_base, is_c_identifier, base_of, base_of_name}
use Rattle.vala_file_grammar.specs.Parts.{Outside, Inside}
use Rattle.vala_file_grammar.specs.Heads.{is_modifier, may_follow, may_follow_in_struct, clashes}
use Rattle.vala_file_grammar.specs.Grammar.{begins_member, is_left_out, is_main, is_other_name, is_other_text}
use Rattle.vala_file_grammar.proofs.Embedded.{same_sort}
use Rattle.vala_parse.specs.Steps.{next, got, plain_kind}
use Rattle.vala_parse.specs.Names.{c_text_of}

-- ---- by the sort

-- whether a sort that may be there passes
abbrev pub passes : (Sort → Bool) → Option Sort → Bool
passes f None = false
passes f (Some x) = f x

next_same : (f : Sort → Bool) (i : List Lexeme) → next (λ x. f (sort_in x)) i ≡ cursor.next f i
next_same f [] = refl
next_same f (t ∷ ts) = ap f (same_sort t)

by_sort : (f : Sort → Bool) (i : List Lexeme) → next (λ x. f (sort_in x)) i ≡ passes f (sort_at i)
by_sort f [] = refl
by_sort f (t ∷ ts) = ap f (same_sort t)

pub sorted_next : (x : Sort) (i : List Lexeme) → next (sorted x) i ≡ cursor.next (is x) i
sorted_next x i = next_same (is x) i

pub one_of_next : (xs : List Sort) (i : List Lexeme) → next (one_of xs) i ≡ cursor.next (among xs) i
one_of_next xs i = next_same (among xs) i

pub sorted_got : (x : Sort) (n l : ℕ) (i : List Lexeme) → got (sorted x) n l i ≡ cursor.got (is x) n l i
unfolding got cursor.got
sorted_got x n l i = ap (λ (b : Bool). if b then shift limits l n i else Err (Syntax, i)) (sorted_next x i)

pub one_of_got : (xs : List Sort) (n l : ℕ) (i : List Lexeme) → got (one_of xs) n l i ≡ cursor.got (among xs) n l i
unfolding got cursor.got
one_of_got xs n l i = ap (λ (b : Bool). if b then shift limits l n i else Err (Syntax, i)) (one_of_next xs i)

pub modifier_by_sort : (i : List Lexeme) → next is_modifier i ≡ passes (λ x. is_modifier (plain_kind x)) (sort_at i)
modifier_by_sort i = by_sort (λ x. is_modifier (plain_kind x)) i

pub follow_by_sort : (ms : List Modifier) (i : List Lexeme) → next (may_follow ms) i ≡ passes (λ x. may_follow ms (plain_kind x)) (sort_at i)
follow_by_sort ms i = by_sort (λ x. may_follow ms (plain_kind x)) i

pub field_word_by_sort : (ms : List Modifier) (i : List Lexeme) → next (may_follow_in_struct ms) i ≡ passes (λ x. may_follow_in_struct ms (plain_kind x)) (sort_at i)
field_word_by_sort ms i = by_sort (λ x. may_follow_in_struct ms (plain_kind x)) i

pub clash_by_sort : (ms : List Modifier) (i : List Lexeme) → next (clashes ms) i ≡ passes (λ x. clashes ms (plain_kind x)) (sort_at i)
clash_by_sort ms i = by_sort (λ x. clashes ms (plain_kind x)) i

pub member_by_sort : (i : List Lexeme) → next (begins_member Outside) i ≡ passes (λ x. begins_member Outside (plain_kind x)) (sort_at i)
member_by_sort i = by_sort (λ x. begins_member Outside (plain_kind x)) i

pub outside_by_sort : (i : List Lexeme) → next (is_left_out Outside) i ≡ passes (λ x. is_left_out Outside (plain_kind x)) (sort_at i)
outside_by_sort i = by_sort (λ x. is_left_out Outside (plain_kind x)) i

pub inside_by_sort : (b : Bool) (c : List ℕ) (i : List Lexeme) → next (is_left_out (Inside b c)) i ≡ passes (λ x. is_left_out (Inside b c) (plain_kind x)) (sort_at i)
inside_by_sort b c i = by_sort (λ x. is_left_out (Inside b c) (plain_kind x)) i

-- ---- by the token

abbrev pub passes_token : (Kind → Bool) → Option Lexeme → Bool
passes_token f None = false
passes_token f (Some t) = f (kind t)

pub next_of_token : (f : Kind → Bool) (i : List Lexeme) → next f i ≡ passes_token f (token_at i)
next_of_token f [] = refl
next_of_token f (t ∷ ts) = refl

pub no_word : (w : Special) (x : Sort) (z : List ℕ) → is s.Identifier x ≡ false → is_word w (base_of x z) ≡ false
no_word w s.Identifier z e = absurd (true≢false e)
no_word w s.Text z e = go (is_c_identifier (text_value z))
  where
    go : (b : Bool) → is_word w (if b then CText else Of s.Text) ≡ false
    go true = refl
    go false = refl
no_word w _ z e = refl

pub word_of_name : (w : Special) (x : Sort) (z : List ℕ) → is s.Identifier x ≡ true → is_word w (base_of x z) ≡ is_word w (base_of_name z)
word_of_name w s.Identifier z e = refl
word_of_name w _ z e = absurd (true≢false (sym e))

no_text : (a b c d e : Bool)
    → is_c_text_base (if a then Word special.Get else if b then Word special.Set else if c then Word special.CCode else if d then Word special.HeaderFilename else if e then Word special.CName else Of s.Identifier) ≡ false
no_text true b c d e = refl
no_text false true c d e = refl
no_text false false true d e = refl
no_text false false false true e = refl
no_text false false false false true = refl
no_text false false false false false = refl

pub no_c_text : (x : Sort) (z : List ℕ) → is s.Text x ≡ false → is_c_text_base (base_of x z) ≡ false
no_c_text s.Text z e = absurd (true≢false e)
no_c_text s.Identifier z e = no_text (same_bytes z (codes "get")) (same_bytes z (codes "set")) (same_bytes z (codes "CCode")) (same_bytes z (codes "cheader_filename")) (same_bytes z (codes "cname"))
no_c_text _ z e = refl

pub c_text_of_text : (x : Sort) (z : List ℕ) → is s.Text x ≡ true → is_c_text_base (base_of x z) ≡ is_c_identifier (text_value z)
c_text_of_text s.Text z e = go (is_c_identifier (text_value z))
  where
    go : (b : Bool) → is_c_text_base (if b then CText else Of s.Text) ≡ b
    go true = refl
    go false = refl
c_text_of_text _ z e = absurd (true≢false (sym e))

-- ---- tests that are made of others

or_none : (a b : Bool) → (a && not (b || false)) ≡ (a && not b)
or_none true true = refl
or_none true false = refl
or_none false b = refl

or_two : (a b c : Bool) → (a && not (b || (c || false))) ≡ (a && not (b || c))
or_two true true c = refl
or_two true false true = refl
or_two true false false = refl
or_two false b c = refl

pub other_attribute : (i : List Lexeme) → next (is_other_name (special.CCode ∷ [])) i ≡ (next (sorted s.Identifier) i && not (next (word special.CCode) i))
other_attribute [] = refl
other_attribute (t ∷ ts) = or_none (sorted s.Identifier (kind t)) (word special.CCode (kind t))

pub other_argument : (i : List Lexeme) → next (is_other_name (special.HeaderFilename ∷ special.CName ∷ [])) i
    ≡ (next (sorted s.Identifier) i && not (next (word special.HeaderFilename) i || next (word special.CName) i))
other_argument [] = refl
other_argument (t ∷ ts) = or_two (sorted s.Identifier (kind t)) (word special.HeaderFilename (kind t)) (word special.CName (kind t))

pub no_main : (i : List Lexeme) → next (λ y. sorted s.Identifier y && not (is_main y)) i ≡ (next (sorted s.Identifier) i && not (next is_main i))
no_main [] = refl
no_main (t ∷ ts) = refl

other_text : (i : List Lexeme) → next is_other_text i ≡ (next (sorted s.Text) i && not (next is_c_text i))
other_text [] = refl
other_text (t ∷ ts) = refl

c_text_ways : (l : ℕ) (i : List Lexeme) (a b : Bool)
    → (if a && not b then Err (LeftOut Here, i) else if b then shift limits l 0 i else Err (Syntax, i))
    ≡ (if b then shift limits l 0 i else if a then Err (LeftOut Here, i) else Err (Syntax, i))
c_text_ways l i true true = refl
c_text_ways l i true false = refl
c_text_ways l i false true = refl
c_text_ways l i false false = refl

pub c_text_law : (l : ℕ) (i : List Lexeme) → c_text_of l i
    ≡ (if next is_c_text i then shift limits l 0 i else if next (sorted s.Text) i then Err (LeftOut Here, i) else Err (Syntax, i))
unfolding c_text_of got
c_text_law l i = ap (λ (c : Bool). if c then Err (LeftOut Here, i) else if next is_c_text i then shift limits l 0 i else Err (Syntax, i)) (other_text i)
    ∙ c_text_ways l i (next (sorted s.Text) i) (next is_c_text i)
