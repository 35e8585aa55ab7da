-- Declarations with what stands in front of them, and those in braces, by their steps.
use Rattle.vala_file_grammar.specs.Heads.{any_follows, clash, clashes, is_modifier, may_follow}
use Rattle.std.proofs.Common.{◌≡◌, ℕ, suc, Bool, true, false, not, ◌&&◌, ◌||◌, List, [], ◌∷◌, ◌++◌, if◌then◌else◌, Err, refl, ap, ◌∙◌}
use Rattle.predictive_grammar.specs.Steps.{Outcome, ◌>>=◌, pure, LeftOut}
use Rattle.predictive_grammar.specs.Reading.{walk}
use Rattle.vala_lexer.specs.Tokens.{Lexeme}
use Rattle.vala_tree.specs.declared.member.Attribute.{Attribute}
use Rattle.vala_tree.specs.declared.member.Modifier.{Modifier}
use Rattle.vala_tree.specs.declared.member.Member.{Member}
use Rattle.vala_grammar.specs.declared.sort.Sort.TheVariants as s
use Rattle.vala_grammar.specs.Label.{Label}
use Rattle.vala_grammar.specs.Parts as c
use Rattle.vala_file_grammar.specs.Trees as tree
use Rattle.vala_file_grammar.specs.Kinds.{sorted, word, kind}
use Rattle.vala_file_grammar.specs.Parts as p
use Rattle.vala_file_grammar.specs.Heads as heads
use Rattle.vala_file_grammar.specs.Grammar.{forms, is_left_out, class_of, just, as_it_is}
use Rattle.vala_file_grammar.specs.Read.{file_reader}
use Rattle.vala_parse.specs.Steps.{got, leave, next, one, refuse, way}
use Rattle.vala_file_grammar.proofs.Where.{none_follows}
use Rattle.vala_parse.proofs.Unfolds.{law}
use Rattle.vala_file_grammar.proofs.Readers.{walk_some}

pub members_law : (x : p.Place) (ms : List Member) (l : ℕ) (i : List Lexeme) → file_reader (p.Members x ms) l i
    ≡ way (is_left_out x) leave (way (sorted s.CloseBrace) (one s.CloseBrace l >>= λ z. pure (tree.closed ms z))
    (file_reader (p.MemberOf x) l >>= λ m. file_reader (p.Members x (ms ++ m ∷ [])) l >>= pure)) i
unfolding walk forms got
members_law x ms l i = law (p.Members x ms) l i

pub member_law : (x : p.Place) (l : ℕ) (i : List Lexeme) → file_reader (p.MemberOf x) l i
    ≡ way (sorted s.OpenBracket) (file_reader p.AttributeOf l >>= λ a. file_reader (p.Attributes x (a ∷ [])) l >>= pure) (file_reader (p.Modifiers x [] []) l >>= pure) i
unfolding walk forms
member_law x l i = law (p.MemberOf x) l i

pub attributes_law : (x : p.Place) (xs : List Attribute) (l : ℕ) (i : List Lexeme) → file_reader (p.Attributes x xs) l i
    ≡ way (is_left_out x) leave (way (sorted s.OpenBracket) (file_reader p.AttributeOf l >>= λ a. file_reader (p.Attributes x (xs ++ a ∷ [])) l >>= pure) (file_reader (p.Modifiers x xs []) l >>= pure)) i
unfolding walk forms
attributes_law x xs l i = law (p.Attributes x xs) l i

-- a word that may follow does not clash
swap : {A : Type 0} (m r z : Bool) (a b o : A) → (if z then a else if m && not (r || z) then b else o) ≡ (if m && not (r || z) then b else if z then a else o)
swap true true true a b o = refl
swap true false true a b o = refl
swap false r true a b o = refl
swap m r false a b o = refl

swap_next : {A : Type 0} (ms : List Modifier) (i : List Lexeme) (a b o : A)
    → (if next (clashes ms) i then a else if next (may_follow ms) i then b else o) ≡ (if next (may_follow ms) i then b else if next (clashes ms) i then a else o)
swap_next ms [] a b o = refl
swap_next ms (t ∷ ts) a b o = swap (is_modifier (kind t)) (heads.repeats ms (kind t)) (clashes ms (kind t)) a b o

pub modifiers_law : (x : p.Place) (xs : List Attribute) (ms : List Modifier) (l : ℕ) (i : List Lexeme) → file_reader (p.Modifiers x xs ms) l i
    ≡ way (may_follow ms) (got (may_follow ms) 0 l >>= λ t. file_reader (p.MoreModifiers x xs (ms ++ tree.modifier t ∷ [])) l >>= pure)
    (way (clashes ms) (refuse (clash ms)) (file_reader (p.DeclarationOf x ms) l >>= λ d. pure (tree.member xs ms d))) i
unfolding walk forms got
modifiers_law x xs ms l i = law (p.Modifiers x xs ms) l i
    ∙ ap (λ (o : Outcome Label Lexeme Member). if next (clashes ms) i then Err (LeftOut (clash ms), i) else o)
    (walk_some file_reader (p.Modifiers x xs ms) (any_follows may_follow ms) (may_follow ms) (λ t. just (p.MoreModifiers x xs (ms ++ tree.modifier t ∷ [])) as_it_is)
    (just (p.DeclarationOf x ms) (λ d. tree.member xs ms d)) l i (λ e y. none_follows ms y e))
    ∙ swap_next ms i _ _ _

pub more_modifiers_law : (x : p.Place) (xs : List Attribute) (ms : List Modifier) (l : ℕ) (i : List Lexeme) → file_reader (p.MoreModifiers x xs ms) l i
    ≡ way (is_left_out x) leave (file_reader (p.Modifiers x xs ms) l >>= pure) i
unfolding walk forms
more_modifiers_law x xs ms l i = law (p.MoreModifiers x xs ms) l i

pub namespace_law : (t : Lexeme) (l : ℕ) (i : List Lexeme) → file_reader (p.NamespaceOf t) l i
    ≡ (file_reader (p.Code c.Name) l >>= λ n. one s.OpenBrace l >>= λ o. file_reader (p.Members p.Outside []) (suc l) >>= λ ms. pure (tree.namespace t n ms)) i
unfolding walk forms got
namespace_law t l i = law (p.NamespaceOf t) l i

pub class_law : (b : Bool) (t : Lexeme) (l : ℕ) (i : List Lexeme) → file_reader (p.ClassOf b t) l i
    ≡ (file_reader (p.Code c.Name) l >>= λ n. file_reader p.Bases l >>= λ bs. one s.OpenBrace l >>= λ o.
    file_reader (p.Members (p.Inside b (tree.last_word n)) []) (suc l) >>= λ ms. pure (class_of b t n bs ms)) i
unfolding walk forms got
class_law b t l i = law (p.ClassOf b t) l i
