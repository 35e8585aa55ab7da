-- What begins with a type, by its steps.
use Rattle.std.proofs.Common.{◌≡◌, ℕ, suc, Bool, true, false, not, ◌&&◌, List, [], if◌then◌else◌, Option, Some, None, Err, refl, ap, ◌∙◌}
use Rattle.predictive_grammar.specs.Steps.{Outcome, Parser, and_then, ◌>>=◌, pure, LeftOut}
use Rattle.predictive_grammar.specs.Reading.{walk}
use Rattle.vg_base.specs.declared.event.Span.{Span}
use Rattle.static_rules.specs.declared.rules.Rule.TheVariants as rule
use Rattle.vala_lexer.specs.Tokens.{Lexeme}
use Rattle.vala_tree.specs.declared.names.NameTree.{NameTree}
use Rattle.vala_tree.specs.declared.names.TypeTree.{TypeTree}
use Rattle.vala_tree.specs.declared.member.Modifier.{Modifier}
use Rattle.vala_grammar.specs.declared.sort.Sort.TheVariants as s
use Rattle.vala_grammar.specs.Label.{Label, Here, Earlier}
use Rattle.vala_grammar.specs.Parts as c
use Rattle.vala_file_grammar.specs.Trees as tree
use Rattle.vala_file_grammar.specs.Kinds.{sorted}
use Rattle.vala_file_grammar.specs.Parts as p
use Rattle.vala_file_grammar.specs.Heads as heads
use Rattle.vala_file_grammar.specs.Heads.{async_in}
use Rattle.vala_file_grammar.specs.Grammar.{forms, is_main, is_type_sign, named_by, owner, bodied, typed_method, deeper}
use Rattle.vala_file_grammar.specs.Read.{file_reader}
use Rattle.vala_parse.specs.Steps.{either, got, next, one, reads}
use Rattle.vala_parse.specs.Names.{but_main, name_of}
use Rattle.vala_parse.specs.Heads.{told}
use Rattle.vala_parse.specs.Views.{is_inside}
use Rattle.vala_parse.specs.Declarations as rest
use Rattle.vala_parse.proofs.Unfolds.{law}
use Rattle.predictive_grammar.specs.Forms.{give}
use Rattle.vala_parse.proofs.HeadLaws.{told_law, told_two}

bar_then : {A : Type 0} (b : Bool) (e : Label) (i : List Lexeme) (o : Outcome Label Lexeme Lexeme) (k : Lexeme → Parser Label Lexeme A)
    → (if b then Err (LeftOut e, i) else and_then o k) ≡ and_then (if b then Err (LeftOut e, i) else o) k
bar_then true e i o k = refl
bar_then false e i o k = refl

by_async : (x : p.Place) (ms : List Modifier) (y : TypeTree) (a : Option Span) (l : ℕ) (i : List Lexeme)
    → reads (named_by x ms y a) l i ≡ (name_of a l >>= λ n. file_reader (p.Typed x ms y n) l >>= pure) i
unfolding walk got name_of but_main
by_async x ms y None l i = bar_then (next is_type_sign i) Here i (one s.Identifier l i) (λ n. file_reader (p.Typed x ms y n) l >>= pure)
by_async x ms y (Some z) l i =
    ap (λ (o : Outcome Label Lexeme tree.Declared). if next is_type_sign i then Err (LeftOut Here, i) else o)
    (bar_then (next is_main i) (Earlier rule.U1 z) i (got (λ y. sorted s.Identifier y && not (is_main y)) 0 l i) (λ n. file_reader (p.Typed x ms y n) l >>= pure))
    ∙ bar_then (next is_type_sign i) Here i (but_main z l i) (λ n. file_reader (p.Typed x ms y n) l >>= pure)

pub named_law : (x : p.Place) (ms : List Modifier) (y : TypeTree) (l : ℕ) (i : List Lexeme)
    → file_reader (p.NamedBy x ms y) l i ≡ (name_of (async_in ms) l >>= λ n. file_reader (p.Typed x ms y n) l >>= pure) i
unfolding forms
named_law x ms y l i = law (p.NamedBy x ms y) l i ∙ by_async x ms y (async_in ms) l i

pub typed_law : (x : p.Place) (ms : List Modifier) (y : TypeTree) (n : Lexeme) (l : ℕ) (i : List Lexeme)
    → file_reader (p.Typed x ms y n) l i ≡ (if is_inside x && next (sorted s.Throws) i then Err (LeftOut Here, i) else reads (rest.field_or_more x ms y n) l i)
unfolding walk forms
typed_law p.Outside ms y n l i = law (p.Typed p.Outside ms y n) l i
typed_law (p.Inside b w) ms y n l i = law (p.Typed (p.Inside b w) ms y n) l i

pub field_law : (x : p.Place) (ms : List Modifier) (y : TypeTree) (n : Lexeme) (l : ℕ) (i : List Lexeme) → reads (rest.field_or_more x ms y n) l i
    ≡ (told heads.AField ms s.Semicolon l >>= either (λ z. pure (tree.field y n None z)) (told heads.AField ms s.Assign l >>= either (λ e. reads (rest.with_value x ms y n) l) (reads (rest.no_field x ms y n) l))) i
unfolding walk
field_law x ms y n l i = told_two ms heads.AField heads.AField s.Semicolon s.Assign (λ z. give (tree.field y n None z)) (λ e. rest.with_value x ms y n) (rest.no_field x ms y n) l i

pub value_law : (x : p.Place) (ms : List Modifier) (y : TypeTree) (n : Lexeme) (l : ℕ) (i : List Lexeme)
    → reads (rest.with_value x ms y n) l i ≡ (file_reader (p.Code c.Init) l >>= λ v. one s.Semicolon l >>= λ z. pure (tree.field y n (Some v) z)) i
unfolding walk got
value_law x ms y n l i = refl

pub inside_law : (b : Bool) (w : List ℕ) (ms : List Modifier) (y : TypeTree) (n : Lexeme) (l : ℕ) (i : List Lexeme) → reads (rest.no_field (p.Inside b w) ms y n) l i
    ≡ (told heads.AProperty ms s.OpenBrace l >>= either (λ o. file_reader (p.Accessors []) (suc l) >>= λ xs. pure (tree.property y n xs)) (reads (typed_method (p.Inside b w) ms y n (bodied b)) l)) i
unfolding walk
inside_law b w ms y n l i = told_law heads.AProperty ms s.OpenBrace (λ o. deeper (p.Accessors []) (λ xs. give (tree.property y n xs))) (typed_method (p.Inside b w) ms y n (bodied b)) l i

pub method_law : (x : p.Place) (ms : List Modifier) (y : TypeTree) (n : Lexeme) (b : p.Bodied) (l : ℕ) (i : List Lexeme) → reads (typed_method x ms y n b) l i
    ≡ (one s.OpenParen l >>= λ q. file_reader (p.Parameters (owner (async_in ms))) (suc l) >>= λ ps. file_reader p.ThrowsOf l >>= λ ts. file_reader (p.BodyOf b) l >>= λ e. pure (tree.method y n ps ts e)) i
unfolding walk got
method_law x ms y n b l i = refl

pub creation_law : (n : NameTree) (l : ℕ) (i : List Lexeme) → file_reader (p.CreationOf n) l i
    ≡ (file_reader (p.Parameters p.Plain) (suc l) >>= λ ps. file_reader p.ThrowsOf l >>= λ ts. file_reader (p.BodyOf p.Method) l >>= λ e. pure (tree.creation n ps ts e)) i
unfolding walk forms
creation_law n l i = law (p.CreationOf n) l i

-- What is no field is a method outside, and inside what its place says.
pub none_outside : (x : p.Place) (ms : List Modifier) (y : TypeTree) (n : Lexeme) (l : ℕ) (i : List Lexeme) → x ≡ p.Outside → reads (rest.no_field x ms y n) l i ≡ reads (typed_method p.Outside ms y n p.Method) l i
none_outside x ms y n l i e = ap (λ (z : p.Place). reads (rest.no_field z ms y n) l i) e

pub none_inside : (x : p.Place) (b : Bool) (w : List ℕ) (ms : List Modifier) (y : TypeTree) (n : Lexeme) (l : ℕ) (i : List Lexeme) → x ≡ p.Inside b w → reads (rest.no_field x ms y n) l i ≡ reads (rest.no_field (p.Inside b w) ms y n) l i
none_inside x b w ms y n l i e = ap (λ (z : p.Place). reads (rest.no_field z ms y n) l i) e
