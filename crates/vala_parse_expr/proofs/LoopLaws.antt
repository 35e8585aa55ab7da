-- Loops and `switch` by their steps.
use Rattle.std.proofs.Common.{◌≡◌, ℕ, suc, Bool, true, false, List, [], ◌∷◌, ◌++◌, length, if◌then◌else◌, Option, Some, None, Ok, Err, refl, sym, ap, ◌∙◌}
use Rattle.predictive_grammar.specs.Forms.{Form, give}
use Rattle.predictive_grammar.specs.Steps.{Outcome, Parser, and_then, ◌>>=◌, pure}
use Rattle.predictive_grammar.specs.Reading.{walk}
use Rattle.vg_base.specs.declared.event.Span.{Span}
use Rattle.vala_lexer.specs.Tokens.{Lexeme}
use Rattle.vala_tree.specs.declared.code.Local.{Local}
use Rattle.vala_tree.specs.declared.code.Label.{Label as CaseLabel}
use Rattle.vala_tree.specs.declared.code.Label.TheVariants as label
use Rattle.vala_tree.specs.declared.code.Stmt.{Stmt}
use Rattle.vala_tree.specs.declared.code.Section.{Section}
use Rattle.vala_tree.specs.declared.code.Expr.{Expr}
use Rattle.vala_tree.specs.declared.code.ForStart.{ForStart}
use Rattle.vala_tree.specs.declared.code.ForStart.TheVariants as start
use Rattle.vala_tree.specs.declared.code.DeclaredType.{DeclaredType}
use Rattle.vala_tree.specs.declared.code.DeclaredType.TheVariants as declared
use Rattle.vala_grammar.specs.declared.sort.Sort.TheVariants as s
use Rattle.vala_grammar.specs.declared.parts.Beginning.{Beginning}
use Rattle.vala_grammar.specs.declared.parts.Beginning.TheVariants as beginning
use Rattle.vala_grammar.specs.declared.parts.Chain.{Chain}
use Rattle.vala_grammar.specs.declared.parts.Ended.{Ended}
use Rattle.vala_grammar.specs.declared.parts.ForHead.{ForHead}
use Rattle.vala_grammar.specs.Parts as p
use Rattle.vala_grammar.specs.Parts.{Part, tree_of}
use Rattle.vala_grammar.specs.Grammar as form
use Rattle.vala_grammar.specs.Grammar.{G, forms, for_start, foreach_name, head, test_then, end_with, label_behind}
use Rattle.vala_grammar.specs.Trees as tree
use Rattle.vala_grammar.specs.Tests.{is, is_type_sign, is_label}
use Rattle.vala_grammar.specs.Read.{vala_reader}
use Rattle.vala_parse_expr.specs.declared.sections.Parts.{Parts}
use Rattle.vala_cursor.specs.Ahead.{reads}
use Rattle.vala_cursor.specs.Gets.{got, one, next, way, leave}
use Rattle.vala_parse_expr.specs.Statements.{test_in, for_yield, for_declared, with_label, sections_of}
use Rattle.vala_grammar.proofs.Readers.{reader_unfolds}
use Rattle.vala_cursor.proofs.Steps.{just, bind, way_same}
use Rattle.vala_parse_expr.proofs.StatementLaws.{test_then_law}
use Rattle.vala_grammar.specs.Label.{Label}

pub do_law : (t : Lexeme) (l : ℕ) (i : List Lexeme) → vala_reader (p.DoMore t) l i
    ≡ (vala_reader p.Body l >>= λ a. one s.While l >>= λ w. test_in l >>= λ c. one s.Semicolon l >>= λ z. pure (tree.do_loop t a c z)) i
unfolding walk forms got
do_law t l i = reader_unfolds (p.DoMore t) l i ∙ go (vala_reader p.Body l i)
  where
    behind : (a : Ended) (o : Outcome Label Lexeme Lexeme)
        → and_then o (λ w. reads (test_then (λ c. end_with {r = p.DoMore t} (λ z. tree.do_loop t a c z))) l) ≡ and_then o (λ w. test_in l >>= λ c. one s.Semicolon l >>= λ z. pure (tree.do_loop t a c z))
    behind a (Ok x) = test_then_law (λ c. end_with {r = p.DoMore t} (λ z. tree.do_loop t a c z)) l x.1
    behind a (Err e) = refl

    go : (o : Outcome Label Lexeme Ended)
        → and_then o (λ a. one s.While l >>= λ w. reads (test_then (λ c. end_with {r = p.DoMore t} (λ z. tree.do_loop t a c z))) l)
        ≡ and_then o (λ a. one s.While l >>= λ w. test_in l >>= λ c. one s.Semicolon l >>= λ z. pure (tree.do_loop t a c z))
    go (Ok x) = behind x.0 (one s.While l x.1)
    go (Err e) = refl

pub for_law : (t : Lexeme) (l : ℕ) (i : List Lexeme) → vala_reader (p.ForMore t) l i
    ≡ (one s.OpenParen l >>= λ o. vala_reader p.ForHeadOf (suc l) >>= λ h. vala_reader p.Body l >>= λ a. pure (tree.for_loop t h a)) i
unfolding walk forms got
for_law t l i = reader_unfolds (p.ForMore t) l i

pub for_head_law : (l : ℕ) (i : List Lexeme) → vala_reader p.ForHeadOf l i
    ≡ way (is s.Semicolon) (one s.Semicolon l >>= λ z. vala_reader (p.ForTest (start.Exprs [])) l >>= pure)
    (way (is s.Yield) (for_yield l >>= pure) (vala_reader p.Begin l >>= λ b. reads (for_start b) l)) i
unfolding walk forms got for_yield
for_head_law l i = reader_unfolds p.ForHeadOf l i ∙ ap (λ (o : Outcome Label Lexeme ForHead). if next (is s.Semicolon) i then and_then (one s.Semicolon l i) (λ z. vala_reader (p.ForTest (start.Exprs [])) l >>= pure)
    else if next (is s.Yield) i then o else and_then (vala_reader p.Begin l i) (λ b. reads (for_start b) l)) (go (one s.Yield l i))
  where
    heads : (o : Outcome Label Lexeme Expr) → and_then o (λ e. vala_reader (p.ForExprs (e ∷ [])) l >>= pure) ≡ and_then (and_then o (λ e. vala_reader (p.ForExprs (e ∷ [])) l)) pure
    heads (Ok x) = refl
    heads (Err e) = refl

    chain : (o : Outcome Label Lexeme Chain)
        → and_then o (λ x. vala_reader (p.Onward x) l >>= λ e. vala_reader (p.ForExprs (e ∷ [])) l >>= pure) ≡ and_then (and_then o (λ x. vala_reader (p.Onward x) l >>= λ e. vala_reader (p.ForExprs (e ∷ [])) l)) pure
    chain (Ok x) = heads (vala_reader (p.Onward x.0) l x.1)
    chain (Err e) = refl

    call : (t : Lexeme) (o : Outcome Label Lexeme Expr)
        → and_then o (λ a. vala_reader (p.Suffix (tree.plain (tree.yielded t a))) l >>= λ x. vala_reader (p.Onward x) l >>= λ e. vala_reader (p.ForExprs (e ∷ [])) l >>= pure)
        ≡ and_then (and_then o (λ a. vala_reader (p.Suffix (tree.plain (tree.yielded t a))) l >>= λ x. vala_reader (p.Onward x) l >>= λ e. vala_reader (p.ForExprs (e ∷ [])) l)) pure
    call t (Ok x) = chain (vala_reader (p.Suffix (tree.plain (tree.yielded t x.0))) l x.1)
    call t (Err e) = refl

    go : (o : Outcome Label Lexeme Lexeme)
        → and_then o (λ t. vala_reader p.YieldCall (suc l) >>= λ a. vala_reader (p.Suffix (tree.plain (tree.yielded t a))) l >>= λ x. vala_reader (p.Onward x) l >>= λ e. vala_reader (p.ForExprs (e ∷ [])) l >>= pure)
        ≡ and_then (and_then o (λ t. vala_reader p.YieldCall (suc l) >>= λ a. vala_reader (p.Suffix (tree.plain (tree.yielded t a))) l >>= λ x. vala_reader (p.Onward x) l >>= λ e. vala_reader (p.ForExprs (e ∷ [])) l)) pure
    go (Ok x) = call x.0 (vala_reader p.YieldCall (suc l) x.1)
    go (Err e) = refl

pub declared_start : (b : Beginning) (d : Local) (x : Span) (l : ℕ) (i : List Lexeme) → b ≡ beginning.Declared d x → reads (for_start b) l i ≡ for_declared d l i
unfolding walk got for_declared
declared_start b d x l i e = ap (λ (b : Beginning). reads (for_start b) l i) e ∙ bind (one s.Semicolon l i) _ _ (λ z r. just (vala_reader (p.ForTest (start.Declared d)) l r))

pub for_expression : (e : Expr) (l : ℕ) (i : List Lexeme) → reads (for_start (beginning.Expression e)) l i ≡ (vala_reader (p.ForExprs (e ∷ [])) l >>= pure) i
unfolding walk got
for_expression e l i = refl

pub for_exprs_law : (xs : List Expr) (l : ℕ) (i : List Lexeme) → vala_reader (p.ForExprs xs) l i
    ≡ way (is s.Comma) (one s.Comma l >>= λ t. vala_reader p.Whole l >>= λ e. vala_reader (p.ForExprs (xs ++ e ∷ [])) l >>= pure) (one s.Semicolon l >>= λ z. vala_reader (p.ForTest (start.Exprs xs)) l >>= pure) i
unfolding walk forms got
for_exprs_law xs l i = reader_unfolds (p.ForExprs xs) l i

pub for_test_law : (b : ForStart) (l : ℕ) (i : List Lexeme) → vala_reader (p.ForTest b) l i
    ≡ way (is s.Semicolon) (one s.Semicolon l >>= λ z. vala_reader (p.ForSteps b None) l >>= pure)
    (vala_reader p.Whole l >>= λ c. one s.Semicolon l >>= λ z. vala_reader (p.ForSteps b (Some c)) l >>= pure) i
unfolding walk forms got
for_test_law b l i = reader_unfolds (p.ForTest b) l i

pub for_steps_law : (b : ForStart) (c : Option Expr) (l : ℕ) (i : List Lexeme) → vala_reader (p.ForSteps b c) l i
    ≡ way (is s.CloseParen) (one s.CloseParen l >>= λ q. pure (head b c [])) (vala_reader p.Whole l >>= λ e. vala_reader (p.MoreSteps b c (e ∷ [])) l >>= pure) i
unfolding walk forms got
for_steps_law b c l i = reader_unfolds (p.ForSteps b c) l i

pub more_steps_law : (b : ForStart) (c : Option Expr) (xs : List Expr) (l : ℕ) (i : List Lexeme) → vala_reader (p.MoreSteps b c xs) l i
    ≡ way (is s.Comma) (one s.Comma l >>= λ t. vala_reader p.Whole l >>= λ e. vala_reader (p.MoreSteps b c (xs ++ e ∷ [])) l >>= pure) (one s.CloseParen l >>= λ q. pure (head b c xs)) i
unfolding walk forms got
more_steps_law b c xs l i = reader_unfolds (p.MoreSteps b c xs) l i

pub foreach_law : (t : Lexeme) (l : ℕ) (i : List Lexeme) → vala_reader (p.ForeachMore t) l i
    ≡ (one s.OpenParen l >>= λ o. way (is s.Var) (one s.Var (suc l) >>= λ v. reads (foreach_name t declared.Var) l)
    (vala_reader p.AnyType (suc l) >>= λ y. way is_type_sign leave (reads (foreach_name t (declared.Written y)) l))) i
unfolding walk forms got
foreach_law t l i = reader_unfolds (p.ForeachMore t) l i

pub foreach_name_law : (t : Lexeme) (y : DeclaredType) (l : ℕ) (i : List Lexeme) → reads (foreach_name t y) l i
    ≡ (one s.Identifier (suc l) >>= λ x. one s.In (suc l) >>= λ w. vala_reader p.Whole (suc l) >>= λ e. one s.CloseParen (suc l) >>= λ q. vala_reader p.Body l >>= λ a. pure (tree.foreach_loop t y x e a)) i
unfolding walk got
foreach_name_law t y l i = refl

pub switch_law : (t : Lexeme) (l : ℕ) (i : List Lexeme) → vala_reader (p.SwitchMore t) l i
    ≡ (test_in l >>= λ e. one s.OpenBrace l >>= λ o. way (is s.CloseBrace) (one s.CloseBrace (suc l) >>= λ c. pure (tree.switch t e [] c))
    (vala_reader p.AnyLabel (suc l) >>= λ x. vala_reader (p.Sections t e [] x [] []) (suc l) >>= pure)) i
unfolding walk forms got
switch_law t l i = reader_unfolds (p.SwitchMore t) l i ∙ test_then_law {r = p.SwitchMore t} (λ e. form.one s.OpenBrace (λ o. form.where_inner s.CloseBrace (λ c. give (tree.switch t e [] c)) (form.deeper p.AnyLabel (λ x. form.deeper (p.Sections t e [] x [] []) (λ y. give y))))) l i

pub any_label_law : (l : ℕ) (i : List Lexeme) → vala_reader p.AnyLabel l i
    ≡ way (is s.Case) (one s.Case l >>= λ t. vala_reader p.Whole l >>= λ e. one s.Colon l >>= λ c. pure (label.Case e (tree.join t.span c.span)))
    (one s.Default l >>= λ t. one s.Colon l >>= λ c. pure (label.Default (tree.join t.span c.span))) i
unfolding walk forms got
any_label_law l i = reader_unfolds p.AnyLabel l i

pub sections_law : (t : Lexeme) (e : Expr) (done : List Section) (x : CaseLabel) (xs : List CaseLabel) (ss : List Stmt) (l : ℕ) (i : List Lexeme) → vala_reader (p.Sections t e done x xs ss) l i
    ≡ way (is s.CloseBrace) (one s.CloseBrace l >>= λ c. pure (tree.switch t e (done ++ tree.section x xs ss ∷ []) c))
    (way is_label (vala_reader p.AnyLabel l >>= λ y. vala_reader (sections_of t e (with_label (record { done = done; first = x; others = xs; statements = ss }) y)) l)
    (vala_reader p.AnyStmt l >>= λ z. vala_reader (p.Sections t e done x xs (ss ++ z.statement ∷ [])) l)) i
unfolding walk forms got
sections_law t e done x xs ss l i = reader_unfolds (p.Sections t e done x xs ss) l i
    ∙ way_same (next (is s.CloseBrace) i) _ _ _ _ refl (way_same (next is_label i) _ _ _ _ (labels (vala_reader p.AnyLabel l i)) (statements (vala_reader p.AnyStmt l i)))
  where
    step : (us : List Stmt) (y : CaseLabel) (j : List Lexeme)
        → reads (label_behind t e done x xs us y) l j ≡ vala_reader (sections_of t e (with_label (record { done = done; first = x; others = xs; statements = us }) y)) l j
    step [] y j = just _
    step (z ∷ zs) y j = just _

    labels : (o : Outcome Label Lexeme CaseLabel)
        → and_then o (λ y. reads (label_behind t e done x xs ss y) l) ≡ and_then o (λ y. vala_reader (sections_of t e (with_label (record { done = done; first = x; others = xs; statements = ss }) y)) l)
    labels (Ok o) = step ss o.0 o.1
    labels (Err f) = refl

    statements : (o : Outcome Label Lexeme Ended)
        → and_then o (λ z. vala_reader (p.Sections t e done x xs (ss ++ z.statement ∷ [])) l >>= pure) ≡ and_then o (λ z. vala_reader (p.Sections t e done x xs (ss ++ z.statement ∷ [])) l)
    statements (Ok o) = just _
    statements (Err f) = refl
