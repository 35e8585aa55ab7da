-- Statements by their steps.
use Rattle.std.proofs.Common.{◌≡◌, ℕ, suc, Bool, true, false, List, [], ◌∷◌, ◌++◌, length, if◌then◌else◌, Option, Some, None, Ok, Err, refl, sym, ap, ◌∙◌}
use Rattle.predictive_grammar.specs.Forms.{Form, give}
use Rattle.predictive_grammar.specs.Steps.{Outcome, Parser, and_then, ◌>>=◌, pure}
use Rattle.predictive_grammar.specs.Reading.{walk}
use Rattle.vg_base.specs.declared.event.Span.{Span}
use Rattle.vala_lexer.specs.Tokens.{Lexeme}
use Rattle.vala_tree.specs.declared.code.Expr.{Expr}
use Rattle.vala_tree.specs.declared.code.Block.{Block}
use Rattle.vala_tree.specs.declared.code.Stmt.{Stmt}
use Rattle.vala_tree.specs.declared.code.Stmt.TheVariants as st
use Rattle.vala_tree.specs.declared.code.Catch.{Catch}
use Rattle.vala_tree.specs.declared.code.Label.{Label as CaseLabel}
use Rattle.vala_grammar.specs.declared.sort.Sort.TheVariants as s
use Rattle.vala_grammar.specs.declared.parts.Ended.{Ended}
use Rattle.vala_grammar.specs.Parts as p
use Rattle.vala_grammar.specs.Parts.{Part, tree_of}
use Rattle.vala_grammar.specs.Grammar.{G, forms, here, test_then}
use Rattle.vala_grammar.specs.Trees as tree
use Rattle.vala_grammar.specs.Tests.{is}
use Rattle.vala_grammar.specs.Read.{vala_reader}
use Rattle.vala_cursor.specs.Ahead.{reads}
use Rattle.vala_cursor.specs.Gets.{got, one, next, way}
use Rattle.vala_parse_expr.specs.declared.sections.Parts.{Parts}
use Rattle.vala_parse_expr.specs.Statements.{test_in, while_form, return_form, yield_form, catch_form, more_form, leaving_form, jump_form, loop_form, try_of, with_label}
use Rattle.vala_grammar.proofs.Readers.{reader_unfolds}
use Rattle.vala_cursor.proofs.Steps.{just, assoc, bind}
use Rattle.vala_grammar.specs.Label.{Label}

pub test_then_law : {r : Part} (k : Expr → Form G r) (l : ℕ) (i : List Lexeme) → reads (test_then k) l i ≡ (test_in l >>= λ c. reads (k c) l) i
unfolding walk got test_in
test_then_law k l i = go (one s.OpenParen l i)
  where
    closes : (c : Expr) (o : Outcome Label Lexeme Lexeme) → and_then o (λ q. reads (k c) l) ≡ and_then (and_then o (λ q. pure c)) (λ c. reads (k c) l)
    closes c (Ok x) = refl
    closes c (Err e) = refl

    inside : (o : Outcome Label Lexeme Expr)
        → and_then o (λ c j. and_then (one s.CloseParen (suc l) j) (λ q. reads (k c) l)) ≡ and_then (and_then o (λ c j. and_then (one s.CloseParen (suc l) j) (λ q. pure c))) (λ c. reads (k c) l)
    inside (Ok x) = closes x.0 (one s.CloseParen (suc l) x.1)
    inside (Err e) = refl

    go : (o : Outcome Label Lexeme Lexeme)
        → and_then o (λ t j. and_then (vala_reader p.Whole (suc l) j) (λ c j. and_then (one s.CloseParen (suc l) j) (λ q. reads (k c) l)))
        ≡ and_then (and_then o (λ t j. and_then (vala_reader p.Whole (suc l) j) (λ c j. and_then (one s.CloseParen (suc l) j) (λ q. pure c)))) (λ c. reads (k c) l)
    go (Ok x) = inside (vala_reader p.Whole (suc l) x.1)
    go (Err e) = refl

pub block_of_law : (l : ℕ) (i : List Lexeme) → vala_reader p.BlockOf l i ≡ (one s.OpenBrace l >>= λ o. vala_reader (p.Statements o []) (suc l) >>= pure) i
unfolding walk forms got
block_of_law l i = reader_unfolds p.BlockOf l i

pub statements_law : (o : Lexeme) (xs : List Stmt) (l : ℕ) (i : List Lexeme) → vala_reader (p.Statements o xs) l i
    ≡ way (is s.CloseBrace) (one s.CloseBrace l >>= λ c. pure (tree.block o xs c)) (vala_reader p.AnyStmt l >>= λ x. vala_reader (p.Statements o (xs ++ x.statement ∷ [])) l >>= pure) i
unfolding walk forms got
statements_law o xs l i = reader_unfolds (p.Statements o xs) l i

pub any_stmt_law : (l : ℕ) (i : List Lexeme) → vala_reader p.AnyStmt l i
    ≡ way (is s.OpenBrace) (vala_reader p.BlockOf l >>= λ b. pure (tree.ended (st.Block b))) (vala_reader p.Bare l >>= pure) i
unfolding walk forms got
any_stmt_law l i = reader_unfolds p.AnyStmt l i

pub bare_law : (l : ℕ) (i : List Lexeme) → vala_reader p.Bare l i
    ≡ way (is s.If) (one s.If l >>= λ t. vala_reader p.IfMore l >>= λ b. pure (tree.if_of t b)) (vala_reader p.Simple l >>= pure) i
unfolding walk forms got
bare_law l i = reader_unfolds p.Bare l i

pub body_law : (l : ℕ) (i : List Lexeme) → vala_reader p.Body l i
    ≡ way (is s.OpenBrace) (vala_reader p.BlockOf l >>= λ b. pure (tree.ended (st.Block b))) (vala_reader p.Bare (suc l) >>= pure) i
unfolding walk forms got
body_law l i = reader_unfolds p.Body l i

pub simple_law : (l : ℕ) (i : List Lexeme) → vala_reader p.Simple l i
    ≡ way (is s.Semicolon) (one s.Semicolon l >>= λ t. pure (tree.ended (st.Empty t.span))) (reads loop_form l) i
unfolding walk forms got
simple_law l i = reader_unfolds p.Simple l i

pub loop_law : (l : ℕ) (i : List Lexeme) → reads loop_form l i
    ≡ way (is s.While) (one s.While l >>= λ t. reads (while_form t) l)
    (way (is s.Do) (one s.Do l >>= λ t. vala_reader (p.DoMore t) l >>= λ x. pure (tree.ended x))
    (way (is s.For) (one s.For l >>= λ t. vala_reader (p.ForMore t) l >>= pure)
    (way (is s.Foreach) (one s.Foreach l >>= λ t. vala_reader (p.ForeachMore t) l >>= pure) (reads jump_form l)))) i
unfolding walk got
loop_law l i = refl

pub jump_law : (l : ℕ) (i : List Lexeme) → reads jump_form l i
    ≡ way (is s.Break) (one s.Break l >>= λ t. one s.Semicolon l >>= λ c. pure (tree.ended (tree.break_jump t c)))
    (way (is s.Continue) (one s.Continue l >>= λ t. one s.Semicolon l >>= λ c. pure (tree.ended (tree.continue_jump t c))) (reads leaving_form l)) i
unfolding walk got
jump_law l i = refl

pub leaving_law : (l : ℕ) (i : List Lexeme) → reads leaving_form l i
    ≡ way (is s.Return) (one s.Return l >>= λ t. reads (return_form t) l)
    (way (is s.Throw) (one s.Throw l >>= λ t. vala_reader p.Whole l >>= λ e. one s.Semicolon l >>= λ c. pure (tree.ended (tree.throw_jump t e c)))
    (way (is s.Yield) (one s.Yield l >>= λ t. reads (yield_form t) l) (reads more_form l))) i
unfolding walk got
leaving_law l i = refl

pub more_law : (l : ℕ) (i : List Lexeme) → reads more_form l i
    ≡ way (is s.Switch) (one s.Switch l >>= λ t. vala_reader (p.SwitchMore t) l >>= λ x. pure (tree.ended x))
    (way (is s.Try) (try_of l >>= λ x. pure (tree.ended x))
    (vala_reader p.Begin l >>= λ b. one s.Semicolon l >>= λ c. pure (tree.ended (tree.begun b c)))) i
unfolding walk got try_of
more_law l i = ap (λ (o : Outcome Label Lexeme Ended). if next (is s.Switch) i then and_then (one s.Switch l i) (λ t. vala_reader (p.SwitchMore t) l >>= λ x. pure (tree.ended x))
    else if next (is s.Try) i then o else and_then (vala_reader p.Begin l i) (λ b. one s.Semicolon l >>= λ c. pure (tree.ended (tree.begun b c)))) (go (one s.Try l i))
  where
    behind : (o : Outcome Label Lexeme Block) (t : Lexeme)
        → and_then o (λ b. vala_reader (p.TryMore t b []) l >>= λ x. pure (tree.ended x)) ≡ and_then (and_then o (λ b. vala_reader (p.TryMore t b []) l)) (λ x. pure (tree.ended x))
    behind (Ok x) t = refl
    behind (Err e) t = refl

    go : (o : Outcome Label Lexeme Lexeme)
        → and_then o (λ t. vala_reader p.BlockOf l >>= λ b. vala_reader (p.TryMore t b []) l >>= λ x. pure (tree.ended x))
        ≡ and_then (and_then o (λ t. vala_reader p.BlockOf l >>= λ b. vala_reader (p.TryMore t b []) l)) (λ x. pure (tree.ended x))
    go (Ok x) = behind (vala_reader p.BlockOf l x.1) x.0
    go (Err e) = refl

pub while_law : (t : Lexeme) (l : ℕ) (i : List Lexeme) → reads (while_form t) l i ≡ (test_in l >>= λ c. vala_reader p.Body l >>= λ a. pure (tree.while_loop t c a)) i
unfolding walk
while_law t l i = test_then_law {r = p.Simple} (λ c. here {r = p.Simple} p.Body (λ a. give (tree.while_loop t c a))) l i

pub return_law : (t : Lexeme) (l : ℕ) (i : List Lexeme) → reads (return_form t) l i
    ≡ way (is s.Semicolon) (one s.Semicolon l >>= λ c. pure (tree.ended (tree.return_jump t None c)))
    (vala_reader p.Whole l >>= λ e. one s.Semicolon l >>= λ c. pure (tree.ended (tree.return_jump t (Some e) c))) i
unfolding walk got
return_law t l i = refl

pub yield_law : (t : Lexeme) (l : ℕ) (i : List Lexeme) → reads (yield_form t) l i
    ≡ way (is s.Semicolon) (one s.Semicolon l >>= λ c. pure (tree.ended (tree.yield_jump t c)))
    (vala_reader p.YieldCall (suc l) >>= λ a. vala_reader (p.Suffix (tree.plain (tree.yielded t a))) l >>= λ x. vala_reader (p.Onward x) l >>= λ e. one s.Semicolon l >>= λ c. pure (tree.ended (tree.expression e c))) i
unfolding walk got
yield_law t l i = refl

pub try_more_law : (t : Lexeme) (b : Block) (xs : List Catch) (l : ℕ) (i : List Lexeme) → vala_reader (p.TryMore t b xs) l i
    ≡ way (is s.Catch) (vala_reader p.CatchOf l >>= λ c. vala_reader (p.TryMore t b (xs ++ c ∷ [])) l >>= pure)
    (way (is s.Finally) (one s.Finally l >>= λ w. vala_reader p.BlockOf l >>= λ z. pure (tree.try_finally t b xs z)) (pure (tree.try_block t b xs))) i
unfolding walk forms got
try_more_law t b xs l i = reader_unfolds (p.TryMore t b xs) l i

pub catch_law : (l : ℕ) (i : List Lexeme) → vala_reader p.CatchOf l i
    ≡ (one s.Catch l >>= λ t. way (is s.OpenParen) (one s.OpenParen l >>= λ o. reads (catch_form t) l) (vala_reader p.BlockOf l >>= λ b. pure (tree.catch_all t b))) i
unfolding walk forms got
catch_law l i = reader_unfolds p.CatchOf l i

-- ---- labels of a `switch`

pub label_behind_labels : (q : Parts) (y : CaseLabel) → q.statements ≡ [] → with_label q y ≡ record { done = q.done; first = q.first; others = q.others ++ y ∷ []; statements = [] }
label_behind_labels q y none = go q.statements none
  where
    go : (xs : List Stmt) → xs ≡ [] → with_label (record { done = q.done; first = q.first; others = q.others; statements = xs }) y ≡ record { done = q.done; first = q.first; others = q.others ++ y ∷ []; statements = [] }
    go [] e = refl
    go (x ∷ xs) e = cc

pub label_behind_statements : (q : Parts) (y : CaseLabel) → (q.statements ≡ [] → ⊥)
    → with_label q y ≡ record { done = q.done ++ tree.section q.first q.others q.statements ∷ []; first = y; others = []; statements = [] }
label_behind_statements q y some = go q.statements some
  where
    go : (xs : List Stmt) → (xs ≡ [] → ⊥)
        → with_label (record { done = q.done; first = q.first; others = q.others; statements = xs }) y ≡ record { done = q.done ++ tree.section q.first q.others xs ∷ []; first = y; others = []; statements = [] }
    go [] n = absurd (n refl)
    go (x ∷ xs) n = refl

pub ruleset with_label_laws = (label_behind_labels, label_behind_statements)
