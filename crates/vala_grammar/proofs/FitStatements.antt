-- Statements fit.
use Rattle.std.proofs.Common.{◌≡◌, Bool, true, false, not, ◌&&◌, ◌||◌, refl, List, [], ◌∷◌, Option, None}
use Rattle.predictive_grammar.specs.Forms.{Form}
use Rattle.predictive_grammar.proofs.Sets.{is_within}
use Rattle.predictive_grammar.proofs.Fits.{Fits, either, Nones, never, only, Each, nothing, done, token, text, choice, barred, widen, fit_part}
use Rattle.vala_lexer.specs.Tokens.{Lexeme}
use Rattle.vala_tree.specs.declared.code.Expr.{Expr}
use Rattle.vala_tree.specs.declared.code.Stmt.{Stmt}
use Rattle.vala_tree.specs.declared.code.Block.{Block}
use Rattle.vala_tree.specs.declared.code.Label.{Label}
use Rattle.vala_tree.specs.declared.code.Section.{Section}
use Rattle.vala_tree.specs.declared.code.Declarator.{Declarator}
use Rattle.vala_tree.specs.declared.code.ForStart.{ForStart}
use Rattle.vala_tree.specs.declared.code.Catch.{Catch}
use Rattle.vala_grammar.specs.declared.parts.Ended.{Ended}
use Rattle.vala_grammar.specs.declared.parts.Beginning.{Beginning}
use Rattle.vala_grammar.specs.declared.parts.Beginning.TheVariants as beginning
use Rattle.vala_grammar.specs.Parts.{TypeAt}
use Rattle.vala_tree.specs.declared.names.TypeTree.{TypeTree}
use Rattle.vala_grammar.specs.declared.sort.Sort.{Sort}
use Rattle.vala_grammar.specs.declared.sort.Sort.TheVariants as s
use Rattle.vala_grammar.specs.declared.parts.Last.{Last}
use Rattle.vala_grammar.specs.declared.parts.Last.TheVariants as last
use Rattle.vala_grammar.specs.declared.parts.Opening.{Opening}
use Rattle.vala_grammar.specs.declared.parts.Opening.TheVariants as opening
use Rattle.vala_grammar.specs.declared.parts.Context.TheVariants as context
use Rattle.vala_grammar.specs.Tests.{is, among, is_type_sign, is_label}
use Rattle.vala_grammar.specs.Trees as tree
use Rattle.vala_grammar.specs.Parts.{Part, TypeAt, Onward, BlockOf, Statements, AnyStmt, Bare, Simple, Body, Alternative, IfMore, IfTail, DoMore, ForMore, ForHeadOf, ForExprs, ForTest, ForSteps, MoreSteps, ForeachMore, SwitchMore, AnyLabel, Sections, TryMore, CatchOf, Begin, Locals, MoreLocals, OneLocal}
use Rattle.vala_grammar.specs.Grammar.{here, begins, G, for_start, label_behind, written, forms}
use Rattle.vala_grammar.specs.Tables.{ends, goes_colon, behind_expression, behind_opening, begins_statement, behind_statement, behind_beginning}
use Rattle.vala_grammar.proofs.Finite.{finite}
use Rattle.vala_grammar.proofs.Tables.{tabled, FitsAs}
use Rattle.vala_grammar.proofs.Where.{where_fits, same_set}

-- ---- what may follow a statement, open or not

statements_follow : (b : Bool) → is_within finite (either (λ x. is s.CloseBrace x || begins_statement x) nothing) (behind_statement b) ≡ true
statements_follow true = refl
statements_follow false = refl

sections_follow : (b : Bool) → is_within finite (either (λ x. is s.CloseBrace x || (is_label x || begins_statement x)) nothing) (behind_statement b) ≡ true
sections_follow true = refl
sections_follow false = refl

else_follows : (b : Bool) → is_within finite (either (λ x. is s.Else x && not b) nothing) (behind_statement b) ≡ true
else_follows true = refl
else_follows false = refl

open_ends : (b : Bool) → is_within finite (behind_statement true) (behind_statement b) ≡ true
open_ends true = refl
open_ends false = refl

while_follows : (b : Bool) → is_within finite (is s.While) (behind_statement b) ≡ true
while_follows true = refl
while_follows false = refl

abbrev onward_and : Last → (Sort → Bool) → Sort → Bool
onward_and (last.Asked b) h x = is s.Colon x
onward_and l h x = goes_colon 0 13 l x || h x

onward_then : {r : Part} (k : Expr → Form G r) (h : Sort → Bool) (v : Expr) (l : Last) → ((e : Expr) → Fits tabled r true h never (k e)) → is_within finite h behind_expression ≡ true
    → Fits tabled r true (onward_and l h) never (here (Onward (record { value = v; last = l })) k)
onward_then k h v last.Plain rest follows = text refl (λ e. rest e) (λ e. follows) (λ e. tt)
onward_then k h v last.Names rest follows = text refl (λ e. rest e) (λ e. follows) (λ e. tt)
onward_then k h v last.Integer rest follows = text refl (λ e. rest e) (λ e. follows) (λ e. tt)
onward_then k h v last.Unmarked rest follows = text refl (λ e. rest e) (λ e. follows) (λ e. tt)
onward_then k h v last.Alone rest follows = text refl (λ e. rest e) (λ e. follows) (λ e. tt)
onward_then k h v (last.Asked b) rest follows = widen tabled (text refl (λ e. rest e) (λ e. follows) (λ e. tt)) refl (λ a i. i)

semicolon_follows : (l : Last) → is_within finite (onward_and l (is s.Semicolon)) (ends 0 l) ≡ true
semicolon_follows last.Plain = refl
semicolon_follows _ = refl

list_follows : (l : Last) → is_within finite (onward_and l (among (s.Comma ∷ s.Semicolon ∷ []))) (ends 0 l) ≡ true
list_follows last.Plain = refl
list_follows _ = refl

-- ---- blocks and bodies

pub fit_block : FitsAs BlockOf
unfolding forms
fit_block = fit_part tabled BlockOf
    (token s.OpenBrace refl (λ o. text refl (λ a. done _) (λ a. refl) (λ a. refl))) refl (λ a e. absurd e)

pub fit_statements : (o : Lexeme) (xs : List Stmt) → FitsAs (Statements o xs)
unfolding forms
fit_statements o xs = fit_part tabled (Statements o xs)
    (where_fits s.CloseBrace refl (λ c. done _) (text refl (λ x. text refl (λ a. done _) (λ a. refl) (λ a. refl)) (λ x. statements_follow x.is_open) (λ x. tt)) refl tt) refl (λ a e. absurd e)

pub fit_statement : FitsAs AnyStmt
unfolding forms
fit_statement = fit_part tabled AnyStmt
    (choice (text refl (λ a. done _) (λ a. refl) (λ a. refl)) (text refl (λ a. done _) (λ a. refl) (λ a. same_set (behind_statement a.is_open))) refl tt) refl (λ a e. absurd e)

pub fit_bare : FitsAs Bare
unfolding forms
fit_bare = fit_part tabled Bare
    (where_fits s.If refl (λ t. text refl (λ a. done _) (λ a. refl) (λ a. same_set (behind_statement a.is_open))) (text refl (λ a. done _) (λ a. refl) (λ a. same_set (behind_statement a.is_open))) refl tt) refl (λ a e. absurd e)

pub fit_body : FitsAs Body
unfolding forms
fit_body = fit_part tabled Body
    (choice (text refl (λ a. done _) (λ a. refl) (λ a. refl)) (text refl (λ a. done _) (λ a. refl) (λ a. same_set (behind_statement a.is_open))) refl tt) refl (λ a e. absurd e)

pub fit_alternative : FitsAs Alternative
unfolding forms
fit_alternative = fit_part tabled Alternative
    (choice (text refl (λ a. done _) (λ a. refl) (λ a. refl)) (where_fits s.If refl (λ t. text refl (λ a. done _) (λ a. refl) (λ a. same_set (behind_statement a.is_open))) (text refl (λ a. done _) (λ a. refl) (λ a. same_set (behind_statement a.is_open))) refl tt) refl tt) refl (λ a e. absurd e)

begin_then : (b : Beginning) → is_within finite (is s.Semicolon) (behind_beginning b) ≡ true
begin_then (beginning.Declared d y) = refl
begin_then (beginning.Expression e) = refl

pub fit_simple : FitsAs Simple
unfolding forms
fit_simple = fit_part tabled Simple
    (where_fits s.Semicolon refl (λ t. done _)
    (where_fits s.While refl (λ t. token s.OpenParen refl (λ p. text refl (λ c. token s.CloseParen refl (λ q. text refl (λ a. done _) (λ a. refl) (λ a. same_set (behind_statement a.is_open)))) (λ c. refl) (λ c. tt)))
    (where_fits s.Do refl (λ t. text refl (λ a. done _) (λ a. refl) (λ a. refl))
    (where_fits s.For refl (λ t. text refl (λ a. done _) (λ a. refl) (λ a. same_set (behind_statement a.is_open)))
    (where_fits s.Foreach refl (λ t. text refl (λ a. done _) (λ a. refl) (λ a. same_set (behind_statement a.is_open)))
    (where_fits s.Break refl (λ t. token s.Semicolon refl (λ c. done _))
    (where_fits s.Continue refl (λ t. token s.Semicolon refl (λ c. done _))
    (where_fits s.Return refl (λ t. where_fits s.Semicolon refl (λ c. done _) (text refl (λ e. token s.Semicolon refl (λ c. done _)) (λ e. refl) (λ e. tt)) refl tt)
    (where_fits s.Throw refl (λ t. text refl (λ e. token s.Semicolon refl (λ c. done _)) (λ e. refl) (λ e. tt))
    (where_fits s.Yield refl (λ t. where_fits s.Semicolon refl (λ c. done _)
    (text refl (λ a. text refl (λ x. onward_then _ (is s.Semicolon) x.value x.last (λ e. token s.Semicolon refl (λ c. done _)) refl) (λ x. semicolon_follows x.last) (λ x. tt)) (λ a. refl) (λ a. tt)) refl tt)
    (where_fits s.Switch refl (λ t. text refl (λ a. done _) (λ a. refl) (λ a. refl))
    (where_fits s.Try refl (λ t. text refl (λ b. text refl (λ a. done _) (λ a. refl) (λ a. refl)) (λ b. refl) (λ b. refl))
    (text refl (λ b. token s.Semicolon refl (λ c. done _)) (λ b. begin_then b) (λ b. tt)) refl tt) refl tt) refl tt) refl tt) refl tt) refl tt) refl tt) refl tt) refl tt) refl tt) refl tt) refl tt) refl (λ a e. absurd e)

-- ---- `if` and loops

pub fit_if_more : FitsAs IfMore
unfolding forms
fit_if_more = fit_part tabled IfMore
    (token s.OpenParen refl (λ p. text refl (λ c. token s.CloseParen refl (λ q. text refl (λ a. text refl (λ a. done _) (λ a. refl) (λ a. same_set (behind_statement a.is_open))) (λ a. else_follows a.is_open) (λ a. open_ends a.is_open))) (λ c. refl) (λ c. tt))) refl (λ a e. absurd e)

pub fit_if_tail : (c : Expr) (a : Ended) → FitsAs (IfTail c a)
unfolding forms
fit_if_tail c a = by a.statement a.is_open
  where
    by : (x : Stmt) (b : Bool) → FitsAs (IfTail c (record { statement = x; is_open = b }))
    by x true = fit_part tabled (IfTail c (record { statement = x; is_open = true })) (done _) refl (λ a e. e)
    by x false = fit_part tabled (IfTail c (record { statement = x; is_open = false })) (where_fits s.Else refl (λ w. text refl (λ a. done _) (λ a. refl) (λ a. same_set (behind_statement a.is_open))) (done _) refl refl) refl (λ a e. e)

pub fit_do_more : (t : Lexeme) → FitsAs (DoMore t)
unfolding forms
fit_do_more t = fit_part tabled (DoMore t)
    (text refl (λ a. token s.While refl (λ w. token s.OpenParen refl (λ p. text refl (λ c. token s.CloseParen refl (λ q. token s.Semicolon refl (λ z. done _))) (λ c. refl) (λ c. tt)))) (λ a. while_follows a.is_open) (λ a. tt)) refl (λ a e. absurd e)

pub fit_for_more : (t : Lexeme) → FitsAs (ForMore t)
unfolding forms
fit_for_more t = fit_part tabled (ForMore t)
    (token s.OpenParen refl (λ p. text refl (λ h. text refl (λ a. done _) (λ a. refl) (λ a. same_set (behind_statement a.is_open))) (λ h. refl) (λ h. tt))) refl (λ a e. absurd e)

abbrev start_first : Beginning → Sort → Bool
start_first (beginning.Declared d y) x = is s.Semicolon x
start_first (beginning.Expression e) x = among (s.Comma ∷ s.Semicolon ∷ []) x

start_fits : (b : Beginning) → Fits tabled ForHeadOf true (start_first b) never (for_start b)
start_fits (beginning.Declared d y) = token s.Semicolon refl (λ z. text refl (λ a. done _) (λ a. refl) (λ a. refl))
start_fits (beginning.Expression e) = widen tabled (text refl (λ a. done _) (λ a. refl) (λ a. refl)) refl (λ a i. i)

start_follows : (b : Beginning) → is_within finite (start_first b) (behind_beginning b) ≡ true
start_follows (beginning.Declared d y) = refl
start_follows (beginning.Expression e) = refl

pub fit_for_head : FitsAs ForHeadOf
unfolding forms
fit_for_head = fit_part tabled ForHeadOf
    (where_fits s.Semicolon refl (λ z. text refl (λ a. done _) (λ a. refl) (λ a. refl))
    (where_fits s.Yield refl
    (λ t. text refl (λ a. text refl (λ x. onward_then _ (among (s.Comma ∷ s.Semicolon ∷ [])) x.value x.last (λ e. widen tabled (text refl (λ a. done _) (λ a. refl) (λ a. refl)) refl (λ a i. i)) refl) (λ x. list_follows x.last) (λ x. tt)) (λ a. refl) (λ a. tt))
    (text refl (λ b. start_fits b) (λ b. start_follows b) (λ b. tt)) refl tt) refl tt) refl (λ a e. absurd e)

pub fit_for_exprs : (xs : List Expr) → FitsAs (ForExprs xs)
unfolding forms
fit_for_exprs xs = fit_part tabled (ForExprs xs)
    (where_fits s.Comma refl (λ t. text refl (λ e. text refl (λ a. done _) (λ a. refl) (λ a. refl)) (λ e. refl) (λ e. tt)) (token s.Semicolon refl (λ z. text refl (λ a. done _) (λ a. refl) (λ a. refl))) refl tt) refl (λ a e. absurd e)

pub fit_for_test : (b : ForStart) → FitsAs (ForTest b)
unfolding forms
fit_for_test b = fit_part tabled (ForTest b)
    (where_fits s.Semicolon refl (λ z. text refl (λ a. done _) (λ a. refl) (λ a. refl)) (text refl (λ c. token s.Semicolon refl (λ z. text refl (λ a. done _) (λ a. refl) (λ a. refl))) (λ c. refl) (λ c. tt)) refl tt) refl (λ a e. absurd e)

pub fit_for_steps : (b : ForStart) (c : Option Expr) → FitsAs (ForSteps b c)
unfolding forms
fit_for_steps b c = fit_part tabled (ForSteps b c)
    (where_fits s.CloseParen refl (λ q. done _) (text refl (λ e. text refl (λ a. done _) (λ a. refl) (λ a. refl)) (λ e. refl) (λ e. tt)) refl tt) refl (λ a e. absurd e)

pub fit_more_steps : (b : ForStart) (c : Option Expr) (xs : List Expr) → FitsAs (MoreSteps b c xs)
unfolding forms
fit_more_steps b c xs = fit_part tabled (MoreSteps b c xs)
    (where_fits s.Comma refl (λ t. text refl (λ e. text refl (λ a. done _) (λ a. refl) (λ a. refl)) (λ e. refl) (λ e. tt)) (token s.CloseParen refl (λ q. done _)) refl tt) refl (λ a e. absurd e)

pub fit_foreach_more : (t : Lexeme) → FitsAs (ForeachMore t)
unfolding forms
fit_foreach_more t = fit_part tabled (ForeachMore t)
    (token s.OpenParen refl (λ p. where_fits s.Var refl (λ v. token s.Identifier refl (λ x. token s.In refl (λ w. text refl (λ e. token s.CloseParen refl (λ q. text refl (λ a. done _) (λ a. refl) (λ a. same_set (behind_statement a.is_open)))) (λ e. refl) (λ e. tt)))) (text refl (λ y. barred (token s.Identifier refl (λ x. token s.In refl (λ w. text refl (λ e. token s.CloseParen refl (λ q. text refl (λ a. done _) (λ a. refl) (λ a. same_set (behind_statement a.is_open)))) (λ e. refl) (λ e. tt)))) refl tt) (λ y. refl) (λ y. tt)) refl tt)) refl (λ a e. absurd e)

-- ---- `switch` and `try`

pub fit_switch_more : (t : Lexeme) → FitsAs (SwitchMore t)
unfolding forms
fit_switch_more t = fit_part tabled (SwitchMore t)
    (token s.OpenParen refl (λ p. text refl (λ e. token s.CloseParen refl (λ q. token s.OpenBrace refl (λ o. where_fits s.CloseBrace refl (λ c. done _) (text refl (λ x. text refl (λ a. done _) (λ a. refl) (λ a. refl)) (λ x. refl) (λ x. tt)) refl tt))) (λ e. refl) (λ e. tt))) refl (λ a e. absurd e)

pub fit_label : FitsAs AnyLabel
unfolding forms
fit_label = fit_part tabled AnyLabel
    (where_fits s.Case refl (λ t. text refl (λ e. token s.Colon refl (λ c. done _)) (λ e. refl) (λ e. tt)) (token s.Default refl (λ t. token s.Colon refl (λ c. done _))) refl tt) refl (λ a e. absurd e)

abbrev sections_first : Sort → Bool
sections_first x = is s.CloseBrace x || (is_label x || begins_statement x)

label_fits : (t : Lexeme) (e : Expr) (parts : List Section) (x : Label) (xs : List Label) (ss : List Stmt) (y : Label) → Fits tabled (Sections t e parts x xs ss) true sections_first never (label_behind t e parts x xs ss y)
label_fits t e parts x xs [] y = widen tabled (text refl (λ a. done _) (λ a. refl) (λ a. refl)) refl (λ a i. i)
label_fits t e parts x xs (z ∷ ss) y = widen tabled (text refl (λ a. done _) (λ a. refl) (λ a. refl)) refl (λ a i. i)

pub fit_sections : (t : Lexeme) (e : Expr) (parts : List Section) (x : Label) (xs : List Label) (ss : List Stmt) → FitsAs (Sections t e parts x xs ss)
unfolding forms
fit_sections t e parts x xs ss = fit_part tabled (Sections t e parts x xs ss)
    (where_fits s.CloseBrace refl (λ c. done _) (choice (text refl (λ y. label_fits t e parts x xs ss y) (λ y. refl) (λ y. tt)) (text refl (λ z. text refl (λ a. done _) (λ a. refl) (λ a. refl)) (λ z. sections_follow z.is_open) (λ z. tt)) refl tt) refl tt) refl (λ a e. absurd e)

pub fit_try_more : (t : Lexeme) (b : Block) (xs : List Catch) → FitsAs (TryMore t b xs)
unfolding forms
fit_try_more t b xs = fit_part tabled (TryMore t b xs)
    (choice (text refl (λ c. text refl (λ a. done _) (λ a. refl) (λ a. refl)) (λ c. refl) (λ c. refl)) (where_fits s.Finally refl (λ w. text refl (λ a. done _) (λ a. refl) (λ a. refl)) (done _) refl refl) refl refl) refl (λ a e. e)

pub fit_catch : FitsAs CatchOf
unfolding forms
fit_catch = fit_part tabled CatchOf
    (token s.Catch refl (λ t. where_fits s.OpenParen refl (λ p. text refl (λ y. barred (token s.Identifier refl (λ x. token s.CloseParen refl (λ q. text refl (λ a. done _) (λ a. refl) (λ a. refl)))) refl tt) (λ y. refl) (λ y. tt)) (text refl (λ a. done _) (λ a. refl) (λ a. refl)) refl tt)) refl (λ a e. absurd e)

-- ---- declarations

written_fits : (y : TypeTree) → Fits tabled Begin true (λ x. is s.Identifier x || is_type_sign x) never (written y)
written_fits y = widen tabled (barred (text refl (λ b. done b) (λ b. refl) (λ b. same_set (behind_beginning b))) refl tt) refl (λ a i. i)

abbrev begins_first : Opening → Sort → Bool
begins_first (opening.Type y) x = is s.Identifier x || is_type_sign x
begins_first (opening.Names n) x = is s.Identifier x
begins_first (opening.Value e) x = false

abbrev begins_none : Opening → Nones Beginning
begins_none (opening.Type y) = never
begins_none (opening.Names n) = only (beginning.Expression (tree.names n))
begins_none (opening.Value e) = only (beginning.Expression e)

begins_fits : (r : Opening) → Fits tabled Begin true (begins_first r) (begins_none r) (begins r)
begins_fits (opening.Type y) = written_fits y
begins_fits (opening.Names n) = widen tabled (choice (text refl (λ b. done b) (λ b. refl) (λ b. same_set (behind_beginning b))) (done _) refl refl) refl (λ a i. i)
begins_fits (opening.Value e) = done _

begins_follows : (r : Opening) → is_within finite (begins_first r) (behind_opening context.Statement r) ≡ true
begins_follows (opening.Type y) = refl
begins_follows (opening.Names n) = refl
begins_follows (opening.Value e) = refl

begins_ends : (r : Opening) → Each (begins_none r) (λ a. is_within finite (behind_beginning a) (behind_opening context.Statement r) ≡ true)
begins_ends (opening.Type y) = tt
begins_ends (opening.Names n) = refl
begins_ends (opening.Value e) = refl

pub fit_begin : FitsAs Begin
unfolding forms
fit_begin = fit_part tabled Begin
    (where_fits s.Var refl (λ t. text refl (λ b. done b) (λ b. refl) (λ b. same_set (behind_beginning b)))
    (where_fits s.Owned refl (λ o. text refl (λ y. written_fits y) (λ y. refl) (λ y. tt))
    (where_fits s.Void refl (λ t. written_fits (tree.void_type None t))
    (choice (text refl (λ r. begins_fits r) (λ r. begins_follows r) (λ r. begins_ends r)) (barred (text refl (λ a. done _) (λ a. refl) (λ a. refl)) refl tt) refl tt) refl tt) refl tt) refl tt) refl (λ a e. absurd e)

pub fit_locals : (y : TypeAt) → FitsAs (Locals y)
unfolding forms
fit_locals y = fit_part tabled (Locals y)
    (text refl (λ d. text refl (λ b. done b) (λ b. refl) (λ b. same_set (behind_beginning b))) (λ d. refl) (λ d. refl)) refl (λ a e. absurd e)

pub fit_more_locals : (y : TypeAt) (ds : List Declarator) → FitsAs (MoreLocals y ds)
unfolding forms
fit_more_locals y ds = fit_part tabled (MoreLocals y ds)
    (where_fits s.Comma refl (λ t. text refl (λ d. text refl (λ b. done b) (λ b. refl) (λ b. same_set (behind_beginning b))) (λ d. refl) (λ d. refl)) (done _) refl refl) refl (λ a e. e)

pub fit_one_local : FitsAs OneLocal
unfolding forms
fit_one_local = fit_part tabled OneLocal
    (token s.Identifier refl (λ t. where_fits s.Assign refl (λ a. text refl (λ e. done _) (λ e. refl) (λ e. refl)) (done _) refl refl)) refl (λ a e. absurd e)
