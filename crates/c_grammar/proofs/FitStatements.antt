-- Declarations, statements and blocks suit the tables.
use Rattle.std.proofs.Common.{Bool, true, false, ◌||◌, refl, [], ◌∷◌, Option, Some, None, List}
use Rattle.predictive_grammar.proofs.Fits.{never, maybe, nothing}
use Rattle.c_lexer.specs.declared.token.Keyword.TheVariants as keyword
use Rattle.c_lexer.specs.declared.token.Sign.TheVariants as sign
use Rattle.c_tree.specs.declared.code.Expr.{Expr}
use Rattle.c_tree.specs.declared.code.Local.{Local}
use Rattle.c_tree.specs.declared.code.Suffix.{Suffix}
use Rattle.c_tree.specs.declared.code.Stmt.{Stmt}
use Rattle.c_tree.specs.declared.code.Stmt.TheVariants as stmt
use Rattle.c_tree.specs.declared.code.Block.{Block}
use Rattle.c_tree.specs.Words.{Token, join}
use Rattle.c_tree.specs.Words as words
use Rattle.c_tree.specs.Names.{Names, Role, TypeName, RowName, VariableName, FunctionName, MemberName, Unknown, role_of, with_local}
use Rattle.c_tree.specs.Types.{can_be_type}
use Rattle.c_tree.specs.Make.{name_at, suffixed, conditional, block}
use Rattle.c_tree.specs.Values.{is_place}
use Rattle.c_grammar.specs.Sorts.{Name, Number}
use Rattle.c_grammar.specs.Tests.{Set, is, sign_is, word_is, name_with, is_base, begins_type, is_prefix, is_callee_role, begins_unnamed, begins_key_type, is_key_base, goes_on_type, goes_on_local, begins_plain, begins_statement, begins_body, goes_on_statement}
use Rattle.c_grammar.specs.Trees.{type_of, no_stars, name_value, signed, local, value_call, row_call, call_stmt, one_case}
use Rattle.c_grammar.specs.Parts.{What, tree_of, KeyType, LocalOf, LocalRest, SignedNumberOf, GotoOf, Cases, BlockOf, Body, Statements, Statement, PlainStmt, NamedStmt, ValueStmt, Assigned, AssignedTail, ElseOf, Suffixes}
use Rattle.c_grammar.specs.Grammar.{here, just, form, body_behind, statements_behind, body_named, call_behind, row_behind, label_behind, label_or, called_or_value, named_behind, stored_behind, value_behind, assigned_named}
use Rattle.c_grammar.specs.Tables.{goes_on_value, goes_on_choice}
use Rattle.c_grammar.proofs.Samples.{a_sign, a_word, a_number, a_name, an_unknown, by_unknown}
use Rattle.c_grammar.proofs.Fitting.{Suits, Suited, suited, done, token, text, text_under, choice, where_fits, widen}
use Rattle.c_grammar.proofs.FitTypes.{fit_rest}

-- 1. Declarations

pub fit_key_type : (ns : Names) → Suited ns KeyType
unfolding form
fit_key_type ns = suited ns KeyType
    (where_fits ns (word_is keyword.Const) (a_word keyword.Const) refl (λ t. text ns refl (λ u. token ns (is_base true) (a_word keyword.Void) refl (λ b. fit_rest ns (λ c. c) (t ∷ u) b _ refl)) (λ u. refl) (λ u. tt))
    (token ns is_key_base (a_word keyword.Void) refl (λ t. fit_rest ns (λ c. c) [] t _ refl)) refl tt) refl (λ a e. e) refl

pub fit_local_of : (ns : Names) → Suited ns LocalOf
unfolding form
fit_local_of ns = suited ns LocalOf
    (text ns refl (λ c. token ns (is Name) a_name refl (λ n. token ns (sign_is sign.Semicolon) (a_sign sign.Semicolon) refl (λ e. done ns (local c n)))) (λ c. refl) (λ c. tt)) refl (λ a e. e) refl

pub fit_local_rest : (ns : Names) (t : Token) → Suited ns (LocalRest t)
unfolding form
fit_local_rest ns t = suited ns (LocalRest t)
    (choice ns goes_on_type
    (text ns refl (λ c. token ns (is Name) a_name refl (λ n. token ns (sign_is sign.Semicolon) (a_sign sign.Semicolon) refl (λ e. done ns (local c n)))) (λ c. refl) (λ c. tt))
    (token ns (is Name) a_name refl (λ n. token ns (sign_is sign.Semicolon) (a_sign sign.Semicolon) refl (λ e. done ns (local (type_of [] t [] no_stars) n))))
    refl refl refl tt) refl (λ a e. e) refl

-- 2. Numbers, `goto` and cases

pub fit_signed_number : (ns : Names) → Suited ns SignedNumberOf
unfolding form
fit_signed_number ns = suited ns SignedNumberOf
    (where_fits ns (sign_is sign.Minus) (a_sign sign.Minus) refl (λ m. token ns (is Number) a_number refl (λ t. done ns (signed true t))) (token ns (is Number) a_number refl (λ t. done ns (signed false t))) refl tt) refl (λ a e. e) refl

pub fit_goto : (ns : Names) → Suited ns GotoOf
unfolding form
fit_goto ns = suited ns GotoOf
    (token ns (word_is keyword.Goto) (a_word keyword.Goto) refl (λ t. token ns (is Name) a_name refl (λ n. token ns (sign_is sign.Semicolon) (a_sign sign.Semicolon) refl (λ e. done ns n)))) refl (λ a e. e) refl

pub fit_cases : (ns : Names) → Suited ns Cases
unfolding form
fit_cases ns = suited ns Cases
    (where_fits ns (word_is keyword.Case) (a_word keyword.Case) refl
    (λ t. text ns refl (λ x. token ns (sign_is sign.Colon) (a_sign sign.Colon) refl (λ c. text ns refl (λ n. text ns refl (λ r. done ns (one_case x n ∷ r.0, r.1)) (λ r. refl) (λ r. refl)) (λ n. refl) (λ n. tt))) (λ x. refl) (λ x. tt))
    (token ns (word_is keyword.Default) (a_word keyword.Default) refl (λ d. token ns (sign_is sign.Colon) (a_sign sign.Colon) refl (λ c. text ns refl (λ n. done ns ([], n)) (λ n. refl) (λ n. refl)))) refl tt) refl (λ a e. e) refl

-- 3. Blocks

pub fit_block : (ns : Names) → Suited ns BlockOf
unfolding form
fit_block ns = suited ns BlockOf
    (token ns (sign_is sign.OpenBrace) (a_sign sign.OpenBrace) refl (λ t. text ns refl (λ r. token ns (sign_is sign.CloseBrace) (a_sign sign.CloseBrace) refl (λ s. done ns (block r.0 r.1 (join (words.at t) (words.at s))))) (λ r. refl) (λ r. tt)))
    refl (λ a e. e) refl

fit_body_behind : (ns : Names) (l : Local) → Suits ns Body true begins_body maybe nothing (body_behind ns l)
fit_body_behind ns l = widen ns (text_under ns (with_local ns l) (record { first = λ x. refl; stop = λ x. refl; opens = λ x. refl }) refl (λ r. done ns (l ∷ r.0, r.1)) (λ r. refl) (λ r. refl)) refl (λ a e. tt) refl

fit_statements_behind : (ns : Names) (s : Stmt) → Suits ns Body true begins_statement maybe nothing (statements_behind ns s)
fit_statements_behind ns s = widen ns (text ns refl (λ ss. done ns ([], s ∷ ss)) (λ ss. refl) (λ ss. refl)) refl (λ a e. tt) refl

-- what follows a name that a declaration or a statement begins with
abbrev goes_on_named : Set
goes_on_named c = goes_on_local c || sign_is sign.Colon c || goes_on_statement c

fit_body_named : (ns : Names) (t : Token) (b : Bool) → Suits ns Body true goes_on_named never nothing (body_named ns t b)
fit_body_named ns t true = widen ns
    (choice ns goes_on_local (text ns refl (λ l. fit_body_behind ns l) (λ l. refl) (λ l a. refl)) (text ns refl (λ s. fit_statements_behind ns s) (λ s. refl) (λ s a. refl)) refl refl refl tt) refl (λ a e. e) refl
fit_body_named ns t false = widen ns (text ns refl (λ s. fit_statements_behind ns s) (λ s. refl) (λ s a. refl)) refl (λ a e. e) refl

pub fit_body : (ns : Names) → Suited ns Body
unfolding form
fit_body ns = suited ns Body
    (choice ns begins_key_type
    (text ns refl (λ c. token ns (is Name) a_name refl (λ n. token ns (sign_is sign.Semicolon) (a_sign sign.Semicolon) refl (λ e. fit_body_behind ns (local c n)))) (λ c. refl) (λ c. tt))
    (where_fits ns (is Name) a_name refl (λ t. fit_body_named ns t (can_be_type true (role_of ns t.bytes)))
    (choice ns begins_plain (text ns refl (λ s. fit_statements_behind ns s) (λ s. refl) (λ s a. refl)) (done ns ([], [])) refl refl refl refl) refl refl) refl refl refl refl) refl (λ a e. e) refl

pub fit_statements : (ns : Names) → Suited ns Statements
unfolding form
fit_statements ns = suited ns Statements
    (choice ns begins_statement (text ns refl (λ s. text ns refl (λ ss. done ns (s ∷ ss)) (λ ss. refl) (λ ss. refl)) (λ s. refl) (λ s. refl)) (done ns []) refl refl refl refl) refl (λ a e. e) refl

-- 4. Statements

pub fit_statement : (ns : Names) → Suited ns Statement
unfolding form
fit_statement ns = suited ns Statement
    (where_fits ns (is Name) a_name refl (λ t. text ns refl (λ s. done ns s) (λ s. refl) (λ s. refl)) (text ns refl (λ s. done ns s) (λ s. refl) (λ s. refl)) refl tt) refl (λ a e. e) refl

pub fit_else : (ns : Names) (a : Expr) (b : Block) → Suited ns (ElseOf a b)
unfolding form
fit_else ns a b = suited ns (ElseOf a b)
    (where_fits ns (word_is keyword.Else) (a_word keyword.Else) refl (λ l. text ns refl (λ d. done ns (stmt.If a b (Some d))) (λ d. refl) (λ d. refl)) (done ns (stmt.If a b None)) refl refl) refl (λ c e. e) refl

pub fit_plain : (ns : Names) → Suited ns PlainStmt
unfolding form
fit_plain ns = suited ns PlainStmt
    (where_fits ns (sign_is sign.Star) (a_sign sign.Star) refl (λ t. text ns refl
    (λ r. token ns (sign_is sign.Assign) (a_sign sign.Assign) refl (λ e. text ns refl (λ s. done ns s) (λ s. refl) (λ s. refl))) (λ r. refl) (λ r. tt))
    (where_fits ns (sign_is sign.OpenParen) (a_sign sign.OpenParen) refl (λ t. text ns refl
    (λ a. token ns (sign_is sign.CloseParen) (a_sign sign.CloseParen) refl (λ s. text ns refl (λ s. done ns s) (λ s. refl) (λ s. refl))) (λ a. refl) (λ a. tt))
    (choice ns begins_unnamed (text ns refl (λ a. text ns refl (λ s. done ns s) (λ s. refl) (λ s. refl)) (λ a. refl) (λ a. tt))
    (choice ns (sign_is sign.OpenBrace) (text ns refl (λ b. done ns (stmt.Block b)) (λ b. refl) (λ b. refl))
    (where_fits ns (word_is keyword.If) (a_word keyword.If) refl
    (λ i. token ns (sign_is sign.OpenParen) (a_sign sign.OpenParen) refl (λ t. text ns refl (λ a. token ns (sign_is sign.CloseParen) (a_sign sign.CloseParen) refl (λ s.
    choice ns (word_is keyword.Goto) (text ns refl (λ n. done ns (stmt.IfGoto a (name_at n))) (λ n. refl) (λ n. refl))
    (text ns refl (λ b. text ns refl (λ s. done ns s) (λ s. refl) (λ s. refl)) (λ b. refl) (λ b. refl)) refl refl refl tt)) (λ a. refl) (λ a. tt)))
    (choice ns (word_is keyword.Goto) (text ns refl (λ n. done ns (stmt.Goto (name_at n))) (λ n. refl) (λ n. refl))
    (where_fits ns (word_is keyword.Switch) (a_word keyword.Switch) refl
    (λ i. token ns (sign_is sign.OpenParen) (a_sign sign.OpenParen) refl (λ t. text ns refl (λ a. token ns (sign_is sign.CloseParen) (a_sign sign.CloseParen) refl (λ s.
    token ns (sign_is sign.OpenBrace) (a_sign sign.OpenBrace) refl (λ l. text ns refl (λ r. token ns (sign_is sign.CloseBrace) (a_sign sign.CloseBrace) refl
    (λ s. done ns (stmt.Switch a r.0 (name_at r.1)))) (λ r. refl) (λ r. tt)))) (λ a. refl) (λ a. tt)))
    (token ns (word_is keyword.Return) (a_word keyword.Return) refl (λ t.
    where_fits ns (sign_is sign.Semicolon) (a_sign sign.Semicolon) refl (λ e. done ns (stmt.Return (words.at t) None))
    (text ns refl (λ a. token ns (sign_is sign.Semicolon) (a_sign sign.Semicolon) refl (λ e. done ns (stmt.Return (words.at t) (Some a)))) (λ a. refl) (λ a. tt)) refl tt))
    refl tt) refl refl refl tt) refl tt) refl refl refl tt) refl refl refl tt) refl tt) refl tt) refl (λ a e. e) refl

-- the brackets of a call, and `;`
fit_call : (ns : Names) {w : What} (o : Option Expr) (a : Expr) (f : Stmt → tree_of w) {moved : Bool} → Suits ns w moved (sign_is sign.OpenParen) never (sign_is sign.OpenParen) (call_behind ns o a f)
fit_call ns o a f = token ns (sign_is sign.OpenParen) (a_sign sign.OpenParen) refl (λ t. text ns refl (λ xs. token ns (sign_is sign.CloseParen) (a_sign sign.CloseParen) refl
    (λ s. token ns (sign_is sign.Semicolon) (a_sign sign.Semicolon) refl (λ e. done ns (f (call_stmt o (value_call a xs s)))))) (λ xs. refl) (λ xs. tt))

fit_row : (ns : Names) {w : What} (o : Option Expr) (n : Token) (takes_type : Bool) (f : Stmt → tree_of w) {moved : Bool} → Suits ns w moved (sign_is sign.OpenParen) never (sign_is sign.OpenParen) (row_behind ns o n takes_type f)
fit_row ns o n false f = token ns (sign_is sign.OpenParen) (a_sign sign.OpenParen) refl (λ t. text ns refl (λ xs. token ns (sign_is sign.CloseParen) (a_sign sign.CloseParen) refl
    (λ s. token ns (sign_is sign.Semicolon) (a_sign sign.Semicolon) refl (λ e. done ns (f (call_stmt o (row_call n None xs s)))))) (λ xs. refl) (λ xs. tt))
fit_row ns o n true f = token ns (sign_is sign.OpenParen) (a_sign sign.OpenParen) refl (λ t. text ns refl (λ c. text ns refl (λ xs. token ns (sign_is sign.CloseParen) (a_sign sign.CloseParen) refl
    (λ s. token ns (sign_is sign.Semicolon) (a_sign sign.Semicolon) refl (λ e. done ns (f (call_stmt o (row_call n (Some c) xs s)))))) (λ xs. refl) (λ xs. tt)) (λ c. refl) (λ c. tt))

fit_label : (ns : Names) (t : Token) {moved : Bool} → Suits ns (NamedStmt t) moved (sign_is sign.Colon) never (sign_is sign.Colon) (label_behind ns t)
fit_label ns t = token ns (sign_is sign.Colon) (a_sign sign.Colon) refl (λ c. token ns (sign_is sign.Semicolon) (a_sign sign.Semicolon) refl (λ e. done ns (stmt.Label (name_at t))))

-- what follows a name that a statement begins with
abbrev goes_on_name : Set
goes_on_name c = sign_is sign.Colon c || goes_on_statement c

fit_named_value : (ns : Names) (t : Token) → Suits ns (NamedStmt t) false goes_on_name never nothing (label_or ns t (just ns (ValueStmt (name_value ns t)) (λ s. s)))
fit_named_value ns t = widen ns (choice ns (sign_is sign.Colon) (fit_label ns t) (text ns refl (λ s. done ns s) (λ s. refl) (λ s. refl)) refl refl refl tt) refl (λ a e. e) refl

fit_named_behind : (ns : Names) (t : Token) (r : Role) → Suits ns (NamedStmt t) false goes_on_name never nothing (named_behind ns t r)
fit_named_behind ns t (TypeName m) = widen ns (fit_label ns t) refl (λ a e. e) refl
fit_named_behind ns t (RowName takes_type) = widen ns (choice ns (sign_is sign.Colon) (fit_label ns t) (fit_row ns None t takes_type (λ s. s)) refl refl refl tt) refl (λ a e. e) refl
fit_named_behind ns t VariableName = fit_named_value ns t
fit_named_behind ns t FunctionName = fit_named_value ns t
fit_named_behind ns t MemberName = fit_named_value ns t
fit_named_behind ns t Unknown = fit_named_value ns t

pub fit_named : (ns : Names) (t : Token) → Suited ns (NamedStmt t)
unfolding form
fit_named ns t = suited ns (NamedStmt t) (fit_named_behind ns t (role_of ns t.bytes)) refl (λ a e. e) refl

-- what follows an operand and its suffixes
abbrev stores : Set
stores c = sign_is sign.Assign c || sign_is sign.OpenParen c

fit_stored : (ns : Names) (v : Expr) (b : Bool) (a : Expr) → Suits ns (ValueStmt v) false stores never nothing (stored_behind ns b a (λ s. s))
fit_stored ns v true a = widen ns (where_fits ns (sign_is sign.Assign) (a_sign sign.Assign) refl (λ t. text ns refl (λ s. done ns s) (λ s. refl) (λ s. refl)) (fit_call ns None a (λ s. s)) refl tt) refl (λ a e. e) refl
fit_stored ns v false a = widen ns (fit_call ns None a (λ s. s)) refl (λ a e. e) refl

fit_value_behind : (ns : Names) (a : Expr) (dot : Bool) → Suits ns (ValueStmt a) false goes_on_statement never nothing (here ns (Suffixes dot false) (λ xs. stored_behind ns (is_place (suffixed a xs)) (suffixed a xs) (λ s. s)))
fit_value_behind ns a true = widen ns (text ns refl (λ xs. fit_stored ns a _ (suffixed a xs)) (λ xs. refl) (λ xs. tt)) refl (λ b e. e) refl
fit_value_behind ns a false = widen ns (text ns refl (λ xs. fit_stored ns a _ (suffixed a xs)) (λ xs. refl) (λ xs. tt)) refl (λ b e. e) refl

pub fit_value_stmt : (ns : Names) (a : Expr) → Suited ns (ValueStmt a)
unfolding form
fit_value_stmt ns a = suited ns (ValueStmt a) (fit_value_behind ns a (is_place a)) refl (λ b e. e) refl

-- 5. What is stored

-- what goes on with what is stored
abbrev goes_on_stored : Set
goes_on_stored c = goes_on_choice c || sign_is sign.Semicolon c

-- the same, or is a call
abbrev goes_on_operand : Set
goes_on_operand c = goes_on_stored c || sign_is sign.OpenParen c

-- the same, or suffixes
abbrev goes_on_called : Set
goes_on_called c = goes_on_value c || sign_is sign.OpenParen c || sign_is sign.Semicolon c

-- the rest of a value, and `;`
fit_value_end : (ns : Names) (b a : Expr) → Suits ns (Assigned b) true goes_on_stored never nothing (value_behind ns a)
fit_value_end ns b a = widen ns (text ns refl (λ r. token ns (sign_is sign.Semicolon) (a_sign sign.Semicolon) refl (λ e. done ns (stmt.Assign b (conditional r.0 r.1)))) (λ r. refl) (λ r. tt)) refl (λ c e. e) refl

fit_called : (ns : Names) (b a : Expr) (xs : List Suffix) → Suits ns (AssignedTail b a) false goes_on_operand never nothing (called_or_value ns b a xs)
fit_called ns b a xs = widen ns
    (choice ns (sign_is sign.OpenParen) (fit_call ns (Some b) (suffixed a xs) (λ s. s))
    (text ns refl (λ r. token ns (sign_is sign.Semicolon) (a_sign sign.Semicolon) refl (λ e. done ns (stmt.Assign b (conditional r.0 r.1)))) (λ r. refl) (λ r. tt)) refl refl refl tt) refl (λ c e. e) refl

fit_tail_behind : (ns : Names) (b a : Expr) (dot : Bool) → Suits ns (AssignedTail b a) false goes_on_called never nothing (here ns (Suffixes dot false) (λ xs. called_or_value ns b a xs))
fit_tail_behind ns b a true = widen ns (text ns refl (λ xs. fit_called ns b a xs) (λ xs. refl) (λ xs. tt)) refl (λ c e. e) refl
fit_tail_behind ns b a false = widen ns (text ns refl (λ xs. fit_called ns b a xs) (λ xs. refl) (λ xs. tt)) refl (λ c e. e) refl

pub fit_assigned_tail : (ns : Names) (b a : Expr) → Suited ns (AssignedTail b a)
unfolding form
fit_assigned_tail ns b a = suited ns (AssignedTail b a) (fit_tail_behind ns b a (is_place a)) refl (λ c e. e) refl

fit_assigned_value : (ns : Names) (b : Expr) (t : Token) → Suits ns (Assigned b) true goes_on_called never nothing (just ns (AssignedTail b (name_value ns t)) (λ s. s))
fit_assigned_value ns b t = widen ns (text ns refl (λ s. done ns s) (λ s. refl) (λ s. refl)) refl (λ a e. e) refl

fit_assigned_named : (ns : Names) (b : Expr) (t : Token) (r : Role) → Suits ns (Assigned b) true goes_on_called never nothing (assigned_named ns t r)
fit_assigned_named ns b t (RowName takes_type) = widen ns (fit_row ns (Some b) t takes_type (λ s. s)) refl (λ a e. e) refl
fit_assigned_named ns b t (TypeName m) = fit_assigned_value ns b t
fit_assigned_named ns b t VariableName = fit_assigned_value ns b t
fit_assigned_named ns b t FunctionName = fit_assigned_value ns b t
fit_assigned_named ns b t MemberName = fit_assigned_value ns b t
fit_assigned_named ns b t Unknown = fit_assigned_value ns b t

pub fit_assigned : (ns : Names) (b : Expr) → Suited ns (Assigned b)
unfolding form
fit_assigned ns b = suited ns (Assigned b)
    (where_fits ns (name_with is_callee_role) (an_unknown ns) (by_unknown ns (name_with is_callee_role) refl) (λ t. fit_assigned_named ns b t (role_of ns t.bytes))
    (where_fits ns (is_prefix false) (a_sign sign.Plus) refl (λ t. text ns refl (λ r. fit_value_end ns b _) (λ r. refl) (λ r. tt))
    (where_fits ns (sign_is sign.Ampersand) (a_sign sign.Ampersand) refl (λ t. text ns refl (λ r. fit_value_end ns b _) (λ r. refl) (λ r. tt))
    (where_fits ns (sign_is sign.OpenParen) (a_sign sign.OpenParen) refl (λ t. choice ns (begins_type false)
    (text ns refl (λ y. token ns (sign_is sign.CloseParen) (a_sign sign.CloseParen) refl (λ s. text ns refl (λ r. fit_value_end ns b _) (λ r. refl) (λ r. tt))) (λ y. refl) (λ y. tt))
    (text ns refl (λ a. token ns (sign_is sign.CloseParen) (a_sign sign.CloseParen) refl (λ s. text ns refl (λ s. done ns s) (λ s. refl) (λ s. refl))) (λ a. refl) (λ a. tt)) refl refl refl tt)
    (text ns refl (λ a. text ns refl (λ s. done ns s) (λ s. refl) (λ s. refl)) (λ a. refl) (λ a. tt)) refl tt) refl tt) refl tt) refl tt) refl (λ a e. e) refl
