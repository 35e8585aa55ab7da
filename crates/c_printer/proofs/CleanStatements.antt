-- Declarations, calls and statements that are read keep the rules exactly where they do without places.
use Rattle.std.proofs.Common.{◌≡◌, ◌∙◌, refl, sym, ap, ap₂, subst, ℕ, suc, Bool, true, false, cond, ◌&&◌, ◌==◌, List, [], ◌∷◌, ◌++◌, map, length, Option, Some, None}
use Rattle.c_tree.specs.declared.names.Name.{Name}
use Rattle.c_tree.specs.declared.names.Span.{Span}
use Rattle.c_tree.specs.declared.code.Expr.{Expr}
use Rattle.c_tree.specs.declared.code.Local.{Local}
use Rattle.c_tree.specs.declared.code.Call.{Call}
use Rattle.c_tree.specs.declared.code.Case.{Case}
use Rattle.c_tree.specs.declared.code.Stmt.{Stmt}
use Rattle.c_tree.specs.declared.code.Stmt.TheOpen.{Stmt-F}
use Rattle.c_tree.specs.declared.code.Stmt.TheFolds.{fold-Stmt, fold-roll-Stmt, fold_out-Block, map-Stmt}
use Rattle.c_tree.specs.declared.code.Block.{Block}
use Rattle.c_tree.specs.declared.kinds.Kind.{Kind}
use Rattle.c_tree.specs.declared.kinds.Sort.{Sort}
use Rattle.c_tree.specs.declared.kinds.Sort.TheVariants as sort
use Rattle.c_tree.specs.declared.kinds.Cause.TheVariants.{Misfit}
use Rattle.c_tree.specs.declared.kinds.Fault.{Fault}
use Rattle.c_tree.specs.Words.{Word, at, join}
use Rattle.c_tree.specs.Names.{Names}
use Rattle.c_tree.specs.Make.{name_at, block, span_of}
use Rattle.c_tree.specs.Kinds.{is_void, is_scalar, is_integer, is_argument, is_pointer_or_function, fits}
use Rattle.c_tree.specs.Library.{Takes, Row, RowParameter, Number, Pointer, Exactly, Any, Pairs}
use Rattle.c_tree.specs.Env.{Env, found, found_in, innermost, declare, opened, kind_of}
use Rattle.c_tree.specs.Faults.{misfit, twice, unless, behind_first}
use Rattle.c_tree.specs.Checks.{Known, checked, is_null, is_null_literal, type_faults, undeclared_if}
use Rattle.c_tree.specs.Rules.{Called, Context, Body, fit, fit_by, class_by, must_be, same_literal, takes_count, any_faults, pair_faults, argument_faults, fit_all, all_checked, own_faults, called_if, row_call, unit_call, value_call, signature_of, row_number, with_faults, call, laid_out_if, twice_if, twice_here, not_laid_out, with_local, local_faults, locals_faults, with_locals, condition, case_targets, return_by, return_empty, result_fit, check_stmt, check_block, all_faults, all_labels, all_targets, checked_block, inner}
use Rattle.c_tree.specs.Statements as st
use Rattle.c_tree.specs.Statements.{ReadsStmt, ReadsStmts, ReadsBlock, ReadsCall, call_value, call_row, call_type_row, ReadsPlace, place_is}
use Rattle.c_tree.specs.Bare.{nowhere, bare_name, bare_type, bare_expr, bare_local, bare_call, bare_case, bare_stmt, bare_block}
use Rattle.c_printer.proofs.CleanValues.{clean, both_clean, CheckedLike, kind_bare, type_clean, undeclared_clean}
use Rattle.c_printer.proofs.CleanReading.{Like, AllLike, value_like, callee_like, operand_like, arguments_like, more_like}
use Rattle.c_printer.proofs.StatementReading.{bare_of_stmt, stmt_bare_layer, stmt_at, stmt_rolls_at, stmt_bare, block_bare}

-- 1. Faults that hang on a test

pub unless_clean : (b : Bool) (f g : Fault) → clean (unless b (f ∷ [])) ≡ clean (unless b (g ∷ []))
unless_clean true f g = refl
unless_clean false f g = refl

pub behind_clean : (n : ℕ) (fs : List Fault) → clean (behind_first n fs) ≡ clean fs
behind_clean n [] = refl
behind_clean n (f ∷ fs) = refl

fit_clean : (p k : Option Kind) (null : Bool) (s t : Span) → clean (fit_by p k null s) ≡ clean (fit_by p k null t)
fit_clean None k null s t = refl
fit_clean (Some p) None null s t = refl
fit_clean (Some p) (Some k) null s t = unless_clean (fits p k null) _ _

pub fits_like : (env : Env) (p q : Option Kind) (a b : Known) → p ≡ q → CheckedLike a.value b.value → clean (fit env p a) ≡ clean (fit env q b)
fits_like env p q a b e h = fit_clean p (a.value.kind env) (is_null a) a.span b.span ∙ (λ i. clean (fit_by (e i) (h.kind env i) (is_null_literal (h.literal i)) b.span))

class_clean : (p : Kind → Bool) (k : Option Kind) (s t : Span) → clean (class_by p k s) ≡ clean (class_by p k t)
class_clean p None s t = refl
class_clean p (Some k) s t = unless_clean (p k) _ _

must_clean : (env : Env) (p : Kind → Bool) (a b : Known) → CheckedLike a.value b.value → clean (must_be env p a) ≡ clean (must_be env p b)
must_clean env p a b h = class_clean p (a.value.kind env) a.span b.span ∙ ap (λ k. clean (class_by p k b.span)) (h.kind env)

-- 2. Calls

data KnownsLike : List Known → List Known → Type 0 where
  none : KnownsLike [] []
  more : (a b : Known) {xs ys : List Known} → CheckedLike a.value b.value → KnownsLike xs ys → KnownsLike (a ∷ xs) (b ∷ ys)

knowns_like : (es : List Expr) → AllLike es → KnownsLike (all_checked checked (map bare_expr es)) (all_checked checked es)
knowns_like [] h = none
knowns_like (e ∷ es) h = more (checked (bare_expr e)) (checked e) h.0 (knowns_like es h.1)

length_same : {xs ys : List Known} → KnownsLike xs ys → length xs ≡ length ys
length_same none = refl
length_same (more a b h q) = ap suc (length_same q)

own_clean : {xs ys : List Known} (env : Env) → KnownsLike xs ys → clean (own_faults env xs) ≡ clean (own_faults env ys)
own_clean env none = refl
own_clean env (more a b {xs} {ys} h q) = both_clean (a.value.faults env) (own_faults env xs) (b.value.faults env) (own_faults env ys) (h.clean_is env) (own_clean env q)

any_clean : {xs ys : List Known} (env : Env) → KnownsLike xs ys → clean (any_faults env xs) ≡ clean (any_faults env ys)
any_clean env none = refl
any_clean env (more a b {xs} {ys} h q) = both_clean (must_be env is_argument a) (any_faults env xs) (must_be env is_argument b) (any_faults env ys) (must_clean env is_argument a b h) (any_clean env q)

pair_clean : {xs ys : List Known} (env : Env) → KnownsLike xs ys → clean (pair_faults env xs) ≡ clean (pair_faults env ys)
pair_clean env none = refl
pair_clean env (more a b h none) = unless_clean (is_null a) _ _ ∙ ap (λ l. clean (unless (is_null_literal l) (misfit b.span))) h.literal
pair_clean env (more a b h (more x y {xs} {ys} g q)) =
    both_clean (must_be env is_pointer_or_function a ++ must_be env is_argument x) (pair_faults env xs) (must_be env is_pointer_or_function b ++ must_be env is_argument y) (pair_faults env ys)
    (both_clean (must_be env is_pointer_or_function a) (must_be env is_argument x) (must_be env is_pointer_or_function b) (must_be env is_argument y) (must_clean env is_pointer_or_function a b h) (must_clean env is_argument x y g)) (pair_clean env q)

argument_clean : {xs ys : List Known} (env : Env) (ps : List RowParameter) → KnownsLike xs ys → clean (argument_faults env ps xs) ≡ clean (argument_faults env ps ys)
argument_clean env [] q = refl
argument_clean env (Number k ∷ ps) none = refl
argument_clean env (Pointer ∷ ps) none = refl
argument_clean env (Exactly l ∷ ps) none = refl
argument_clean env (Any ∷ ps) none = refl
argument_clean env (Pairs ∷ ps) none = refl
argument_clean env (Number k ∷ ps) (more a b {xs} {ys} h q) = both_clean (must_be env is_integer a) (argument_faults env ps xs) (must_be env is_integer b) (argument_faults env ps ys) (must_clean env is_integer a b h) (argument_clean env ps q)
argument_clean env (Pointer ∷ ps) (more a b {xs} {ys} h q) = both_clean (must_be env is_pointer_or_function a) (argument_faults env ps xs) (must_be env is_pointer_or_function b) (argument_faults env ps ys) (must_clean env is_pointer_or_function a b h) (argument_clean env ps q)
argument_clean env (Exactly l ∷ ps) (more a b {xs} {ys} h q) =
    both_clean (unless (same_literal l a.value.literal) (misfit a.span)) (argument_faults env ps xs) (unless (same_literal l b.value.literal) (misfit b.span)) (argument_faults env ps ys)
    (unless_clean (same_literal l a.value.literal) _ _ ∙ ap (λ o. clean (unless (same_literal l o) (misfit b.span))) h.literal) (argument_clean env ps q)
argument_clean env (Any ∷ ps) (more a b h q) = any_clean env (more a b h q)
argument_clean env (Pairs ∷ ps) (more a b h q) = pair_clean env (more a b h q)

fit_all_clean : {xs ys : List Known} (env : Env) (ps : List (Option Kind)) → KnownsLike xs ys → clean (fit_all env ps xs) ≡ clean (fit_all env ps ys)
fit_all_clean env [] q = refl
fit_all_clean env (p ∷ ps) none = refl
fit_all_clean env (p ∷ ps) (more a b {xs} {ys} h q) = both_clean (fit env p a) (fit_all env ps xs) (fit env p b) (fit_all env ps ys) (fits_like env p p a b refl h) (fit_all_clean env ps q)

record CalledLike (a b : Called) : Type 0 where
  result : a.result ≡ b.result
  clean_is : clean a.faults ≡ clean b.faults

called_like : (b c : Bool) → b ≡ c → (s t : Span) (k : Option Kind) (fs gs : List Fault) → clean fs ≡ clean gs → CalledLike (called_if b s k fs) (called_if c t k gs)
called_like b c e s t k fs gs h = subst (λ x. CalledLike (called_if b s k fs) (called_if x t k gs)) e (go b)
  where
    go : (x : Bool) → CalledLike (called_if x s k fs) (called_if x t k gs)
    go true = record { result = refl; clean_is = h }
    go false = record { result = refl; clean_is = refl }

row_like : {xs ys : List Known} (env : Env) (o : Option Row) (s t : Span) (fine good : Bool) → fine ≡ good → KnownsLike xs ys → CalledLike (row_call env o s fine xs) (row_call env o t good ys)
row_like env None s t fine good e q = record { result = refl; clean_is = refl }
row_like {xs} {ys} env (Some x) s t fine good e q = called_like _ _ (λ i. e i && takes_count x.parameters (length_same q i)) s t (Some x.result) (argument_faults env x.parameters xs) (argument_faults env x.parameters ys) (argument_clean env x.parameters q)

unit_like : {xs ys : List Known} (env : Env) (o : Option Takes) (s t : Span) → KnownsLike xs ys → CalledLike (unit_call env o s xs) (unit_call env o t ys)
unit_like env None s t q = record { result = refl; clean_is = refl }
unit_like {xs} {ys} env (Some x) s t q = called_like _ _ (λ i. length x.parameters == length_same q i) s t x.result (fit_all env x.parameters xs) (fit_all env x.parameters ys) (fit_all_clean env x.parameters q)

value_call_like : {xs ys : List Known} (env : Env) (k : Option Kind) (s t : Span) → KnownsLike xs ys → CalledLike (value_call env k s xs) (value_call env k t ys)
value_call_like env None s t q = record { result = refl; clean_is = refl }
value_call_like env (Some k) s t q = unit_like env (signature_of env k) s t q

with_like : (fs gs : List Fault) (a b : Called) → clean fs ≡ clean gs → CalledLike a b → CalledLike (with_faults fs a) (with_faults gs b)
with_like fs gs a b e h = record { result = h.result; clean_is = both_clean fs a.faults gs b.faults e h.clean_is }

call_like : {ns : Names} {w : Word} {c : Call} → ReadsCall ns w c → (env : Env) → CalledLike (call checked env (bare_call c)) (call checked env c)
call_like {ns} {c} (call_value t s {a} {xs} ra i rx j) env =
    let q = knowns_like xs (arguments_like ns false rx) in let h = callee_like ns false ra in
    with_like ((checked (bare_expr a)).value.faults env ++ own_faults env (all_checked checked (map bare_expr xs))) ((checked a).value.faults env ++ own_faults env (all_checked checked xs)) _ _
    (both_clean ((checked (bare_expr a)).value.faults env) (own_faults env (all_checked checked (map bare_expr xs))) ((checked a).value.faults env) (own_faults env (all_checked checked xs)) (h.clean_is env) (own_clean env q))
    (subst (λ k. CalledLike (value_call env ((checked (bare_expr a)).value.kind env) nowhere (all_checked checked (map bare_expr xs))) (value_call env k c.span (all_checked checked xs))) (h.kind env)
    (value_call_like env ((checked (bare_expr a)).value.kind env) nowhere c.span q))
call_like {ns} {c} (call_row {n} s {xs} i h j rx m) env =
    let q = knowns_like xs (arguments_like ns false rx) in let x = name_at n in
    with_like (undeclared_if (found env.scopes x.text) (bare_name x) ++ [] ++ own_faults env (all_checked checked (map bare_expr xs))) (undeclared_if (found env.scopes x.text) x ++ [] ++ own_faults env (all_checked checked xs)) _ _
    (both_clean (undeclared_if (found env.scopes x.text) (bare_name x) ++ []) (own_faults env (all_checked checked (map bare_expr xs))) (undeclared_if (found env.scopes x.text) x ++ []) (own_faults env (all_checked checked xs))
    (both_clean (undeclared_if (found env.scopes x.text) (bare_name x)) [] (undeclared_if (found env.scopes x.text) x) [] (undeclared_clean (found env.scopes x.text) (bare_name x) x) refl) (own_clean env q))
    (row_like env (row_number (found env.scopes x.text)) nowhere c.span true true refl q)
call_like {ns} {c} (call_type_row {n} s {c = d} {xs} i h j rc o rx m) env =
    let q = knowns_like xs (more_like ns false rx) in let x = name_at n in
    with_like (undeclared_if (found env.scopes x.text) (bare_name x) ++ type_faults env (bare_type d) ++ own_faults env (all_checked checked (map bare_expr xs))) (undeclared_if (found env.scopes x.text) x ++ type_faults env d ++ own_faults env (all_checked checked xs)) _ _
    (both_clean (undeclared_if (found env.scopes x.text) (bare_name x) ++ type_faults env (bare_type d)) (own_faults env (all_checked checked (map bare_expr xs))) (undeclared_if (found env.scopes x.text) x ++ type_faults env d) (own_faults env (all_checked checked xs))
    (both_clean (undeclared_if (found env.scopes x.text) (bare_name x)) (type_faults env (bare_type d)) (undeclared_if (found env.scopes x.text) x) (type_faults env d) (undeclared_clean (found env.scopes x.text) (bare_name x) x) (type_clean env d)) (own_clean env q))
    (row_like env (row_number (found env.scopes x.text)) nowhere c.span (laid_out_if env (kind_of env (bare_type d))) (laid_out_if env (kind_of env d)) (ap (laid_out_if env) (kind_bare env d)) q)

-- 3. Declarations

twice_clean : (o : Option Sort) (x y : Name) → clean (twice_if o x) ≡ clean (twice_if o y)
twice_clean None x y = refl
twice_clean (Some s) x y = refl

pub here_clean : (env : Env) (x : Name) → clean (twice_here env (bare_name x)) ≡ clean (twice_here env x)
here_clean env x = twice_clean (found_in (innermost env.scopes) x.text) (bare_name x) x

pub laid_clean : (env : Env) (k j : Option Kind) (x y : Name) → k ≡ j → clean (not_laid_out env k x) ≡ clean (not_laid_out env j y)
laid_clean env k j x y e = unless_clean (laid_out_if env k) _ _ ∙ ap (λ o. clean (unless (laid_out_if env o) (misfit y.span))) e

local_scope : (env : Env) (l : Local) → with_local env (bare_local l) ≡ with_local env l
local_scope env l = ap (λ k. declare env l.name (sort.Variable k)) (kind_bare env l.declared)

locals_scope : (env : Env) (ls : List Local) → with_locals env (map bare_local ls) ≡ with_locals env ls
locals_scope env [] = refl
locals_scope env (l ∷ ls) = locals_scope (with_local env (bare_local l)) ls ∙ ap (λ e. with_locals e ls) (local_scope env l)

local_clean : (env : Env) (l : Local) → clean (local_faults env (bare_local l)) ≡ clean (local_faults env l)
local_clean env l =
    behind_clean 0 (type_faults env (bare_type l.declared) ++ twice_here env (bare_name l.name) ++ not_laid_out env (kind_of env (bare_type l.declared)) (bare_name l.name))
    ∙ both_clean (type_faults env (bare_type l.declared) ++ twice_here env (bare_name l.name)) (not_laid_out env (kind_of env (bare_type l.declared)) (bare_name l.name)) (type_faults env l.declared ++ twice_here env l.name) (not_laid_out env (kind_of env l.declared) l.name)
    (both_clean (type_faults env (bare_type l.declared)) (twice_here env (bare_name l.name)) (type_faults env l.declared) (twice_here env l.name) (type_clean env l.declared) (here_clean env l.name))
    (laid_clean env (kind_of env (bare_type l.declared)) (kind_of env l.declared) (bare_name l.name) l.name (kind_bare env l.declared))
    ∙ sym (behind_clean l.declared.span.start (type_faults env l.declared ++ twice_here env l.name ++ not_laid_out env (kind_of env l.declared) l.name))

locals_clean : (env : Env) (ls : List Local) → clean (locals_faults env (map bare_local ls)) ≡ clean (locals_faults env ls)
locals_clean env [] = refl
locals_clean env (l ∷ ls) = both_clean (local_faults env (bare_local l)) (locals_faults (with_local env (bare_local l)) (map bare_local ls)) (local_faults env l) (locals_faults (with_local env l) ls) (local_clean env l)
    (locals_clean (with_local env (bare_local l)) ls ∙ ap (λ e. clean (locals_faults e ls)) (local_scope env l))

-- 4. Statements

pub record BodyLike (a b : Body) : Type 0 where
  pub clean_is : (c : Context) → clean (a.faults c) ≡ clean (b.faults c)
  pub labels : a.labels ≡ map bare_name b.labels
  pub targets : a.targets ≡ map bare_name b.targets

map_append : (a b : List Name) → map bare_name (a ++ b) ≡ map bare_name a ++ map bare_name b
map_append [] b = refl
map_append (x ∷ a) b = ap (λ y. bare_name x ∷ y) (map_append a b)

both_names : (a b x y : List Name) → a ≡ map bare_name x → b ≡ map bare_name y → a ++ b ≡ map bare_name (x ++ y)
both_names a b x y e f = ap₂ (λ p q. p ++ q) e f ∙ sym (map_append x y)

case_names : (cs : List Case) → case_targets (map bare_case cs) ≡ map bare_name (case_targets cs)
case_names [] = refl
case_names (c ∷ cs) = ap (λ y. bare_name c.label ∷ y) (case_names cs)

condition_clean : (env : Env) (a b : Known) → CheckedLike a.value b.value → clean (condition env a) ≡ clean (condition env b)
condition_clean env a b h = both_clean (a.value.faults env) (must_be env is_scalar a) (b.value.faults env) (must_be env is_scalar b) (h.clean_is env) (must_clean env is_scalar a b h)

result_clean : (p k : Option Kind) (s t : Span) → clean (result_fit p k s) ≡ clean (result_fit p k t)
result_clean None k s t = refl
result_clean (Some p) None s t = refl
result_clean (Some p) (Some k) s t = unless_clean (fits p k false) _ _

return_value_clean : (env : Env) (k : Option Kind) (s t : Span) (a b : Known) → CheckedLike a.value b.value → clean (return_by env k s a) ≡ clean (return_by env k t b)
return_value_clean env None s t a b h = refl
return_value_clean env (Some k) s t a b h = go (is_void k)
  where
    go : (x : Bool) → clean (cond x (Rattle.c_tree.specs.Faults.fault Misfit s.start a.span.end) (fit env (Some k) a)) ≡ clean (cond x (Rattle.c_tree.specs.Faults.fault Misfit t.start b.span.end) (fit env (Some k) b))
    go true = refl
    go false = fits_like env (Some k) (Some k) a b refl h

empty_clean : (k : Option Kind) (s t : Span) → clean (return_empty k s) ≡ clean (return_empty k t)
empty_clean None s t = refl
empty_clean (Some k) s t = unless_clean (is_void k) _ _

abbrev pub body_of : Stmt → Body
body_of = fold-Stmt Body Body (check_stmt checked) check_block

abbrev body_layer : Stmt-F Stmt Block → Stmt-F Body Body
body_layer = map-Stmt Stmt Block Body Body body_of (checked_block checked)

body_at : (l : Stmt-F Stmt Block) → body_of (stmt_at l) ≡ check_stmt checked (body_layer l)
body_at l = ap body_of (sym (stmt_rolls_at l)) ∙ fold-roll-Stmt Body Body (check_stmt checked) check_block l

block_out : (ls : List Local) (ss : List Stmt) (o : Span) → checked_block checked (block ls ss o) ≡ check_block (record { locals = ls; body = map body_of ss; span = o })
block_out ls ss o = fold_out-Block Body Body (check_stmt checked) check_block (block ls ss o)

abbrev pub StmtLike : Stmt → Type 0
StmtLike s = BodyLike (body_of (bare_of_stmt s)) (body_of s)

abbrev pub BlockLike : Block → Type 0
BlockLike b = BodyLike (checked_block checked (bare_block b)) (checked_block checked b)

body_along : {a b x y : Body} → a ≡ x → b ≡ y → BodyLike x y → BodyLike a b
body_along {a} {b} {x} {y} p q h = subst (λ z. BodyLike z b) (sym p) (subst (BodyLike x) (sym q) h)

made_body : (l m : Stmt-F Stmt Block) → bare_stmt (stmt_bare_layer l) ≡ stmt_at m → BodyLike (check_stmt checked (body_layer m)) (check_stmt checked (body_layer l)) → StmtLike (stmt_at l)
made_body l m e h = body_along (ap body_of (stmt_bare l ∙ e) ∙ body_at m) (body_at l) h

place_like : {ns : Names} {w : Word} {a : Expr} → ReadsPlace ns w a → Like a
place_like {ns} (place_is q h) = operand_like ns false q

abbrev pub BodiesLike : List Stmt → Type 0
BodiesLike [] = Unit {0}
BodiesLike (s ∷ ss) = StmtLike s × BodiesLike ss

stmts_clean : (c : Context) (ss : List Stmt) → BodiesLike ss → clean (all_faults c (map body_of (map bare_of_stmt ss))) ≡ clean (all_faults c (map body_of ss))
stmts_clean c [] h = refl
stmts_clean c (s ∷ ss) h = both_clean ((body_of (bare_of_stmt s)).faults c) (all_faults c (map body_of (map bare_of_stmt ss))) ((body_of s).faults c) (all_faults c (map body_of ss)) (h.0.clean_is c) (stmts_clean c ss h.1)

stmts_labels : (ss : List Stmt) → BodiesLike ss → all_labels (map body_of (map bare_of_stmt ss)) ≡ map bare_name (all_labels (map body_of ss))
stmts_labels [] h = refl
stmts_labels (s ∷ ss) h = both_names (body_of (bare_of_stmt s)).labels (all_labels (map body_of (map bare_of_stmt ss))) (body_of s).labels (all_labels (map body_of ss)) h.0.labels (stmts_labels ss h.1)

pub stmts_targets : (ss : List Stmt) → BodiesLike ss → all_targets (map body_of (map bare_of_stmt ss)) ≡ map bare_name (all_targets (map body_of ss))
stmts_targets [] h = refl
stmts_targets (s ∷ ss) h = both_names (body_of (bare_of_stmt s)).targets (all_targets (map body_of (map bare_of_stmt ss))) (body_of s).targets (all_targets (map body_of ss)) h.0.targets (stmts_targets ss h.1)

mutual
  pub stmt_like : {ns : Names} {w : Word} {s : Stmt} → ReadsStmt ns w s → StmtLike s
  stmt_like {ns} (st.assigns t e {a} {b} p i rb j) =
      let h = place_like p in let g = value_like ns false rb in
      made_body (Stmt-F.Assign a b) (Stmt-F.Assign (bare_expr a) (bare_expr b)) refl (record {
        clean_is = λ c. behind_clean (span_of (bare_expr a)).start ((checked (bare_expr a)).value.faults c.env ++ (checked (bare_expr b)).value.faults c.env ++ fit c.env ((checked (bare_expr a)).value.kind c.env) (checked (bare_expr b)))
            ∙ both_clean ((checked (bare_expr a)).value.faults c.env ++ (checked (bare_expr b)).value.faults c.env) (fit c.env ((checked (bare_expr a)).value.kind c.env) (checked (bare_expr b))) ((checked a).value.faults c.env ++ (checked b).value.faults c.env) (fit c.env ((checked a).value.kind c.env) (checked b))
            (both_clean ((checked (bare_expr a)).value.faults c.env) ((checked (bare_expr b)).value.faults c.env) ((checked a).value.faults c.env) ((checked b).value.faults c.env) (h.clean_is c.env) (g.clean_is c.env))
            (fits_like c.env ((checked (bare_expr a)).value.kind c.env) ((checked a).value.kind c.env) (checked (bare_expr b)) (checked b) (h.kind c.env) g)
            ∙ sym (behind_clean (span_of a).start ((checked a).value.faults c.env ++ (checked b).value.faults c.env ++ fit c.env ((checked a).value.kind c.env) (checked b)));
        labels = refl;
        targets = refl;
      })
  stmt_like {ns} (st.calls e {c = d} rc i) =
      made_body (Stmt-F.Call d) (Stmt-F.Call (bare_call d)) refl (record {
        clean_is = λ c. behind_clean nowhere.start (call checked c.env (bare_call d)).faults ∙ (call_like rc c.env).clean_is ∙ sym (behind_clean d.span.start (call checked c.env d).faults);
        labels = refl;
        targets = refl;
      })
  stmt_like {ns} (st.stores t e {a} {c = d} p i rc j) =
      let h = place_like p in
      made_body (Stmt-F.Store a d) (Stmt-F.Store (bare_expr a) (bare_call d)) refl (record {
        clean_is = λ c. let q = call_like rc c.env in
            behind_clean (span_of (bare_expr a)).start ((checked (bare_expr a)).value.faults c.env ++ (call checked c.env (bare_call d)).faults ++ result_fit ((checked (bare_expr a)).value.kind c.env) (call checked c.env (bare_call d)).result nowhere)
            ∙ both_clean ((checked (bare_expr a)).value.faults c.env ++ (call checked c.env (bare_call d)).faults) (result_fit ((checked (bare_expr a)).value.kind c.env) (call checked c.env (bare_call d)).result nowhere)
            ((checked a).value.faults c.env ++ (call checked c.env d).faults) (result_fit ((checked a).value.kind c.env) (call checked c.env d).result d.span)
            (both_clean ((checked (bare_expr a)).value.faults c.env) (call checked c.env (bare_call d)).faults ((checked a).value.faults c.env) (call checked c.env d).faults (h.clean_is c.env) q.clean_is)
            (result_clean ((checked (bare_expr a)).value.kind c.env) (call checked c.env (bare_call d)).result nowhere d.span ∙ (λ i. clean (result_fit (h.kind c.env i) (q.result i) d.span)))
            ∙ sym (behind_clean (span_of a).start ((checked a).value.faults c.env ++ (call checked c.env d).faults ++ result_fit ((checked a).value.kind c.env) (call checked c.env d).result d.span));
        labels = refl;
        targets = refl;
      })
  stmt_like {ns} (st.if_block s {a} {b} i j ra h rb) =
      let g = value_like ns false ra in let q = block_like rb in
      made_body (Stmt-F.If a b None) (Stmt-F.If (bare_expr a) (bare_block b) None) refl (record {
        clean_is = λ c. both_clean (condition c.env (checked (bare_expr a)) ++ inner (checked_block checked (bare_block b)) c) [] (condition c.env (checked a) ++ inner (checked_block checked b) c) []
            (both_clean (condition c.env (checked (bare_expr a))) (inner (checked_block checked (bare_block b)) c) (condition c.env (checked a)) (inner (checked_block checked b) c) (condition_clean c.env (checked (bare_expr a)) (checked a) g) (q.clean_is (record c { env = opened c.env }))) refl;
        labels = both_names (checked_block checked (bare_block b)).labels [] (checked_block checked b).labels [] q.labels refl;
        targets = both_names (checked_block checked (bare_block b)).targets [] (checked_block checked b).targets [] q.targets refl;
      })
  stmt_like {ns} (st.if_else s l {a} {b} {d} i j ra h rb m rd) =
      let g = value_like ns false ra in let q = block_like rb in let p = block_like rd in
      made_body (Stmt-F.If a b (Some d)) (Stmt-F.If (bare_expr a) (bare_block b) (Some (bare_block d))) refl (record {
        clean_is = λ c. both_clean (condition c.env (checked (bare_expr a)) ++ inner (checked_block checked (bare_block b)) c) (inner (checked_block checked (bare_block d)) c) (condition c.env (checked a) ++ inner (checked_block checked b) c) (inner (checked_block checked d) c)
            (both_clean (condition c.env (checked (bare_expr a))) (inner (checked_block checked (bare_block b)) c) (condition c.env (checked a)) (inner (checked_block checked b) c) (condition_clean c.env (checked (bare_expr a)) (checked a) g) (q.clean_is (record c { env = opened c.env })))
            (p.clean_is (record c { env = opened c.env }));
        labels = both_names (checked_block checked (bare_block b)).labels (checked_block checked (bare_block d)).labels (checked_block checked b).labels (checked_block checked d).labels q.labels p.labels;
        targets = both_names (checked_block checked (bare_block b)).targets (checked_block checked (bare_block d)).targets (checked_block checked b).targets (checked_block checked d).targets q.targets p.targets;
      })
  stmt_like {ns} (st.if_goto s x {a} i j ra h go) =
      made_body (Stmt-F.IfGoto a (name_at x)) (Stmt-F.IfGoto (bare_expr a) (bare_name (name_at x))) refl
      (record { clean_is = λ c. condition_clean c.env (checked (bare_expr a)) (checked a) (value_like ns false ra); labels = refl; targets = refl })
  stmt_like (st.goes x go) = made_body (Stmt-F.Goto (name_at x)) (Stmt-F.Goto (bare_name (name_at x))) refl (record { clean_is = λ c. refl; labels = refl; targets = refl })
  stmt_like (st.labels {n = x} i j h) = made_body (Stmt-F.Label (name_at x)) (Stmt-F.Label (bare_name (name_at x))) refl (record { clean_is = λ c. refl; labels = refl; targets = refl })
  stmt_like {ns} (st.switches s l d c0 q x {a} {cs} i j ra h m rs y z go e) =
      let g = value_like ns false ra in
      made_body (Stmt-F.Switch a cs (name_at x)) (Stmt-F.Switch (bare_expr a) (map bare_case cs) (bare_name (name_at x))) refl (record {
        clean_is = λ c. both_clean ((checked (bare_expr a)).value.faults c.env) (must_be c.env is_integer (checked (bare_expr a))) ((checked a).value.faults c.env) (must_be c.env is_integer (checked a)) (g.clean_is c.env) (must_clean c.env is_integer (checked (bare_expr a)) (checked a) g);
        labels = refl;
        targets = both_names (case_targets (map bare_case cs)) (bare_name (name_at x) ∷ []) (case_targets cs) (name_at x ∷ []) (case_names cs) refl;
      })
  stmt_like (st.returns {t} i j) = made_body (Stmt-F.Return (at t) None) (Stmt-F.Return nowhere None) refl (record { clean_is = λ c. empty_clean c.result nowhere (at t); labels = refl; targets = refl })
  stmt_like {ns} (st.returns_value {t} e {a} i ra j) =
      let g = value_like ns false ra in
      made_body (Stmt-F.Return (at t) (Some a)) (Stmt-F.Return nowhere (Some (bare_expr a))) refl (record {
        clean_is = λ c. both_clean ((checked (bare_expr a)).value.faults c.env) (return_by c.env c.result nowhere (checked (bare_expr a))) ((checked a).value.faults c.env) (return_by c.env c.result (at t) (checked a)) (g.clean_is c.env)
            (return_value_clean c.env c.result nowhere (at t) (checked (bare_expr a)) (checked a) g);
        labels = refl;
        targets = refl;
      })
  stmt_like (st.blocks {b} rb) =
      let q = block_like rb in
      made_body (Stmt-F.Block b) (Stmt-F.Block (bare_block b)) refl (record { clean_is = λ c. q.clean_is (record c { env = opened c.env }); labels = q.labels; targets = q.targets })

  bodies_like : {ns : Names} {w : Word} {ss : List Stmt} → ReadsStmts ns w ss → BodiesLike ss
  bodies_like st.no_stmt = tt
  bodies_like (st.more_stmts q rest) = (stmt_like q, bodies_like rest)

  pub block_like : {ns : Names} {w : Word} {b : Block} → ReadsBlock ns w b → BlockLike b
  block_like (st.block_is {t} s {ls} {ss} i rl rs j) =
      let q = bodies_like rs in
      body_along (ap (checked_block checked) (block_bare ls ss (join (at t) (at s))) ∙ block_out (map bare_local ls) (map bare_of_stmt ss) nowhere) (block_out ls ss (join (at t) (at s))) (record {
        clean_is = λ c. both_clean (locals_faults c.env (map bare_local ls)) (all_faults (record c { env = with_locals c.env (map bare_local ls) }) (map body_of (map bare_of_stmt ss))) (locals_faults c.env ls) (all_faults (record c { env = with_locals c.env ls }) (map body_of ss))
            (locals_clean c.env ls)
            (stmts_clean (record c { env = with_locals c.env (map bare_local ls) }) ss q ∙ ap (λ e. clean (all_faults (record c { env = e }) (map body_of ss))) (locals_scope c.env ls));
        labels = stmts_labels ss q;
        targets = stmts_targets ss q;
      })
