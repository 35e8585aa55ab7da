-- The unit that is read keeps every rule.
use Rattle.std.proofs.Common.{◌≡◌, ◌∙◌, refl, ap, ap₂, ℕ, zero, List, [], ◌∷◌, ◌++◌, map, codes, Some, None}
use Rattle.c_lexer.specs.declared.token.NumberType.TheVariants.{Gint}
use Rattle.c_tree.specs.declared.names.Name.{Name}
use Rattle.c_tree.specs.declared.names.Span.{Span}
use Rattle.c_tree.specs.declared.code.Expr.{Expr}
use Rattle.c_tree.specs.declared.code.Shape.{Shape, out-Shape}
use Rattle.c_tree.specs.declared.code.Shape.TheVariants as shape
use Rattle.c_tree.specs.declared.code.Shape.TheOpen.{Shape-F, Choice-F, Expr-F, Link-F}
use Rattle.c_tree.specs.declared.code.Shape.TheFolds.{fold-Shape, fold-Suffix, fold-Choice, fold-Link, fold_out-Expr, fold_out-Shape, map-Shape}
use Rattle.c_tree.specs.declared.code.Suffix.{Suffix}
use Rattle.c_tree.specs.declared.code.Choice.{Choice}
use Rattle.c_tree.specs.declared.code.Link.{Link}
use Rattle.c_tree.specs.declared.code.Call.{Call}
use Rattle.c_tree.specs.declared.code.Callee.TheVariants as callee
use Rattle.c_tree.specs.declared.code.Stmt.{Stmt, out-Stmt}
use Rattle.c_tree.specs.declared.code.Stmt.TheVariants as stmt
use Rattle.c_tree.specs.declared.code.Stmt.TheOpen.{Stmt-F}
use Rattle.c_tree.specs.declared.code.Stmt.TheFolds.{fold-Stmt, fold_out-Stmt, fold_out-Block, map-Stmt}
use Rattle.c_tree.specs.declared.code.Block.{Block}
use Rattle.c_tree.specs.declared.kinds.Fault.{Fault}
use Rattle.c_tree.specs.declared.kinds.Sort.TheVariants as sort
use Rattle.c_tree.specs.Kinds.{int}
use Rattle.c_tree.specs.Env.{found}
use Rattle.c_tree.specs.Faults.{behind_first}
use Rattle.c_tree.specs.Make.{expr, name_at, block}
use Rattle.c_tree.specs.Words.{Token, at, join}
use Rattle.c_tree.specs.Checks.{Checked, Known, KnownLink, KnownChoice, KnownSuffix, check_shape, check_suffix, checked}
use Rattle.c_tree.specs.Rules.{Body, Context, check_stmt, check_block, checked_block, all_faults, all_labels, all_targets, call_by, return_faults}
use Rattle.c_emit.specs.Program.{Program as Texts}
use Rattle.c_emit.proofs.Reading.{IsRead, last, more, read_call, read_zero}

-- 1. Values

abbrev know_choice : Choice-F Checked KnownSuffix KnownChoice Known KnownLink → KnownChoice
know_choice c = record { test = c.test; yes = c.yes }

abbrev know_expr : Expr-F Checked KnownSuffix KnownChoice Known KnownLink → Known
know_expr e = record { span = e.span; value = e.shape }

abbrev know_link : Link-F Checked KnownSuffix KnownChoice Known KnownLink → KnownLink
know_link l = record { operator = l.operator; operand = l.operand }

abbrev layer : Shape-F Shape Suffix Choice Expr Link → Shape-F Checked KnownSuffix KnownChoice Known KnownLink
layer =
    map-Shape Shape Suffix Choice Expr Link Checked KnownSuffix KnownChoice Known KnownLink
    (fold-Shape Checked KnownSuffix KnownChoice Known KnownLink check_shape check_suffix know_choice know_expr know_link)
    (fold-Suffix Checked KnownSuffix KnownChoice Known KnownLink check_shape check_suffix know_choice know_expr know_link)
    (fold-Choice Checked KnownSuffix KnownChoice Known KnownLink check_shape check_suffix know_choice know_expr know_link)
    checked
    (fold-Link Checked KnownSuffix KnownChoice Known KnownLink check_shape check_suffix know_choice know_expr know_link)

abbrev known_as : Span → Checked → Known
known_as s c = record { span = s; value = c }

checked_level : (s : Shape) (o : Span) → checked (expr s o) ≡ known_as o (check_shape (layer (out-Shape s)))
checked_level s o =
    fold_out-Expr Checked KnownSuffix KnownChoice Known KnownLink check_shape check_suffix know_choice know_expr know_link (expr s o)
    ∙ ap (known_as o) (fold_out-Shape Checked KnownSuffix KnownChoice Known KnownLink check_shape check_suffix know_choice know_expr know_link s)

text_out : (bytes : List ℕ) → check_shape (layer (out-Shape (shape.Text bytes))) ≡ check_shape (Shape-F.Text bytes)
unfolding out-Shape denote.Hole.Carrier.out
text_out bytes = refl

zero_out : check_shape (layer (out-Shape (shape.Number (record { value = 0; kind = Gint })))) ≡ check_shape (Shape-F.Number (record { value = 0; kind = Gint }))
unfolding out-Shape denote.Hole.Carrier.out
zero_out = refl

text_checked : (bytes : List ℕ) (o : Span) → checked (expr (shape.Text bytes) o) ≡ known_as o (check_shape (Shape-F.Text bytes))
text_checked bytes o = checked_level (shape.Text bytes) o ∙ ap (known_as o) (text_out bytes)

zero_checked : (o : Span)
    → checked (expr (shape.Number (record { value = 0; kind = Gint })) o) ≡ known_as o (check_shape (Shape-F.Number (record { value = 0; kind = Gint })))
zero_checked o = checked_level (shape.Number (record { value = 0; kind = Gint })) o ∙ ap (known_as o) zero_out

-- 2. Statements

abbrev body_of : Stmt → Body
body_of = fold-Stmt Body Body (check_stmt checked) check_block

abbrev stmt_layer : Stmt-F Stmt Block → Stmt-F Body Body
stmt_layer = map-Stmt Stmt Block Body Body body_of (checked_block checked)

body_level : (s : Stmt) → body_of s ≡ check_stmt checked (stmt_layer (out-Stmt s))
body_level s = fold_out-Stmt Body Body (check_stmt checked) check_block s

call_out : (c : Call) → check_stmt checked (stmt_layer (out-Stmt (stmt.Call c))) ≡ check_stmt checked (Stmt-F.Call c)
unfolding out-Stmt denote.Hole.Carrier.out
call_out c = refl

return_out : (s : Span) (e : Expr) → check_stmt checked (stmt_layer (out-Stmt (stmt.Return s (Some e)))) ≡ check_stmt checked (Stmt-F.Return s (Some e))
unfolding out-Stmt denote.Hole.Carrier.out
return_out s e = refl

call_is : (c : Call) → body_of (stmt.Call c) ≡ check_stmt checked (Stmt-F.Call c)
call_is c = body_level (stmt.Call c) ∙ call_out c

return_is : (s : Span) (e : Expr) → body_of (stmt.Return s (Some e)) ≡ check_stmt checked (Stmt-F.Return s (Some e))
return_is s e = body_level (stmt.Return s (Some e)) ∙ return_out s e

-- where `g_print` is the first function of the library, and an `int` is returned
pub record IsMainContext (c : Context) : Type 0 where
  pub prints : found c.env.scopes (codes "g_print") ≡ Some (sort.Row zero)
  pub result : c.result ≡ Some int

abbrev call_with : Context → Name → Span → Known → List Fault
call_with c n o a = (call_by checked c.env (callee.Row n) (record { callee = callee.Row n; type_argument = None; arguments = []; span = o }) (a ∷ [])).faults

named_clean : (c : Context) → IsMainContext c → (w : List ℕ) → w ≡ codes "g_print" → (s o p : Span) (bytes : List ℕ)
    → call_with c (record { text = w; span = s }) o (known_as p (check_shape (Shape-F.Text bytes))) ≡ []
named_clean c m w e s o p bytes =
    ap (λ x. call_with c (record { text = x; span = s }) o (known_as p (check_shape (Shape-F.Text bytes)))) e
    ∙ rw m.prints refl

call_clean : (c : Context) → IsMainContext c → (n x d : Token) → n.bytes ≡ codes "g_print" → (body_of (stmt.Call (read_call n x d))).faults c ≡ []
call_clean c m n x d e =
    ap (λ (b : Body). b.faults c) (call_is (read_call n x d))
    ∙ ap (behind_first (at n).start)
    (ap (call_with c (name_at n) (join (at n) (at d))) (text_checked x.bytes (at x)) ∙ named_clean c m n.bytes e (at n) (join (at n) (at d)) (at x) x.bytes)

return_clean : (c : Context) → IsMainContext c → (r z : Token) → (body_of (stmt.Return (at r) (Some (read_zero z)))).faults c ≡ []
return_clean c m r z =
    ap (λ (b : Body). b.faults c) (return_is (at r) (read_zero z))
    ∙ ap (λ (a : Known). return_faults c (at r) (Some a)) (zero_checked (at z))
    ∙ rw m.result refl

-- all statements are without a fault, and there are no labels
pub record IsClean (c : Context) (bs : List Body) : Type 0 where
  pub faults : all_faults c bs ≡ []
  pub labels : all_labels bs ≡ []
  pub targets : all_targets bs ≡ []

pub all_clean : (c : Context) → IsMainContext c → (texts : Texts) (ss : List Stmt) → IsRead texts ss → IsClean c (map body_of ss)
all_clean c m _ _ (last r z) =
    record {
      faults = ap (λ fs. fs ++ []) (return_clean c m r z);
      labels = ap (λ (b : Body). b.labels ++ []) (return_is (at r) (read_zero z));
      targets = ap (λ (b : Body). b.targets ++ []) (return_is (at r) (read_zero z));
    }
all_clean c m _ _ (more n x d text {texts} {ss} e f rest) =
    let q = all_clean c m texts ss rest in
    record {
      faults = ap₂ (λ fs gs. fs ++ gs) (call_clean c m n x d e) q.faults;
      labels = ap₂ (λ (b : Body) gs. b.labels ++ gs) (call_is (read_call n x d)) q.labels;
      targets = ap₂ (λ (b : Body) gs. b.targets ++ gs) (call_is (read_call n x d)) q.targets;
    }

abbrev pub bodies_of : List Stmt → List Body
bodies_of ss = map body_of ss

pub block_is : (ss : List Stmt) (o : Span) → checked_block checked (block [] ss o) ≡ check_block (record { locals = []; body = bodies_of ss; span = o })
block_is ss o = fold_out-Block Body Body (check_stmt checked) check_block (block [] ss o)
