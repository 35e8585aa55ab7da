-- What is known of values and bodies, one level after another: so that it computes.
use Rattle.std.proofs.Common.{◌≡◌, ◌∙◌, refl, ap, ℕ, zero, suc}
use Rattle.c_tree.specs.declared.code.Expr.{Expr, out-Expr}
use Rattle.c_tree.specs.declared.code.Shape.{Shape, out-Shape}
use Rattle.c_tree.specs.declared.code.Suffix.{Suffix, out-Suffix}
use Rattle.c_tree.specs.declared.code.Choice.{Choice, out-Choice}
use Rattle.c_tree.specs.declared.code.Link.{Link, out-Link}
use Rattle.c_tree.specs.declared.code.Shape.TheOpen.{Choice-F, Expr-F, Link-F}
use Rattle.c_tree.specs.declared.code.Shape.TheFolds.{fold-Expr, fold-Shape, fold-Suffix, fold-Choice, fold-Link, fold_out-Expr, fold_out-Shape, fold_out-Suffix, fold_out-Choice, fold_out-Link, map-Expr, map-Shape, map-Suffix, map-Choice, map-Link}
use Rattle.c_tree.specs.declared.code.Stmt.{Stmt, out-Stmt}
use Rattle.c_tree.specs.declared.code.Block.{Block, out-Block}
use Rattle.c_tree.specs.declared.code.Stmt.TheFolds.{fold-Stmt, fold-Block, fold_out-Stmt, fold_out-Block, map-Stmt, map-Block}
use Rattle.c_tree.specs.Checks.{Checked, Known, KnownLink, KnownChoice, KnownSuffix, check_shape, check_suffix, checked}
use Rattle.c_tree.specs.Rules.{Checker, Body, check_stmt, check_block, checked_block}

abbrev check_choice : Choice-F Checked KnownSuffix KnownChoice Known KnownLink → KnownChoice
check_choice c = record { test = c.test; yes = c.yes }

abbrev check_expr : Expr-F Checked KnownSuffix KnownChoice Known KnownLink → Known
check_expr e = record { span = e.span; value = e.shape }

abbrev check_link : Link-F Checked KnownSuffix KnownChoice Known KnownLink → KnownLink
check_link l = record { operator = l.operator; operand = l.operand }

-- what a level gives of what is known of its parts
abbrev pub Views : Type 0
Views = (Shape → Checked) × (Suffix → KnownSuffix) × (Choice → KnownChoice) × (Expr → Known) × (Link → KnownLink)

abbrev whole : Views
whole = (
  fold-Shape Checked KnownSuffix KnownChoice Known KnownLink check_shape check_suffix check_choice check_expr check_link,
  fold-Suffix Checked KnownSuffix KnownChoice Known KnownLink check_shape check_suffix check_choice check_expr check_link,
  fold-Choice Checked KnownSuffix KnownChoice Known KnownLink check_shape check_suffix check_choice check_expr check_link,
  fold-Expr Checked KnownSuffix KnownChoice Known KnownLink check_shape check_suffix check_choice check_expr check_link,
  fold-Link Checked KnownSuffix KnownChoice Known KnownLink check_shape check_suffix check_choice check_expr check_link,
)

abbrev level : Views → Views
level f = (
  λ s. check_shape (map-Shape Shape Suffix Choice Expr Link Checked KnownSuffix KnownChoice Known KnownLink f.0 f.1 f.2 f.3 f.4 (out-Shape s)),
  λ s. check_suffix (map-Suffix Shape Suffix Choice Expr Link Checked KnownSuffix KnownChoice Known KnownLink f.0 f.1 f.2 f.3 f.4 (out-Suffix s)),
  λ s. check_choice (map-Choice Shape Suffix Choice Expr Link Checked KnownSuffix KnownChoice Known KnownLink f.0 f.1 f.2 f.3 f.4 (out-Choice s)),
  λ s. check_expr (map-Expr Shape Suffix Choice Expr Link Checked KnownSuffix KnownChoice Known KnownLink f.0 f.1 f.2 f.3 f.4 (out-Expr s)),
  λ s. check_link (map-Link Shape Suffix Choice Expr Link Checked KnownSuffix KnownChoice Known KnownLink f.0 f.1 f.2 f.3 f.4 (out-Link s)),
)

abbrev levels : ℕ → Views
levels zero = whole
levels (suc n) = level (levels n)

one_level : whole ≡ level whole
one_level = λ i. (
  λ s. fold_out-Shape Checked KnownSuffix KnownChoice Known KnownLink check_shape check_suffix check_choice check_expr check_link s i,
  λ s. fold_out-Suffix Checked KnownSuffix KnownChoice Known KnownLink check_shape check_suffix check_choice check_expr check_link s i,
  λ s. fold_out-Choice Checked KnownSuffix KnownChoice Known KnownLink check_shape check_suffix check_choice check_expr check_link s i,
  λ s. fold_out-Expr Checked KnownSuffix KnownChoice Known KnownLink check_shape check_suffix check_choice check_expr check_link s i,
  λ s. fold_out-Link Checked KnownSuffix KnownChoice Known KnownLink check_shape check_suffix check_choice check_expr check_link s i,
)

all_levels : (n : ℕ) → whole ≡ levels n
all_levels zero = refl
all_levels (suc n) = one_level ∙ ap level (all_levels n)

-- so many levels of a value
abbrev pub peeled : ℕ → Checker
peeled n = (levels n).3

pub checked_peeled : (n : ℕ) → checked ≡ peeled n
checked_peeled n = ap (λ (v : Views). v.3) (all_levels n)

-- the same of statements
module _ (known : Checker) where
  abbrev Bodies : Type 0
  Bodies = (Stmt → Body) × (Block → Body)

  abbrev whole_body : Bodies
  whole_body = (fold-Stmt Body Body (check_stmt known) check_block, fold-Block Body Body (check_stmt known) check_block)

  abbrev body_level : Bodies → Bodies
  body_level f = (λ s. check_stmt known (map-Stmt Stmt Block Body Body f.0 f.1 (out-Stmt s)), λ b. check_block (map-Block Stmt Block Body Body f.0 f.1 (out-Block b)))

  abbrev body_levels : ℕ → Bodies
  body_levels zero = whole_body
  body_levels (suc n) = body_level (body_levels n)

  one_body_level : whole_body ≡ body_level whole_body
  one_body_level = λ i. (λ s. fold_out-Stmt Body Body (check_stmt known) check_block s i, λ b. fold_out-Block Body Body (check_stmt known) check_block b i)

  all_body_levels : (n : ℕ) → whole_body ≡ body_levels n
  all_body_levels zero = refl
  all_body_levels (suc n) = one_body_level ∙ ap body_level (all_body_levels n)

  abbrev pub peeled_block : ℕ → Block → Body
  peeled_block n = (body_levels n).1

  pub block_peeled : (n : ℕ) → checked_block known ≡ peeled_block n
  block_peeled n = ap (λ (v : Bodies). v.1) (all_body_levels n)
