-- Folds of trees, one level after another: so that they compute.
use Rattle.std.proofs.Common.{◌≡◌, ◌∙◌, refl, ap, ℕ, zero, suc}
use Rattle.c_tree.specs.declared.code.Expr.{Expr, out-Expr}
use Rattle.c_tree.specs.declared.code.Shape.{Shape, out-Shape}
use Rattle.c_tree.specs.declared.code.Suffix.{Suffix, out-Suffix}
use Rattle.c_tree.specs.declared.code.Choice.{Choice, out-Choice}
use Rattle.c_tree.specs.declared.code.Link.{Link, out-Link}
use Rattle.c_tree.specs.declared.code.Shape.TheOpen.{Shape-F, Suffix-F, Choice-F, Expr-F, Link-F}
use Rattle.c_tree.specs.declared.code.Shape.TheFolds.{fold-Expr, fold-Shape, fold-Suffix, fold-Choice, fold-Link, fold_out-Expr, fold_out-Shape, fold_out-Suffix, fold_out-Choice, fold_out-Link, map-Expr, map-Shape, map-Suffix, map-Choice, map-Link}
use Rattle.c_tree.specs.declared.code.Stmt.{Stmt, out-Stmt}
use Rattle.c_tree.specs.declared.code.Stmt.TheOpen.{Stmt-F, Block-F}
use Rattle.c_tree.specs.declared.code.Block.{Block, out-Block}
use Rattle.c_tree.specs.declared.code.Stmt.TheFolds.{fold-Stmt, fold-Block, fold_out-Stmt, fold_out-Block, map-Stmt, map-Block}

-- values
module _ (A B C D E : Type 0) (shape : Shape-F A B C D E → A) (suffix : Suffix-F A B C D E → B) (choice : Choice-F A B C D E → C) (expr : Expr-F A B C D E → D) (link : Link-F A B C D E → E) where
  abbrev Views : Type 0
  Views = (Shape → A) × (Suffix → B) × (Choice → C) × (Expr → D) × (Link → E)

  abbrev whole : Views
  whole = (
    fold-Shape A B C D E shape suffix choice expr link,
    fold-Suffix A B C D E shape suffix choice expr link,
    fold-Choice A B C D E shape suffix choice expr link,
    fold-Expr A B C D E shape suffix choice expr link,
    fold-Link A B C D E shape suffix choice expr link,
  )

  abbrev level : Views → Views
  level f = (
    λ s. shape (map-Shape Shape Suffix Choice Expr Link A B C D E f.0 f.1 f.2 f.3 f.4 (out-Shape s)),
    λ s. suffix (map-Suffix Shape Suffix Choice Expr Link A B C D E f.0 f.1 f.2 f.3 f.4 (out-Suffix s)),
    λ s. choice (map-Choice Shape Suffix Choice Expr Link A B C D E f.0 f.1 f.2 f.3 f.4 (out-Choice s)),
    λ s. expr (map-Expr Shape Suffix Choice Expr Link A B C D E f.0 f.1 f.2 f.3 f.4 (out-Expr s)),
    λ s. link (map-Link Shape Suffix Choice Expr Link A B C D E f.0 f.1 f.2 f.3 f.4 (out-Link s)),
  )

  abbrev levels : ℕ → Views
  levels zero = whole
  levels (suc n) = level (levels n)

  one_level : whole ≡ level whole
  one_level = λ i. (
    λ s. fold_out-Shape A B C D E shape suffix choice expr link s i,
    λ s. fold_out-Suffix A B C D E shape suffix choice expr link s i,
    λ s. fold_out-Choice A B C D E shape suffix choice expr link s i,
    λ s. fold_out-Expr A B C D E shape suffix choice expr link s i,
    λ s. fold_out-Link A B C D E shape suffix choice expr link s i,
  )

  all_levels : (n : ℕ) → whole ≡ levels n
  all_levels zero = refl
  all_levels (suc n) = one_level ∙ ap level (all_levels n)

  -- so many levels of a value
  abbrev pub peeled : ℕ → Expr → D
  peeled n = (levels n).3

  pub is_peeled : (n : ℕ) → fold-Expr A B C D E shape suffix choice expr link ≡ peeled n
  is_peeled n = ap (λ (v : Views). v.3) (all_levels n)

-- statements
module _ (A B : Type 0) (stmt : Stmt-F A B → A) (block : Block-F A B → B) where
  abbrev Bodies : Type 0
  Bodies = (Stmt → A) × (Block → B)

  abbrev whole_body : Bodies
  whole_body = (fold-Stmt A B stmt block, fold-Block A B stmt block)

  abbrev body_level : Bodies → Bodies
  body_level f = (λ s. stmt (map-Stmt Stmt Block A B f.0 f.1 (out-Stmt s)), λ b. block (map-Block Stmt Block A B f.0 f.1 (out-Block b)))

  abbrev body_levels : ℕ → Bodies
  body_levels zero = whole_body
  body_levels (suc n) = body_level (body_levels n)

  one_body_level : whole_body ≡ body_level whole_body
  one_body_level = λ i. (λ s. fold_out-Stmt A B stmt block s i, λ b. fold_out-Block A B stmt block b i)

  all_body_levels : (n : ℕ) → whole_body ≡ body_levels n
  all_body_levels zero = refl
  all_body_levels (suc n) = one_body_level ∙ ap body_level (all_body_levels n)

  abbrev pub peeled_block : ℕ → Block → B
  peeled_block n = (body_levels n).1

  pub is_peeled_block : (n : ℕ) → fold-Block A B stmt block ≡ peeled_block n
  is_peeled_block n = ap (λ (v : Bodies). v.1) (all_body_levels n)
