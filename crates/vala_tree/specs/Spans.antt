-- The bytes that a node of the tree stands on.
use Rattle.vg_base.specs.declared.event.Span.{Span}
use Rattle.vala_tree.specs.declared.code.Expr.{Expr, out-Expr}
use Rattle.vala_tree.specs.declared.code.Expr.TheOpen.{Expr-F, Stmt-F}
use Rattle.vala_tree.specs.declared.code.ForStart.{ForStart}
use Rattle.vala_tree.specs.declared.code.Iteration.{Iteration}
use Rattle.vala_tree.specs.declared.code.Jump.{Jump}
use Rattle.vala_tree.specs.declared.code.Label.{Label}
use Rattle.vala_tree.specs.declared.code.LambdaBody.{LambdaBody}
use Rattle.vala_tree.specs.declared.code.Operation.{Operation}
use Rattle.vala_tree.specs.declared.code.Postfix.{Postfix}
use Rattle.vala_tree.specs.declared.code.Primary.{Primary}
use Rattle.vala_tree.specs.declared.code.Selection.{Selection}
use Rattle.vala_tree.specs.declared.code.Stmt.{Stmt, out-Stmt}
use Rattle.vala_tree.specs.declared.code.Argument.{Argument}
use Rattle.vala_tree.specs.declared.code.Arm.{Arm}
use Rattle.vala_tree.specs.declared.code.Block.{Block, out-Block}
use Rattle.vala_tree.specs.declared.code.Catch.{Catch}
use Rattle.vala_tree.specs.declared.code.Declarator.{Declarator}
use Rattle.vala_tree.specs.declared.code.For.{For}
use Rattle.vala_tree.specs.declared.code.Foreach.{Foreach}
use Rattle.vala_tree.specs.declared.code.If.{If}
use Rattle.vala_tree.specs.declared.code.Local.{Local}
use Rattle.vala_tree.specs.declared.code.NewArray.{NewArray}
use Rattle.vala_tree.specs.declared.code.Section.{Section}
use Rattle.vala_tree.specs.declared.code.Try.{Try}

-- one level of an expression, as `out-Expr` opens it
abbrev pub ExprLayer : Type 0
ExprLayer = Expr-F Expr ForStart Iteration Jump Label LambdaBody Operation Postfix Primary Selection Stmt Argument Arm Block Catch Declarator For Foreach If Local NewArray Section Try

-- one level of a statement, as `out-Stmt` opens it
abbrev pub StmtLayer : Type 0
StmtLayer = Stmt-F Expr ForStart Iteration Jump Label LambdaBody Operation Postfix Primary Selection Stmt Argument Arm Block Catch Declarator For Foreach If Local NewArray Section Try

abbrev pub expr_layer_span : ExprLayer → Span
expr_layer_span (Expr-F.Literal _ s) = s
expr_layer_span (Expr-F.Name _ s) = s
expr_layer_span (Expr-F.This s) = s
expr_layer_span (Expr-F.Base s) = s
expr_layer_span (Expr-F.Primary _ s) = s
expr_layer_span (Expr-F.Postfix _ s) = s
expr_layer_span (Expr-F.Operation _ s) = s
expr_layer_span (Expr-F.Lambda _ _ s) = s

unfoldable pub expr_span : Expr → Span
expr_span e = expr_layer_span (out-Expr e)

abbrev pub stmt_layer_span : StmtLayer → Span
stmt_layer_span (Stmt-F.Block b) = (out-Block b).span
stmt_layer_span (Stmt-F.Empty s) = s
stmt_layer_span (Stmt-F.Local _ s) = s
stmt_layer_span (Stmt-F.Expression _ s) = s
stmt_layer_span (Stmt-F.Selection _ s) = s
stmt_layer_span (Stmt-F.Iteration _ s) = s
stmt_layer_span (Stmt-F.Jump _ s) = s
stmt_layer_span (Stmt-F.Try _ s) = s

unfoldable pub stmt_span : Stmt → Span
stmt_span s = stmt_layer_span (out-Stmt s)
