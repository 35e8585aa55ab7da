use Rattle.vala_parse_expr.proofs.Progress.{statement_moves}
use Rattle.vala_parse_expr.proofs.statements.Statements.statements.Goals as goal

pub statements-smaller : goal.statements-smaller
statements-smaller g c = statement_moves _ _ _ _ c.in_ok-next.ensures.tree
