use Rattle.vala_cursor.specs.Ahead.{rest}
use Rattle.vala_parse_expr.proofs.Progress.{label_moves, statement_moves}
use Rattle.vala_parse_expr.proofs.statements.Statements.sections.Goals as goal

-- the label is no longer left
pub parts-smaller-then-is_among : goal.parts-smaller-then-is_among
parts-smaller-then-is_among g c = label_moves c.args.level (rest c.parts.cursor) _ (rest c.any_label.new.cursor) c.in_ok-next.ensures.tree

-- the statement is no longer left
pub parts-smaller : goal.parts-smaller
parts-smaller g c = statement_moves c.args.level (rest c.parts.cursor) _ (rest c.deep_any_stmt.new.cursor) c.in_ok-next-2.ensures.tree
