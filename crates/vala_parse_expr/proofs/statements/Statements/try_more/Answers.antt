use Rattle.vala_cursor.specs.Ahead.{rest}
use Rattle.vala_parse_expr.proofs.Progress.{catch_moves}
use Rattle.vala_parse_expr.proofs.statements.Statements.try_more.Goals as goal

-- the clause is no longer left
pub clauses-smaller : goal.clauses-smaller
clauses-smaller g c = catch_moves c.args.level (rest c.clauses.cursor) c.in_ok-catch_of.field-0 (rest c.catch_of.new.cursor) c.in_ok-catch_of.ensures.tree
