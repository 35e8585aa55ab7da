use Rattle.vala_cursor.specs.Ahead.{rest}
use Rattle.vala_parse_expr.proofs.Levels.{gets_too}
use Rattle.vala_parse_expr.proofs.LoopLaws.{declared_start}
use Rattle.vala_parse_expr.proofs.statements.Statements.for_start.Goals as goal

pub returns-in-Declared-clause-tree : goal.returns-in-Declared-clause-tree
returns-in-Declared-clause-tree g c = gets_too _ _ _ _ (declared_start c.args.beginning _ _ c.args.level (rest c.args.cursor.now) c.in-Declared.is) c.for_declared.ensures.tree
