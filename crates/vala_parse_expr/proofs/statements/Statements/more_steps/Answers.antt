use Rattle.std.proofs.Common.{arith}
use Rattle.vala_grammar.specs.declared.sort.Sort.TheVariants as s
use Rattle.vala_grammar.specs.Tests.{is}
use Rattle.vala_cursor.specs.Ahead.{rest}
use Rattle.vala_cursor.specs.Gets.{seen}
use Rattle.vala_expressions.proofs.Progress.{got_moves, whole_moves}
use Rattle.vala_parse_expr.proofs.statements.Statements.more_steps.Goals as goal

-- the comma and the expression are no longer left
pub items-smaller : goal.items-smaller
items-smaller g c = omega (
  arith,
  got_moves (is s.Comma) 0 c.args.level (rest c.items.cursor) (seen c.in_ok-expect.field-0) (rest c.expect.new.self) c.in_ok-expect.ensures.token,
  whole_moves c.args.level (rest c.expect.new.self) c.in_ok-deep_whole.field-0 (rest c.deep_whole.new.cursor) c.in_ok-deep_whole.ensures.tree,
)
