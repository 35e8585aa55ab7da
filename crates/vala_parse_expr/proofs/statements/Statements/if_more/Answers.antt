use Rattle.std.proofs.Common.{arith}
use Rattle.vala_grammar.specs.declared.sort.Sort.TheVariants as s
use Rattle.vala_grammar.specs.Tests.{is}
use Rattle.vala_cursor.specs.Ahead.{rest}
use Rattle.vala_cursor.specs.Gets.{seen}
use Rattle.vala_expressions.proofs.Progress.{got_moves}
use Rattle.vala_parse_expr.proofs.Progress.{behind_takes}
use Rattle.vala_parse_expr.proofs.statements.Statements.if_more.Goals as goal

-- `else` is no longer left
pub heads-smaller : goal.heads-smaller
heads-smaller g c = omega (
  arith,
  got_moves (is s.Else) 0 c.args.level (rest c.heads.cursor) (seen c.in_ok-expect.field-0) (rest c.expect.new.self) c.in_ok-expect.ensures.token,
  behind_takes c.args.level (rest c.expect.new.self) _ (rest c.behind_else.new.cursor) c.in_ok-next.ensures.tree,
)
