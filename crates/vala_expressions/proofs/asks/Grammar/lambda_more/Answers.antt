use Rattle.std.proofs.Common.{arith}
use Rattle.vala_grammar.specs.declared.sort.Sort.TheVariants as s
use Rattle.vala_grammar.specs.Tests.{is}
use Rattle.vala_cursor.specs.Ahead.{rest}
use Rattle.vala_cursor.specs.Gets.{seen}
use Rattle.vala_expressions.proofs.Progress.{got_moves, parameter_moves}
use Rattle.vala_expressions.proofs.asks.Grammar.lambda_more.Goals as goal

-- the comma and the parameter are no longer left
pub parameters-smaller : goal.parameters-smaller
parameters-smaller g c = omega (
  arith,
  got_moves (is s.Comma) 0 c.args.level (rest c.parameters.cursor) (seen c.in_ok-expect.field-0) (rest c.expect.new.self) c.in_ok-expect.ensures.token,
  parameter_moves c.parameters.parameters c.args.level (rest c.expect.new.self) c.in_ok-parameters-2.parameters (rest c.parameter-in-parameters.new.cursor) c.in_ok-parameters-2.ensures.tree,
)
