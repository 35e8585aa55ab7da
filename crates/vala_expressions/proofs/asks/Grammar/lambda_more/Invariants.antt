use Rattle.std.proofs.Common.{◌≡◌, length}
use Rattle.vala_grammar.specs.Parts.{LambdaMore}
use Rattle.vala_grammar.specs.Read.{vala_reader}
use Rattle.vala_cursor.specs.Ahead.{rest, stop}
use Rattle.vala_expressions.specs.Brackets.{parameters_then}
use Rattle.vala_expressions.proofs.asks.Grammar.lambda_more.Given as goal

abbrev pub invariant-parameters : goal.invariant-parameters
invariant-parameters g l = record {
  same : vala_reader (LambdaMore l.fn.first) l.level (rest l.fn.cursor) ≡ parameters_then l.parameters l.level (rest l.cursor);
  kept : stop l.cursor ≡ stop l.fn.cursor;
}

abbrev pub decreases-parameters : goal.decreases-parameters
decreases-parameters g l = length (rest l.cursor)
