use Rattle.std.proofs.Common.{◌≡◌, ◌-◌, List, [], ◌∷◌, length}
use Rattle.vala_grammar.specs.Parts.{MoreSteps}
use Rattle.vala_grammar.specs.Read.{vala_reader}
use Rattle.vala_cursor.specs.Ahead.{rest, stop}
use Rattle.vala_cursor.specs.Gets.{seen}
use Rattle.vala_parse_expr.proofs.statements.Statements.more_steps.Given as goal

abbrev pub invariant-items : goal.invariant-items
invariant-items g l = record {
  same : vala_reader (MoreSteps l.fn.start l.fn.test l.fn.first) l.level (rest l.fn.cursor) ≡ vala_reader (MoreSteps l.fn.start l.fn.test l.steps) l.level (rest l.cursor);
  start : l.start ≡ l.fn.start;
  test : l.test ≡ l.fn.test;
  kept : stop l.cursor ≡ stop l.fn.cursor;
}

abbrev pub decreases-items : goal.decreases-items
decreases-items g l = length (rest l.cursor)
