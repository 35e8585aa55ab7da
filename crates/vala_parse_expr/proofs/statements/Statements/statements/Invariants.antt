use Rattle.std.proofs.Common.{◌≡◌, ◌-◌, List, [], ◌∷◌, length}
use Rattle.vala_grammar.specs.Parts.{Statements}
use Rattle.vala_grammar.specs.Read.{vala_reader}
use Rattle.vala_cursor.specs.Ahead.{rest, stop}
use Rattle.vala_cursor.specs.Gets.{seen}
use Rattle.vala_parse_expr.proofs.statements.Statements.statements.Given as goal

abbrev pub invariant-statements : goal.invariant-statements
invariant-statements g l = record {
  same : vala_reader (Statements (seen l.opening) []) l.level (rest l.fn.cursor) ≡ vala_reader (Statements (seen l.opening) l.list) l.level (rest l.cursor);
  kept : stop l.cursor ≡ stop l.fn.cursor;
}

abbrev pub decreases-statements : goal.decreases-statements
decreases-statements g l = length (rest l.cursor)
