use Rattle.std.proofs.Common.{◌≡◌, ◌-◌, List, [], ◌∷◌, length}
use Rattle.vala_grammar.specs.Parts.{TryMore}
use Rattle.vala_grammar.specs.Read.{vala_reader}
use Rattle.vala_cursor.specs.Ahead.{rest, stop}
use Rattle.vala_cursor.specs.Gets.{seen}
use Rattle.vala_parse_expr.proofs.statements.Statements.try_more.Given as goal

abbrev pub invariant-clauses : goal.invariant-clauses
invariant-clauses g l = record {
  same : vala_reader (TryMore (seen l.token) l.fn.body []) l.level (rest l.fn.cursor) ≡ vala_reader (TryMore (seen l.token) l.fn.body l.clauses) l.level (rest l.cursor);
  kept : stop l.cursor ≡ stop l.fn.cursor;
}

abbrev pub decreases-clauses : goal.decreases-clauses
decreases-clauses g l = length (rest l.cursor)
