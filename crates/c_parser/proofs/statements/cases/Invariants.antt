use Rattle.std.proofs.Common.{◌≡◌}
use Rattle.c_grammar.specs.Parts.{Cases}
use Rattle.c_cursor.specs.Gives.{reads, room, state}
use Rattle.c_parser.specs.Pieces.{cases_then}
use Rattle.c_cursor.specs.State.{bad}
use Rattle.c_parser.proofs.statements.cases.Given as goal

abbrev pub invariant-cases : goal.invariant-cases
invariant-cases l = record {
  same : reads Cases l.level l.fn.parser ≡ cases_then l.cases (reads Cases l.level l.parser);
  names : l.parser.names ≡ l.fn.parser.names;
  ends : l.parser.end ≡ l.fn.parser.end;
  stop : bad l.parser.cursor ≡ bad l.fn.parser.cursor;
}

abbrev pub decreases-cases : goal.decreases-cases
decreases-cases l = room (state l.parser)
