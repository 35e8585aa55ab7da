use Rattle.std.proofs.Common.{◌≡◌, ◌<◌, false}
use Rattle.c_grammar.specs.Parts.{Statements}
use Rattle.c_cursor.specs.Gives.{reads, room, state}
use Rattle.c_cursor.specs.Reading.{behind, first_then}
use Rattle.c_cursor.specs.Scopes.{names_of}
use Rattle.c_cursor.specs.State.{bad}
use Rattle.c_parser.proofs.asks.Grammar.statements.Given as goal

abbrev pub invariant-statements : goal.invariant-statements
invariant-statements g l = record {
  same : first_then l.fn.first (reads Statements l.level l.fn.parser) ≡ behind l.statements (reads Statements l.level l.parser);
  names : names_of l.parser.names ≡ names_of l.fn.parser.names;
  ends : l.parser.end ≡ l.fn.parser.end;
  stop : bad l.parser.cursor ≡ bad l.fn.parser.cursor;
  low : l.parser.is_stopped ≡ false → l.level < 65;
}

abbrev pub decreases-statements : goal.decreases-statements
decreases-statements g l = room (state l.parser)
