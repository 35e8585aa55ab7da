use Rattle.std.proofs.Common.{◌≡◌, ◌+◌}
use Rattle.c_grammar.specs.Parts.{MoreArguments}
use Rattle.c_cursor.specs.Reading.{behind}
use Rattle.c_cursor.specs.Gives.{reads, room, state}
use Rattle.c_cursor.specs.Scopes.{names_of}
use Rattle.c_cursor.specs.State.{bad}
use Rattle.c_parser.proofs.asks.Grammar.more_arguments.Given as goal

abbrev pub invariant-arguments : goal.invariant-arguments
invariant-arguments g l = record {
  same : behind l.arguments (reads MoreArguments (l.level + 1) l.parser) ≡ behind l.fn.first (reads MoreArguments (l.level + 1) l.fn.parser);
  names : names_of l.parser.names ≡ names_of l.fn.parser.names;
  ends : l.parser.end ≡ l.fn.parser.end;
  stop : bad l.parser.cursor ≡ bad l.fn.parser.cursor;
}

abbrev pub decreases-arguments : goal.decreases-arguments
decreases-arguments g l = room (state l.parser)
