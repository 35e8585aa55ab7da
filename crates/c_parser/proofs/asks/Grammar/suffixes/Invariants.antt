use Rattle.std.proofs.Common.{◌≡◌, false}
use Rattle.c_grammar.specs.Parts.{Suffixes}
use Rattle.c_cursor.specs.Reading.{behind}
use Rattle.c_cursor.specs.Gives.{reads, room, state}
use Rattle.c_cursor.specs.Scopes.{names_of}
use Rattle.c_cursor.specs.State.{bad}
use Rattle.c_parser.proofs.asks.Grammar.suffixes.Given as goal

abbrev pub invariant-suffixes : goal.invariant-suffixes
invariant-suffixes g l = record {
  same : behind l.suffixes (reads (Suffixes l.dot false) l.level l.parser) ≡ reads (Suffixes l.fn.dot l.must) l.level l.fn.parser;
  names : names_of l.parser.names ≡ names_of l.fn.parser.names;
  ends : l.parser.end ≡ l.fn.parser.end;
  stop : bad l.parser.cursor ≡ bad l.fn.parser.cursor;
}

abbrev pub decreases-suffixes : goal.decreases-suffixes
decreases-suffixes g l = room (state l.parser)
