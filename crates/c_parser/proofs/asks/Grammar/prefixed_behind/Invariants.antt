use Rattle.std.proofs.Common.{◌≡◌, ◌&&◌, false}
use Rattle.c_cursor.specs.Gives.{room, state}
use Rattle.c_cursor.specs.Scopes.{names_of}
use Rattle.c_cursor.specs.State.{bad}
use Rattle.c_parser.specs.Pieces.{prefixed_of}
use Rattle.c_parser.specs.Values.{operators_of}
use Rattle.c_parser.proofs.asks.Grammar.prefixed_behind.Given as goal

abbrev pub invariant-operators : goal.invariant-operators
invariant-operators g l = record {
  same : operators_of l.parser.end (names_of l.parser.names) l.operators l.place l.constant l.level (state l.parser)
      ≡ prefixed_of l.fn.parser.end (names_of l.fn.parser.names) l.constant l.fn.first l.level (state l.fn.parser);
  value : (l.constant && l.place) ≡ false;
  names : names_of l.parser.names ≡ names_of l.fn.parser.names;
  ends : l.parser.end ≡ l.fn.parser.end;
  stop : bad l.parser.cursor ≡ bad l.fn.parser.cursor;
}

abbrev pub decreases-operators : goal.decreases-operators
decreases-operators g l = room (state l.parser)
