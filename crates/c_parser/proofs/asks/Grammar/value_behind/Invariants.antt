use Rattle.std.proofs.Common.{◌≡◌}
use Rattle.c_cursor.specs.Gives.{room, state}
use Rattle.c_cursor.specs.Scopes.{names_of}
use Rattle.c_cursor.specs.State.{bad}
use Rattle.c_parser.specs.Values.{choosing_of, conditional_of}
use Rattle.c_parser.proofs.asks.Grammar.value_behind.Given as goal

abbrev pub invariant-choices : goal.invariant-choices
invariant-choices g l = record {
  same : conditional_of l.parser.end (names_of l.parser.names) l.constant l.choices l.test l.level (state l.parser)
      ≡ choosing_of l.fn.parser.end (names_of l.fn.parser.names) l.constant l.fn.first l.level (state l.fn.parser);
  names : names_of l.parser.names ≡ names_of l.fn.parser.names;
  ends : l.parser.end ≡ l.fn.parser.end;
  stop : bad l.parser.cursor ≡ bad l.fn.parser.cursor;
}

abbrev pub decreases-choices : goal.decreases-choices
decreases-choices g l = room (state l.parser)
