use Rattle.std.proofs.Common.{◌≡◌, ◌<◌, false}
use Rattle.c_grammar.specs.Parts.{Body}
use Rattle.c_parser.specs.Bodies.{Grown}
use Rattle.c_cursor.specs.Gives.{reads, room, state}
use Rattle.c_parser.specs.Pieces.{locals_then}
use Rattle.c_cursor.specs.Scopes.{names_of}
use Rattle.c_cursor.specs.State.{bad}
use Rattle.c_parser.proofs.asks.Grammar.body.Given as goal

abbrev pub invariant-locals : goal.invariant-locals
invariant-locals g l = record {
  same : reads Body l.level l.fn.parser ≡ locals_then l.locals (reads Body l.level l.parser);
  scope : Grown (names_of l.fn.parser.names) (names_of l.parser.names);
  ends : l.parser.end ≡ l.fn.parser.end;
  stop : bad l.parser.cursor ≡ bad l.fn.parser.cursor;
  low : l.parser.is_stopped ≡ false → l.level < 65;
}

abbrev pub decreases-locals : goal.decreases-locals
decreases-locals g l = room (state l.parser)
