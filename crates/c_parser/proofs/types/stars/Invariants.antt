use Rattle.std.proofs.Common.{◌≡◌, false}
use Rattle.c_grammar.specs.Parts.{Stars}
use Rattle.c_cursor.specs.Gives.{reads, room, state}
use Rattle.c_parser.specs.Rows.{no_stars, stars_behind}
use Rattle.c_cursor.specs.State.{bad}
use Rattle.c_parser.proofs.types.stars.Given as goal

abbrev pub invariant-stars : goal.invariant-stars
invariant-stars l = record {
  same : stars_behind l.stars (reads (Stars false) l.level l.parser) ≡ stars_behind no_stars (reads (Stars l.fn.must) l.level l.fn.parser);
  names : l.parser.names ≡ l.fn.parser.names;
  ends : l.parser.end ≡ l.fn.parser.end;
  stop : bad l.parser.cursor ≡ bad l.fn.parser.cursor;
}

abbrev pub decreases-stars : goal.decreases-stars
decreases-stars l = room (state l.parser)
