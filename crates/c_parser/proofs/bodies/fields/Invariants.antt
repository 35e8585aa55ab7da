use Rattle.std.proofs.Common.{◌≡◌}
use Rattle.c_grammar.specs.Parts.{Fields}
use Rattle.c_cursor.specs.Gives.{reads, room, state}
use Rattle.c_cursor.specs.Reading.{behind}
use Rattle.c_cursor.specs.State.{bad}
use Rattle.c_parser.proofs.bodies.fields.Given as goal

abbrev pub invariant-fields : goal.invariant-fields
invariant-fields l = record {
  same : reads Fields l.level l.fn.parser ≡ behind l.fields (reads Fields l.level l.parser);
  names : l.parser.names ≡ l.fn.parser.names;
  ends : l.parser.end ≡ l.fn.parser.end;
  stop : bad l.parser.cursor ≡ bad l.fn.parser.cursor;
}

abbrev pub decreases-fields : goal.decreases-fields
decreases-fields l = room (state l.parser)
