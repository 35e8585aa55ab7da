use Rattle.std.proofs.Common.{◌≡◌, false}
use Rattle.c_grammar.specs.Parts.{ItemsOf}
use Rattle.c_cursor.specs.Gives.{reads, room, state}
use Rattle.c_cursor.specs.Reading.{behind}
use Rattle.c_cursor.specs.State.{bad}
use Rattle.c_parser.proofs.items.items.Given as goal

abbrev pub invariant-items : goal.invariant-items
invariant-items l = record {
  same : reads (ItemsOf false) l.level l.fn.parser ≡ behind l.items (reads (ItemsOf l.line) l.level l.parser);
  ends : l.parser.end ≡ l.fn.parser.end;
  stop : bad l.parser.cursor ≡ bad l.fn.parser.cursor;
}

abbrev pub decreases-items : goal.decreases-items
decreases-items l = room (state l.parser)
