use Rattle.std.proofs.Common.{◌≡◌}
use Rattle.c_grammar.specs.Parts.{MoreParameters}
use Rattle.c_cursor.specs.Gives.{reads, room, state}
use Rattle.c_parser.specs.Items.{texts}
use Rattle.c_parser.specs.Pieces.{named_texts}
use Rattle.c_cursor.specs.Reading.{behind}
use Rattle.c_cursor.specs.State.{bad}
use Rattle.c_parser.proofs.parameters.Parameters.push_more.Given as goal

abbrev pub invariant-parameters : goal.invariant-parameters
invariant-parameters l = record {
  same : behind l.fn.self.list (reads MoreParameters l.level l.fn.parser) ≡ behind l.self.list (reads MoreParameters l.level l.parser);
  named : named_texts l.self.list ≡ texts l.self.names.items;
  names : l.parser.names ≡ l.fn.parser.names;
  ends : l.parser.end ≡ l.fn.parser.end;
  stop : bad l.parser.cursor ≡ bad l.fn.parser.cursor;
}

abbrev pub decreases-parameters : goal.decreases-parameters
decreases-parameters l = room (state l.parser)
