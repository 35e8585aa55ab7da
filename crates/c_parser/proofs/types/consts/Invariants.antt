use Rattle.std.proofs.Common.{◌≡◌, ◌≤◌}
use Rattle.c_grammar.specs.Parts.{Consts}
use Rattle.c_nodes.specs.Rows.{row_of}
use Rattle.c_cursor.specs.Gives.{reads, room, seen_by, state}
use Rattle.c_parser.specs.Rows.{rows_behind}
use Rattle.c_cursor.specs.State.{bad}
use Rattle.c_parser.proofs.types.consts.Given as goal

abbrev pub invariant-consts : goal.invariant-consts
invariant-consts l = record {
  same : rows_behind l.row (reads Consts l.level l.parser) ≡ seen_by row_of (reads Consts l.level l.fn.parser);
  names : l.parser.names ≡ l.fn.parser.names;
  ends : l.parser.end ≡ l.fn.parser.end;
  stop : bad l.parser.cursor ≡ bad l.fn.parser.cursor;
  fewer : room (state l.parser) ≤ room (state l.fn.parser);
}

abbrev pub decreases-consts : goal.decreases-consts
decreases-consts l = room (state l.parser)
