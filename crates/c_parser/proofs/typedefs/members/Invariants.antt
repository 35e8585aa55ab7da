use Rattle.std.proofs.Common.{◌≡◌}
use Rattle.c_tree.specs.Names.{with_members}
use Rattle.c_grammar.specs.Parts.{Members, MoreMembers}
use Rattle.c_cursor.specs.Gives.{reads, room, state}
use Rattle.c_cursor.specs.Reading.{behind, read}
use Rattle.c_cursor.specs.Scopes.{names_of}
use Rattle.c_cursor.specs.State.{bad}
use Rattle.c_parser.proofs.typedefs.members.Given as goal

abbrev pub invariant-members : goal.invariant-members
invariant-members l = record {
  same : reads Members l.level l.fn.parser ≡ behind l.members (read l.fn.parser.end (names_of l.fn.parser.names) MoreMembers l.level (state l.parser));
  names : names_of l.parser.names ≡ with_members (names_of l.fn.parser.names) l.members;
  ends : l.parser.end ≡ l.fn.parser.end;
  stop : bad l.parser.cursor ≡ bad l.fn.parser.cursor;
}

abbrev pub decreases-members : goal.decreases-members
decreases-members l = room (state l.parser)
