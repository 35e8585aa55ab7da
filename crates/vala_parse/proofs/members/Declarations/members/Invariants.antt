use Rattle.std.proofs.Common.{◌≡◌, [], length}
use Rattle.vala_file_grammar.specs.Parts as p
use Rattle.vala_file_grammar.specs.Read.{file_reader}
use Rattle.vala_cursor.specs.Ahead.{rest, stop}
use Rattle.vala_parse.specs.Views.{place_in}
use Rattle.vala_parse.proofs.members.Declarations.members.Given as goal

abbrev pub invariant-members : goal.invariant-members
invariant-members g l = record {
  same : file_reader (p.Members (place_in l.place) []) l.level (rest l.fn.cursor) ≡ file_reader (p.Members (place_in l.place) l.list) l.level (rest l.cursor);
  kept : stop l.cursor ≡ stop l.fn.cursor;
}

abbrev pub decreases-members : goal.decreases-members
decreases-members g l = length (rest l.cursor)
