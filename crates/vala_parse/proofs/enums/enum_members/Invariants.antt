use Rattle.std.proofs.Common.{◌≡◌, [], length}
use Rattle.vala_file_grammar.specs.Parts as p
use Rattle.vala_file_grammar.specs.Read.{file_reader}
use Rattle.vala_cursor.specs.Ahead.{rest, stop}
use Rattle.vala_parse.proofs.enums.enum_members.Given as goal

abbrev pub invariant-members : goal.invariant-members
invariant-members l = record {
  same : file_reader (p.EnumItems []) l.level (rest l.fn.cursor) ≡ file_reader (p.EnumItems l.list) l.level (rest l.cursor);
  kept : stop l.cursor ≡ stop l.fn.cursor;
}

abbrev pub decreases-members : goal.decreases-members
decreases-members l = length (rest l.cursor)
