use Rattle.std.proofs.Common.{◌≡◌, [], length}
use Rattle.vala_file_grammar.specs.Parts as p
use Rattle.vala_file_grammar.specs.Read.{file_reader}
use Rattle.vala_cursor.specs.Ahead.{rest, stop}
use Rattle.vala_parse.proofs.files.file_members.Given as goal

abbrev pub invariant-members : goal.invariant-members
invariant-members l = record {
  same : file_reader (p.FileMembers l.fn.usings []) 0 (rest l.fn.cursor) ≡ file_reader (p.FileMembers l.fn.usings l.members) 0 (rest l.cursor);
  kept : stop l.cursor ≡ stop l.fn.cursor;
}

abbrev pub decreases-members : goal.decreases-members
decreases-members l = length (rest l.cursor)
