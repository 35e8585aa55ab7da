use Rattle.std.proofs.Common.{◌≡◌, [], length}
use Rattle.vala_file_grammar.specs.Parts as p
use Rattle.vala_file_grammar.specs.Read.{file_reader}
use Rattle.vala_cursor.specs.Ahead.{rest, stop}
use Rattle.vala_parse.proofs.accessors.accessors.Given as goal

abbrev pub invariant-accessors : goal.invariant-accessors
invariant-accessors l = record {
  same : file_reader (p.Accessors []) l.level (rest l.fn.cursor) ≡ file_reader (p.Accessors l.list) l.level (rest l.cursor);
  kept : stop l.cursor ≡ stop l.fn.cursor;
}

abbrev pub decreases-accessors : goal.decreases-accessors
decreases-accessors l = length (rest l.cursor)
