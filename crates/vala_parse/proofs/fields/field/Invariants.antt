use Rattle.std.proofs.Common.{◌≡◌, [], length}
use Rattle.vala_file_grammar.specs.Parts as p
use Rattle.vala_file_grammar.specs.Read.{file_reader}
use Rattle.vala_cursor.specs.Ahead.{rest, stop}
use Rattle.vala_parse.proofs.fields.field.Given as goal

abbrev pub invariant-words : goal.invariant-words
invariant-words l = record {
  same : file_reader (p.FieldOf []) l.level (rest l.fn.cursor) ≡ file_reader (p.FieldOf l.words) l.level (rest l.cursor);
  kept : stop l.cursor ≡ stop l.fn.cursor;
}

abbrev pub decreases-words : goal.decreases-words
decreases-words l = length (rest l.cursor)
