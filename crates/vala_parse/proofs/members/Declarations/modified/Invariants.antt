use Rattle.std.proofs.Common.{◌≡◌, [], length}
use Rattle.vala_file_grammar.specs.Parts as p
use Rattle.vala_file_grammar.specs.Read.{file_reader}
use Rattle.vala_cursor.specs.Ahead.{rest, stop}
use Rattle.vala_parse.specs.Views.{place_in}
use Rattle.vala_parse.proofs.members.Declarations.modified.Given as goal

abbrev pub invariant-words : goal.invariant-words
invariant-words g l = record {
  same : file_reader (p.Modifiers (place_in l.place) l.fn.attributes []) l.level (rest l.fn.cursor) ≡ file_reader (p.Modifiers (place_in l.place) l.fn.attributes l.words) l.level (rest l.cursor);
  kept : stop l.cursor ≡ stop l.fn.cursor;
}

abbrev pub decreases-words : goal.decreases-words
decreases-words g l = length (rest l.cursor)
