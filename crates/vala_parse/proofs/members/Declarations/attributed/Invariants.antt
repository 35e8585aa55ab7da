use Rattle.std.proofs.Common.{◌≡◌, [], length}
use Rattle.vala_file_grammar.specs.Parts as p
use Rattle.vala_file_grammar.specs.Read.{file_reader}
use Rattle.vala_cursor.specs.Ahead.{rest, stop}
use Rattle.vala_parse.specs.Views.{place_in}
use Rattle.vala_parse.proofs.members.Declarations.attributed.Given as goal

abbrev pub invariant-attributes : goal.invariant-attributes
invariant-attributes g l = record {
  same : file_reader (p.Attributes (place_in l.place) l.fn.first) l.level (rest l.fn.cursor) ≡ file_reader (p.Attributes (place_in l.place) l.attributes) l.level (rest l.cursor);
  kept : stop l.cursor ≡ stop l.fn.cursor;
}

abbrev pub decreases-attributes : goal.decreases-attributes
decreases-attributes g l = length (rest l.cursor)
