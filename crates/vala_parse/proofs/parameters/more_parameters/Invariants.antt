use Rattle.std.proofs.Common.{◌≡◌, [], length}
use Rattle.vala_file_grammar.specs.Parts as p
use Rattle.vala_file_grammar.specs.Read.{file_reader}
use Rattle.vala_cursor.specs.Ahead.{rest, stop}
use Rattle.vala_parse.specs.Views.{owner_in}
use Rattle.vala_parse.proofs.parameters.more_parameters.Given as goal

abbrev pub invariant-items : goal.invariant-items
invariant-items l = record {
  same : file_reader (p.MoreParameters (owner_in l.owner) l.fn.first) l.level (rest l.fn.cursor) ≡ file_reader (p.MoreParameters (owner_in l.owner) l.list) l.level (rest l.cursor);
  kept : stop l.cursor ≡ stop l.fn.cursor;
}

abbrev pub decreases-items : goal.decreases-items
decreases-items l = length (rest l.cursor)
