use Rattle.std.proofs.Common.{◌≡◌, ◌≤◌, [], length}
use Rattle.vala_file_grammar.specs.Parts as p
use Rattle.vala_file_grammar.specs.Read.{file_reader}
use Rattle.vala_cursor.specs.Ahead.{rest, stop}
use Rattle.vala_parse.proofs.files.more_usings.Given as goal

abbrev pub invariant-names : goal.invariant-names
invariant-names l = record {
  same : file_reader (p.MoreUsings l.fn.first) 0 (rest l.fn.cursor) ≡ file_reader (p.MoreUsings l.usings) 0 (rest l.cursor);
  shorter : length (rest l.cursor) ≤ length (rest l.fn.cursor);
  kept : stop l.cursor ≡ stop l.fn.cursor;
}

abbrev pub decreases-names : goal.decreases-names
decreases-names l = length (rest l.cursor)
