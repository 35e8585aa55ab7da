use Rattle.std.proofs.Common.{◌≡◌, [], length}
use Rattle.vala_file_grammar.specs.Parts as p
use Rattle.vala_file_grammar.specs.Read.{file_reader}
use Rattle.vala_cursor.specs.Ahead.{rest, stop}
use Rattle.vala_parse.proofs.files.usings.Given as goal

abbrev pub invariant-usings : goal.invariant-usings
invariant-usings l = record {
  same : file_reader (p.Usings []) 0 (rest l.fn.cursor) ≡ file_reader (p.Usings l.usings) 0 (rest l.cursor);
  kept : stop l.cursor ≡ stop l.fn.cursor;
}

abbrev pub decreases-usings : goal.decreases-usings
decreases-usings l = length (rest l.cursor)
