use Rattle.std.proofs.Common.{◌≡◌, [], length}
use Rattle.vala_file_grammar.specs.Parts as p
use Rattle.vala_file_grammar.specs.Read.{file_reader}
use Rattle.vala_cursor.specs.Ahead.{rest, stop}
use Rattle.vala_parse.proofs.enums.codes.Given as goal

abbrev pub invariant-codes : goal.invariant-codes
invariant-codes l = record {
  same : file_reader (p.ErrorCodes []) l.level (rest l.fn.cursor) ≡ file_reader (p.MoreErrorCodes l.list) l.level (rest l.cursor);
  kept : stop l.cursor ≡ stop l.fn.cursor;
}

abbrev pub decreases-codes : goal.decreases-codes
decreases-codes l = length (rest l.cursor)
