use Rattle.std.proofs.Common.{◌≡◌, [], length}
use Rattle.vala_file_grammar.specs.Parts as p
use Rattle.vala_file_grammar.specs.Read.{file_reader}
use Rattle.vala_cursor.specs.Ahead.{rest, stop}
use Rattle.vala_parse.specs.Declarations.{types_behind}
use Rattle.vala_parse.proofs.lists.type_list.Given as goal

abbrev pub invariant-types : goal.invariant-types
invariant-types l = record {
  same : file_reader (p.TypeList []) l.level (rest l.fn.cursor) ≡ types_behind l.list l.level (rest l.cursor);
  kept : stop l.cursor ≡ stop l.fn.cursor;
}

abbrev pub decreases-types : goal.decreases-types
decreases-types l = length (rest l.cursor)
