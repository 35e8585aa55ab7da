use Rattle.std.proofs.Common.{◌≡◌, ◌-◌}
use Rattle.vala_grammar.specs.Parts.{NameMore}
use Rattle.vala_grammar.specs.Read.{vala_reader}
use Rattle.vala_cursor.specs.Ahead.{rest, stop}
use Rattle.vala_expressions.proofs.names.name_more.Given as goal

abbrev pub invariant-words : goal.invariant-words
invariant-words l = record {
  same : vala_reader (NameMore l.fn.first) l.fn.level (rest l.fn.cursor) ≡ vala_reader (NameMore l.name) l.level (rest l.cursor);
  kept : stop l.cursor ≡ stop l.fn.cursor;
}

abbrev pub decreases-words : goal.decreases-words
decreases-words l = 201 - l.level
