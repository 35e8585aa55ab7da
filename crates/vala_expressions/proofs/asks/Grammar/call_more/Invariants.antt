use Rattle.std.proofs.Common.{◌≡◌, ◌≤◌, ◌-◌}
use Rattle.vala_grammar.specs.Parts.{CallMore}
use Rattle.vala_grammar.specs.Read.{vala_reader}
use Rattle.vala_cursor.specs.Ahead.{rest, stop}
use Rattle.vala_expressions.proofs.asks.Grammar.call_more.Given as goal

abbrev pub invariant-words : goal.invariant-words
invariant-words g l = record {
  same : vala_reader (CallMore l.fn.first) l.fn.level (rest l.fn.cursor) ≡ vala_reader (CallMore l.left) l.level (rest l.cursor);
  kept : stop l.cursor ≡ stop l.fn.cursor;
  within : l.fn.level ≤ l.level;
}

abbrev pub decreases-words : goal.decreases-words
decreases-words g l = 201 - l.level
