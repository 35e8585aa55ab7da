use Rattle.std.proofs.Common.{◌≡◌, ◌≤◌, ◌-◌}
use Rattle.vala_grammar.specs.Parts.{Suffix}
use Rattle.vala_grammar.specs.Read.{vala_reader}
use Rattle.vala_cursor.specs.Ahead.{rest, stop}
use Rattle.vala_expressions.proofs.asks.Grammar.suffix.Given as goal

abbrev pub invariant-links : goal.invariant-links
invariant-links g l = record {
  same : vala_reader (Suffix l.fn.first) l.fn.level (rest l.fn.cursor) ≡ vala_reader (Suffix l.operand) l.level (rest l.cursor);
  kept : stop l.cursor ≡ stop l.fn.cursor;
  up : l.fn.level ≤ l.level;
  low : l.level ≤ 201;
}

abbrev pub decreases-links : goal.decreases-links
decreases-links g l = 201 - l.level
