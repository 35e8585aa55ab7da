use Rattle.std.proofs.Common.{◌≡◌, ◌≤◌, ◌+◌, ◌-◌}
use Rattle.vala_grammar.specs.Parts.{Rest}
use Rattle.vala_grammar.specs.Read.{vala_reader}
use Rattle.vala_cursor.specs.Ahead.{rest, stop}
use Rattle.vala_expressions.proofs.asks.Grammar.rest_of_tier.Given as goal

abbrev pub invariant-operators : goal.invariant-operators
invariant-operators g l = record {
  same : vala_reader (Rest l.fn.depth l.tier l.fn.first) l.fn.level (rest l.fn.cursor) ≡ vala_reader (Rest l.depth l.tier l.joined) l.level (rest l.cursor);
  kept : stop l.cursor ≡ stop l.fn.cursor;
  moved : l.fn.level + l.depth ≡ l.level + l.fn.depth;
  up : l.fn.level ≤ l.level;
  low : l.level ≤ 201;
}

abbrev pub decreases-operators : goal.decreases-operators
decreases-operators g l = 201 - l.level
