use Rattle.std.proofs.Common.{◌≡◌, ◌-◌, length}
use Rattle.vala_grammar.specs.Parts.{MoreItems}
use Rattle.vala_grammar.specs.Read.{vala_reader}
use Rattle.vala_cursor.specs.Ahead.{rest, stop}
use Rattle.vala_expressions.proofs.asks.Grammar.more_items.Given as goal

abbrev pub invariant-items : goal.invariant-items
invariant-items g l = record {
  same : vala_reader (MoreItems l.fn.first) l.level (rest l.fn.cursor) ≡ vala_reader (MoreItems l.list) l.level (rest l.cursor);
  kept : stop l.cursor ≡ stop l.fn.cursor;
}

abbrev pub decreases-items : goal.decreases-items
decreases-items g l = length (rest l.cursor)
