use Rattle.std.proofs.Common.{◌≡◌, ◌-◌, length}
use Rattle.vala_grammar.specs.Parts.{MoreArgs}
use Rattle.vala_grammar.specs.Read.{vala_reader}
use Rattle.vala_cursor.specs.Ahead.{rest, stop}
use Rattle.vala_expressions.proofs.asks.Grammar.more_args.Given as goal

abbrev pub invariant-items : goal.invariant-items
invariant-items g l = record {
  same : vala_reader (MoreArgs l.fn.first) l.level (rest l.fn.cursor) ≡ vala_reader (MoreArgs l.list) l.level (rest l.cursor);
  kept : stop l.cursor ≡ stop l.fn.cursor;
}

abbrev pub decreases-items : goal.decreases-items
decreases-items g l = 200 - length l.list
