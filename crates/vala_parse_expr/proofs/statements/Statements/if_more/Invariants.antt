use Rattle.std.proofs.Common.{◌≡◌, ◌-◌, List, [], ◌∷◌, length}
use Rattle.vala_grammar.specs.Parts.{IfMore}
use Rattle.vala_grammar.specs.Read.{vala_reader}
use Rattle.vala_cursor.specs.Ahead.{rest, stop}
use Rattle.vala_parse_expr.specs.Statements.{adds, tail_of}
use Rattle.vala_parse_expr.proofs.statements.Statements.if_more.Given as goal

abbrev pub invariant-heads : goal.invariant-heads
invariant-heads g l = record {
  same : vala_reader IfMore l.level (rest l.fn.cursor) ≡ adds l.arms (tail_of l.head l.level (rest l.cursor));
  kept : stop l.cursor ≡ stop l.fn.cursor;
}

abbrev pub decreases-heads : goal.decreases-heads
decreases-heads g l = length (rest l.cursor)
