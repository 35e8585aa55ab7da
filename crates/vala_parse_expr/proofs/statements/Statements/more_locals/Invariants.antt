use Rattle.std.proofs.Common.{◌≡◌, ◌-◌, List, [], ◌∷◌, length}
use Rattle.vala_grammar.specs.Parts.{MoreLocals}
use Rattle.vala_grammar.specs.Read.{vala_reader}
use Rattle.vala_cursor.specs.Ahead.{rest, stop}
use Rattle.vala_cursor.specs.Gets.{seen}
use Rattle.vala_parse_expr.proofs.statements.Statements.more_locals.Given as goal

abbrev pub invariant-items : goal.invariant-items
invariant-items g l = record {
  same : vala_reader (MoreLocals (l.fn.declared, l.fn.span) l.fn.first) l.level (rest l.fn.cursor) ≡ vala_reader (MoreLocals (l.fn.declared, l.fn.span) l.list) l.level (rest l.cursor);
  declared : l.declared ≡ l.fn.declared;
  span : l.span ≡ l.fn.span;
  kept : stop l.cursor ≡ stop l.fn.cursor;
}

abbrev pub decreases-items : goal.decreases-items
decreases-items g l = length (rest l.cursor)
