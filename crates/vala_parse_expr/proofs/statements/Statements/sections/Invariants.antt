use Rattle.std.proofs.Common.{◌≡◌, ◌-◌, List, [], ◌∷◌, length}
use Rattle.vala_grammar.specs.Parts.{Sections}
use Rattle.vala_grammar.specs.Read.{vala_reader}
use Rattle.vala_cursor.specs.Ahead.{rest, stop}
use Rattle.vala_cursor.specs.Gets.{seen}
use Rattle.vala_parse_expr.proofs.statements.Statements.sections.Given as goal

abbrev pub invariant-parts : goal.invariant-parts
invariant-parts g l = record {
  same : vala_reader (Sections (seen l.token) l.fn.value [] l.fn.label [] []) l.level (rest l.fn.cursor) ≡ vala_reader (Sections (seen l.token) l.fn.value l.parts.done l.parts.first l.parts.others l.parts.statements) l.level (rest l.cursor);
  kept : stop l.cursor ≡ stop l.fn.cursor;
}

abbrev pub decreases-parts : goal.decreases-parts
decreases-parts g l = length (rest l.cursor)
