use Rattle.vala_grammar.specs.Parts.{AnyType}
use Rattle.vala_cursor.proofs.Parsed.{from_tree, from_fault}
use Rattle.vala_parse_expr.proofs.parse.parse_type.Goals as goal

pub returns-in-Ok : goal.returns-in-Ok
returns-in-Ok c = from_tree AnyType c.args.level _ _ _ _ _ c.new-cursor.ensures c.lexer.ensures c.in-Ok.ensures.tree c.in-Ok.ensures.kept

pub returns-in-Err : goal.returns-in-Err
returns-in-Err c = from_fault AnyType c.args.level _ _ _ _ _ _ _ c.new-cursor.ensures c.lexer.ensures c.end-end.ensures c.fault.ensures c.in-Err.ensures.tree c.in-Err.ensures.kept
