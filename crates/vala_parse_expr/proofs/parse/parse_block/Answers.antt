use Rattle.std.proofs.Common.{◌∙◌}
use Rattle.vala_grammar.specs.Parts.{BlockOf}
use Rattle.vala_parse_expr.proofs.Levels.{block_at_most}
use Rattle.vala_parse_expr.proofs.Limited.{from_limit}
use Rattle.vala_parse_expr.proofs.Unboxed.{from_boxed}
use Rattle.vala_parse_expr.proofs.parse.parse_block.Goals as goal

pub returns-in-Ok : goal.returns-in-Ok
returns-in-Ok c = from_boxed BlockOf c.args.level _ _ _ _ _ _ c.into_inner.ensures c.new-cursor.ensures c.lexer.ensures (block_at_most c.args.level _ c.min.ensures _ ∙ c.in-Ok.ensures.tree) c.in-Ok.ensures.kept

pub returns-in-Err : goal.returns-in-Err
returns-in-Err c = from_limit BlockOf c.args.level _ (block_at_most c.args.level _ c.min.ensures) _ _ _ _ _ _ _ c.new-cursor.ensures c.lexer.ensures c.end-end.ensures c.fault.ensures c.in-Err.ensures.tree c.in-Err.ensures.kept
