use Rattle.std.proofs.Common.{sym, ap, ◌∙◌}
use Rattle.c_lexer.specs.Bytes.{ends_comment}
use Rattle.c_lexer.proofs.ByteLemmas.{comment_step}
use Rattle.c_lexer.proofs.bytes.comment_end.Goals as goal

pub loop-i-preserved : goal.loop-i-preserved
loop-i-preserved c = comment_step c.args.bytes.now c.loop-i.i _ c.loop-i-test.true (ap ends_comment (sym c.after.ensures) ∙ sym c.ends_comment.ensures ∙ c.if-ends_comment.false) c.loop-i.invariant
