use Rattle.std.proofs.Common.{sym, ap, ◌∙◌}
use Rattle.vala_lexer.specs.Bytes.{is_ending}
use Rattle.vala_lexer.proofs.ByteLemmas.{place_step}
use Rattle.vala_lexer.proofs.bytes.place_of.Goals as goal

pub loop-i-preserved : goal.loop-i-preserved
loop-i-preserved c = place_step c.args.ending c.args.bytes.now c.loop-i.i _ c.loop-i-test.true (ap (is_ending c.args.ending) (sym c.after.ensures) ∙ sym c.is_ending.ensures ∙ c.if-is_ending.false) c.loop-i.invariant
