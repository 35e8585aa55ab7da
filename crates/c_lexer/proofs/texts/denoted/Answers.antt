use Rattle.std.proofs.Common.{◌<◌, sym, ap, ◌∙◌, arith}
use Rattle.c_lexer.specs.Texts.{escape}
use Rattle.c_lexer.proofs.TextLemmas.{denoted_taken, denoted_more, denoted_escaped, denoted_nothing}
use Rattle.c_lexer.proofs.texts.denoted.Goals.{then-escaped-gt0, else-escaped-gt0+then-byte-ne92+in_ok-push, else-escaped-gt0+else-byte-ne92+in-Some+in_ok-push-2, else-escaped-gt0+else-byte-ne92+in_default}
use Rattle.c_lexer.proofs.texts.denoted.Goals as goal

pub loop-i-preserved : goal.loop-i-preserved
loop-i-preserved c =
    elim c.if-escaped-gt0.branch [
      | then-escaped-gt0 w ↦ rw (w.escaped-is, w.out-is) (denoted_taken c.args.inside.now c.loop-i.i _ c.loop-i.out.items c.loop-i-test.true c.loop-i.escaped _ (let some : 0 < c.loop-i.escaped = w.if-escaped-gt0.true in omega arith) c.loop-i.invariant)
      | else-escaped-gt0+then-byte-ne92+in_ok-push w ↦ rw (w.escaped-is, w.out-is, w.in_ok-push.ensures) (denoted_more c.args.inside.now c.loop-i.i _ c.loop-i.out.items c.loop-i-test.true c.loop-i.escaped (omega arith) w.if-byte-ne92.true c.loop-i.invariant)
      | else-escaped-gt0+else-byte-ne92+in-Some+in_ok-push-2 w ↦ rw (w.escaped-is, w.out-is, w.in_ok-push-2.ensures) (denoted_escaped c.args.inside.now c.loop-i.i _ c.loop-i.out.items c.loop-i-test.true c.loop-i.escaped w.in-Some.escape (omega arith) w.if-byte-ne92.false (ap escape (sym w.after.ensures) ∙ sym w.read_escape.ensures ∙ w.in-Some.is) c.loop-i.invariant)
      | else-escaped-gt0+else-byte-ne92+in_default w ↦ rw (w.escaped-is, w.out-is) (denoted_nothing c.args.inside.now c.loop-i.i _ c.loop-i.out.items c.loop-i-test.true c.loop-i.escaped (omega arith) w.if-byte-ne92.false (ap escape (sym w.after.ensures) ∙ sym w.read_escape.ensures ∙ w.in_default.is) c.loop-i.invariant)
    ]
