use Rattle.std.proofs.Common.{◌<◌, sym, ap, ◌∙◌, arith}
use Rattle.c_lexer.specs.Texts.{escape}
use Rattle.c_lexer.proofs.TextLemmas.{quoted_taken, quoted_escaped, quoted_more}
use Rattle.c_lexer.proofs.texts.quoted.Goals.{then-escaped-gt0, else-escaped-gt0+else-byte-quote+else-byte-eq10+then-byte-eq92+in-Some, else-escaped-gt0+else-byte-quote+else-byte-eq10+else-byte-eq92}
use Rattle.c_lexer.proofs.texts.quoted.Goals as goal

pub loop-i-preserved : goal.loop-i-preserved
loop-i-preserved c =
    elim c.if-escaped-gt0.branch [
      | then-escaped-gt0 w ↦ rw w.escaped-is (quoted_taken c.args.quote c.args.bytes.now c.loop-i.i _ c.loop-i-test.true c.loop-i.escaped _ (let some : 0 < c.loop-i.escaped = w.if-escaped-gt0.true in omega arith) c.loop-i.invariant)
      | else-escaped-gt0+else-byte-quote+else-byte-eq10+then-byte-eq92+in-Some w ↦ rw w.escaped-is (quoted_escaped c.args.quote c.args.bytes.now c.loop-i.i _ c.loop-i-test.true c.loop-i.escaped w.in-Some.escape (omega arith) w.if-byte-quote.false w.if-byte-eq92.true (ap escape (sym w.after.ensures) ∙ sym w.read_escape.ensures ∙ w.in-Some.is) c.loop-i.invariant)
      | else-escaped-gt0+else-byte-quote+else-byte-eq10+else-byte-eq92 w ↦ rw w.escaped-is (quoted_more c.args.quote c.args.bytes.now c.loop-i.i _ c.loop-i-test.true c.loop-i.escaped (omega arith) w.if-byte-quote.false w.if-byte-eq10.false w.if-byte-eq92.false c.loop-i.invariant)
    ]
