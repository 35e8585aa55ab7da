use Rattle.std.proofs.Common.{◌≡◌, arith}
use Rattle.text_values.proofs.DenotedSteps.{skipped, itself, escaped}
use Rattle.text_values.proofs.texts.denoted.Goals as goal
use Rattle.text_values.proofs.texts.denoted.Goals.{then-taken-gt0, else-taken-gt0+then-byte-eq92+in_ok-taken, else-taken-gt0+else-byte-eq92+in_ok-push}

pub loop-i-preserved : goal.loop-i-preserved
loop-i-preserved c = elim c.if-taken-gt0.branch [
  | then-taken-gt0 w ↦
      let e = skipped _ c.loop-i.value c.loop-i.taken c.loop-i.i c.args.bytes.now c.loop-i-test.true w.if-taken-gt0.true c.loop-i.invariant in
      cc
  | else-taken-gt0+then-byte-eq92+in_ok-taken w ↦
      let none : c.loop-i.taken ≡ 0 = omega arith in
      let e = escaped _ c.loop-i.value c.loop-i.taken c.loop-i.i c.args.bytes.now c.loop-i-test.true none w.if-byte-eq92.true c.loop-i.invariant in
      cc (w.in_ok-taken.ensures.value, w.in_ok-taken.ensures.len, w.after.ensures)
  | else-taken-gt0+else-byte-eq92+in_ok-push w ↦
      let none : c.loop-i.taken ≡ 0 = omega arith in
      let e = itself _ c.loop-i.value c.loop-i.taken c.loop-i.i c.args.bytes.now c.loop-i-test.true none w.if-byte-eq92.false c.loop-i.invariant in
      cc (w.in_ok-push.ensures.ok)
]
