-- One digit after another.
use Rattle.std.proofs.Common.{◌∙◌, sym, arith}
use Rattle.c_texts.proofs.NumberLemmas.{digit_more}
use Rattle.c_texts.proofs.numbers.digits_value.Goals as goal

pub loop-byte-preserved : goal.loop-byte-preserved
loop-byte-preserved c = (
  omega (arith, c.with_digit-number.ensures),
  digit_more c.args.bytes.now c.loop-byte.byte-index c.loop-byte.number c.with_digit-number.result (omega arith) (sym c.is_digit.ensures ∙ c.if-not-is_digit.false) c.with_digit-number.ensures c.loop-byte.invariant.1,
)
