use Rattle.std.proofs.Common.{ap, sym, ◌∙◌, arith}
use Rattle.c_lexer.specs.Bytes.{in_64_bits}
use Rattle.c_lexer.proofs.ByteLemmas.{value_begins, value_next, value_ends, value_over, fits_64, over_64, is_small_number}
use Rattle.c_lexer.proofs.bytes.value_of.Goals as goal

pub loop-digit-init : goal.loop-digit-init
loop-digit-init c = record { same = value_begins c.args.base c.args.digits.now; small = omega arith }

pub returns-in_default : goal.returns-in_default
returns-in_default c = over_64 _ _ (sym c.with_digit.ensures ∙ c.in_default.is) (value_over c.args.base c.loop-digit.value c.args.digits.now c.loop-digit.digit-index _ c.requires c.loop-digit-test.true c.loop-digit.invariant.same)

pub loop-digit-preserved : goal.loop-digit-preserved
loop-digit-preserved c = record {
  same = value_next c.args.base c.loop-digit.value c.in-Some.longer c.args.digits.now c.loop-digit.digit-index _ c.loop-digit-test.true (sym c.in-Some.is ∙ c.with_digit.ensures) c.loop-digit.invariant.same;
  small = is_small_number _ c.in-Some.longer (sym c.in-Some.is ∙ c.with_digit.ensures);
}

pub returns : goal.returns
returns c = fits_64 c.loop-digit.value c.loop-digit.invariant.small ∙ ap in_64_bits (sym (value_ends c.args.base c.loop-digit.value c.args.digits.now c.loop-digit.digit-index _ c.loop-digit-test.false c.loop-digit.invariant.same))
