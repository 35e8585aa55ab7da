use Rattle.std.proofs.Common.{◌≡◌, Some, None, sym, ap, ◌∙◌}
use Rattle.vala_lexer.specs.Texts.{hex_number}
use Rattle.text_values.proofs.DigitLemmas.{no_low, both}
use Rattle.text_values.proofs.escapes.four_digits.Goals as goal

pub returns-in_err-low-clause-value : goal.returns-in_err-low-clause-value
returns-in_err-low-clause-value c =
    let low : hex_number 2 c.after.result.now ≡ None = cc (c.in_err-low.was, c.two_digits-2.ensures.value) in
    c.from_residual-in_err-low.ensures ∙ no_low c.args.bytes.now (ap (hex_number 2) (sym c.after.ensures) ∙ low)

pub returns-clause-value : goal.returns-clause-value
returns-clause-value c =
    let high : Some c.in_ok-high.high ≡ hex_number 2 c.args.bytes.now = cc (c.in_ok-high.was, c.two_digits.ensures.value) in
    let low : Some c.in_ok-low.low ≡ hex_number 2 c.after.result.now = cc (c.in_ok-low.was, c.two_digits-2.ensures.value) in
    both c.args.bytes.now c.in_ok-high.high c.in_ok-low.low high (low ∙ ap (hex_number 2) c.after.ensures)
