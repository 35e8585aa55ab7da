use Rattle.std.proofs.Common.{ap, ◌∙◌}
use Rattle.c_lexer.specs.declared.token.Sign.TheVariants as sign
use Rattle.c_printer.specs.Text.{seen}
use Rattle.c_printer.specs.Marks.{ASign, put_mark}
use Rattle.c_printer.proofs.MarkLemmas.{star_more}
use Rattle.c_printer.proofs.types.put_stars.Goals as goal

pub loop-preserved : goal.loop-preserved
loop-preserved c = c.in_ok-token.ensures ∙ ap (λ t. put_mark t (ASign sign.Star)) c.loop.invariant ∙ star_more (seen c.args.out.now) c.loop.counter
