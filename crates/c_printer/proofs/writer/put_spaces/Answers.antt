use Rattle.std.proofs.Common.{◌++◌, ap, ◌∙◌}
use Rattle.c_printer.proofs.SaysLemmas.{more_spaces}
use Rattle.c_printer.proofs.writer.put_spaces.Goals as goal

pub loop-preserved : goal.loop-preserved
loop-preserved c = c.in_ok-append.ensures ∙ ap (λ x. c.loop.out.items ++ x) c.as_slice.ensures ∙ more_spaces c.loop.out.items c.args.out.now.items c.loop.counter c.loop.invariant
