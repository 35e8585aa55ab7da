-- Just that mark is another one.
use Rattle.std.proofs.Common.{arith}
use Rattle.glib_model.proofs.MarkLemmas.{mark_set}
use Rattle.glib_model.proofs.kinds.set_mark.Goals as goal

pub returns : goal.returns
returns c = λ k. mark_set c.args.marks.now.items c.args.block c.args.mark k (omega arith) (omega arith)
