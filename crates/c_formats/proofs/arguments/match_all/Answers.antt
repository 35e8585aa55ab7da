-- All pieces were matched.
use Rattle.std.proofs.Common.{◌∙◌, sym, arith}
use Rattle.c_formats.proofs.ArgumentLemmas.{match_end}
use Rattle.c_formats.proofs.arguments.match_all.Goals as goal

pub returns : goal.returns
returns c = match_end c.args.pieces.now c.loop-piece.piece-index c.loop-piece.next c.args.cells.now (omega arith) c.loop-piece.invariant.0 ∙ sym c.loop-piece.invariant.1
