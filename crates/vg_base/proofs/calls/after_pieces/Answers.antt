use Rattle.vg_base.proofs.CallLemmas.{other_piece}
use Rattle.vg_base.proofs.calls.after_pieces.Goals as goal

pub returns-in_err-rest : goal.returns-in_err-rest
returns-in_err-rest c =
    rw c.from_residual.ensures (other_piece c.args.tokens.now c.args.pieces.now c.loop-piece.piece-index _ c.loop-piece.rest.now c.loop-piece.invariant c.loop-piece-test.true c.in_err-rest.ensures)
