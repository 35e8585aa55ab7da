use Rattle.std.proofs.Common.{◌≡◌, ◌++◌, take, map}
use Rattle.vg_base.specs.Small.{token_of}
use Rattle.vg_base.proofs.calls.after_pieces.Given as goal

-- what is left stands behind the pieces before the place
abbrev pub invariant-loop-piece : goal.invariant-loop-piece
invariant-loop-piece l = l.tokens ≡ map token_of (take l.piece-index l.pieces) ++ l.rest
