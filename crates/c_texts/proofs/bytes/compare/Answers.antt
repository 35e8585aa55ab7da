-- Where no byte differs the lengths decide.
use Rattle.std.proofs.Common.{sym, arith}
use Rattle.c_texts.proofs.ByteLemmas.{compared_short, compared_long}
use Rattle.c_texts.proofs.bytes.compare.Goals as goal

pub returns-then-first-second : goal.returns-then-first-second
returns-then-first-second c =
    sym (compared_short c.args.first.now c.args.second.now c.loop-at.at (omega (arith, c.min-shared.ensures)) (omega (arith, c.min-shared.ensures)) c.loop-at.invariant)

pub returns-then-second-first : goal.returns-then-second-first
returns-then-second-first c =
    sym (compared_long c.args.first.now c.args.second.now c.loop-at.at (omega (arith, c.min-shared.ensures)) (omega (arith, c.min-shared.ensures)) c.loop-at.invariant)
