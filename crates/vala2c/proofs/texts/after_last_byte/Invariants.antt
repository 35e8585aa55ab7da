use Rattle.std.proofs.Common.{◌≢◌, ℕ, ◌<◌, ◌≤◌, length, get_or}
use Rattle.vala2c.proofs.texts.after_last_byte.Given as goal

-- from here on no byte is the one that is sought
abbrev pub invariant-loop-start : goal.invariant-loop-start
invariant-loop-start l =
    (l.start ≤ length l.bytes) × ((k : ℕ) → l.start ≤ k → k < length l.bytes → get_or l.bytes k 0 ≢ l.byte)

abbrev pub decreases-loop-start : goal.decreases-loop-start
decreases-loop-start l = l.start
