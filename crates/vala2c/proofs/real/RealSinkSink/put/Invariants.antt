use Rattle.std.proofs.Common.{◌≡◌, ◌<◌, length}
use Rattle.vala2c.proofs.real.RealSinkSink.put.Given as goal

-- no write was refused yet, and there is something to write
abbrev pub invariant-loop : goal.invariant-loop
invariant-loop g l = (l.self.faults ≡ l.initial.self.faults) × (0 < length l.bytes)
