use Rattle.std.proofs.Common.{length, ◌-◌, ◌≤◌, take}
use Rattle.vg_base.specs.Outside.{Takes}
use Rattle.vg_base.proofs.outside.put_all.Given as goal

-- so far the sink took what stands before the place
abbrev pub invariant-loop-taken : goal.invariant-loop-taken
invariant-loop-taken g l =
    (l.taken ≤ length l.bytes) × ((g.S.Sink.seen l.initial.sink).faults ≤ (g.S.Sink.seen l.sink).faults) × Takes (g.S.Sink.seen l.initial.sink) (take l.taken l.bytes) (g.S.Sink.seen l.sink)

abbrev pub decreases-loop-taken : goal.decreases-loop-taken
decreases-loop-taken g l = length l.bytes - l.taken
