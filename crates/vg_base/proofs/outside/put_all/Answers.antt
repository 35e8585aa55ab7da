use Rattle.std.proofs.Common.{arith, length-drop}
use Rattle.vg_base.proofs.OutsideLaws.{takes_more}
use Rattle.vg_base.proofs.outside.put_all.Goals as goal

pub loop-taken-preserved : goal.loop-taken-preserved
loop-taken-preserved g c =
    let i = c.loop-taken.invariant in
    let p = c.in-Ok.ensures in
    let within = p.count.0 in
    (omega (arith, within, length-drop c.loop-taken.taken c.args.bytes.now), omega (arith, i.1, p.faults), takes_more (g.S.Sink.seen c.args.sink.now) (g.S.Sink.seen c.loop-taken.sink) (g.S.Sink.seen c.put.new.self) c.loop-taken.taken c.in-Ok.n c.args.bytes.now i.2 p.took)
