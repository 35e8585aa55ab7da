use Rattle.std.proofs.Common.{◌≤◌, rules, take}
use Rattle.vg_base.specs.Outside.{Takes}
use Rattle.c_interpreter.proofs.Fronts.{front_of_text}
use Rattle.c_interpreter.proofs.run.put_on.Goals as goal

pub returns-in-Memory : goal.returns-in-Memory
returns-in-Memory g c =
    let part : Takes (g.S.Sink.seen c.args.sink.now) (take c.in-Err.taken c.args.bytes.now) (g.S.Sink.seen c.put_all.new.sink) = search rules in
    let faults : (g.S.Sink.seen c.args.sink.now).faults ≤ (g.S.Sink.seen c.put_all.new.sink).faults = search rules in
    front_of_text (g.S.Sink.seen c.args.sink.now) c.args.bytes.now c.in-Err.taken (g.S.Sink.seen c.put_all.new.sink) faults part
