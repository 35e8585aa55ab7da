use Rattle.vala2c.specs.Stages as stage
use Rattle.vala2c.proofs.running.run_c.Goals as goal

pub returns-in-Ok : goal.returns-in-Ok
returns-in-Ok g c = stage.ran _ _ _ _ _ _ c.in-Ok.ensures c.run_unit.ensures

pub returns-in-Err-Refused : goal.returns-in-Err-Refused
returns-in-Err-Refused g c =
    let r = rw c.in-Err-Refused.field-0-is at c.in-Err-Refused.ensures in
    rw (c.plain.ensures.kind, c.plain.ensures.texts, c.plain.ensures.muted, c.in-Err-Refused.refusal-is) (stage.c_refused _ r)

pub returns : goal.returns
returns g c = rw (c.plain-in-Err-Memory.ensures.kind, c.plain-in-Err-Memory.ensures.texts, c.plain-in-Err-Memory.ensures.muted) stage.no_memory
