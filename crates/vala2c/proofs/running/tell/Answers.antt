use Rattle.vala2c.specs.Stages as stage
use Rattle.vala2c.proofs.running.tell.Goals as goal

pub returns-in-Ok : goal.returns-in-Ok
returns-in-Ok c = rw (c.kind_of.ensures, c.in-Ok.ensures) stage.told

pub returns-in-Err : goal.returns-in-Err
returns-in-Err c = rw (c.plain.ensures.kind, c.plain.ensures.texts, c.plain.ensures.muted) stage.no_memory
