use Rattle.vala2c.specs.Stages as stage
use Rattle.vala2c.proofs.Commands.{reads_back}
use Rattle.vala2c.proofs.call.run_back.Goals as goal

pub returns-in-Ok : goal.returns-in-Ok
returns-in-Ok g c = reads_back _ _ _ _ _ _ _ _ _ _ _ _ _ _ c.in-Ok.ensures (stage.executes _ _ _ _ _ _ (rw c.deref.ensures.value at c.run_c.ensures))

pub returns-in-Err : goal.returns-in-Err
returns-in-Err g c =
    rw (c.plain.ensures.kind, c.plain.ensures.texts, c.plain.ensures.muted, c.kind_of_read.ensures) (reads_back _ _ _ _ _ _ _ _ _ _ _ _ _ _ c.in-Err.ensures (stage.unread _))
