use Rattle.vala2c.proofs.Commands.{emits, no_other, write_fails, writes_back}
use Rattle.vala2c.proofs.call.write_and_run.Goals as goal

pub returns-in-Err : goal.returns-in-Err
returns-in-Err g c =
    rw (c.plain.ensures.kind, c.plain.ensures.texts, c.plain.ensures.muted, c.kind_of_write.ensures) (write_fails _ _ _ _ _ _ _ _ _ c.in-Err.ensures)

pub returns-in-Run : goal.returns-in-Run
returns-in-Run g c = writes_back _ _ _ _ _ _ _ _ _ _ _ _ _ _ c.in-Run.is c.in_default.ensures c.run_back.ensures

pub returns-in_default-command : goal.returns-in_default-command
returns-in_default-command g c =
    rw (c.plain-in_default-command.ensures.kind, c.plain-in_default-command.ensures.texts, c.plain-in_default-command.ensures.muted)
    (emits _ _ _ _ _ _ _ _ (no_other _ c.requires.writes c.in_default-command.not-Run) c.in_default.ensures)
