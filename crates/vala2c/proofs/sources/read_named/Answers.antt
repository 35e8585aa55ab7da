use Rattle.std.proofs.Common.{subst}
use Rattle.vala2c.specs.Course.{AreBytes}
use Rattle.vala2c.proofs.Given.{input_there, input_refused}
use Rattle.vala2c.proofs.sources.read_named.Goals as goal

pub returns-in-Ok : goal.returns-in-Ok
returns-in-Ok g c = input_there _ _ _ _ c.in-Ok.ensures (subst AreBytes c.deref.ensures.value c.are_bytes.ensures)

pub returns-in-Err : goal.returns-in-Err
returns-in-Err g c = rw c.kind_of_read-kind.ensures (input_refused _ _ _ _ c.in-Err.ensures)
