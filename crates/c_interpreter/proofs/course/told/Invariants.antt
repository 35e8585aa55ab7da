use Rattle.std.proofs.Common.{◌≡◌, drop}
use Rattle.c_interpreter.specs.Course.{told}
use Rattle.c_interpreter.proofs.course.told.Given as goal

abbrev pub invariant-loop-event : goal.invariant-loop-event
invariant-loop-event l = told (drop l.event-index l.said) l.ended ≡ told l.said l.ended
