use Rattle.std.proofs.Common.{map, ap, subst}
use Rattle.command_line.specs.Answers.{meaning_of}
use Rattle.vala_compile.specs.Program.{AreRead, Refuses}
use Rattle.vala2c.specs.Course as course
use Rattle.vala2c.proofs.Commands.{accepted_call, no_memory_call, refused_call, stopped_call}
use Rattle.vala2c.proofs.call.check_files.Goals as goal

pub returns-in-Err : goal.returns-in-Err
returns-in-Err g c = λ o. stopped_call (meaning_of c.args.asked.now) o _ _ _ _ _ _ _ c.in-Err.ensures c.finish.ensures

pub returns-in-Ok-check : goal.returns-in-Ok-check
returns-in-Ok-check g c =
    λ o.
    let read = subst AreRead (ap (map (λ s. s.items)) c.deref.ensures.value) c.in-Ok-check.ensures in
    accepted_call (meaning_of c.args.asked.now) _ _ _ o _ _ _ _ _ c.in-Ok.ensures (course.accepted _ _ _ c.requires c.in-Ok.ensures.all_given read) c.finish-in-Ok-check.ensures

pub returns-in-Err-Refused : goal.returns-in-Err-Refused
returns-in-Err-Refused g c =
    λ o.
    let shown = ap (map (λ s. s.items)) c.deref.ensures.value in
    let h = subst (λ l. Refuses l c.in-Err-Refused.refusal) shown (rw c.in-Err-Refused.field-0-is at c.in-Err-Refused.ensures) in
    let said = rw c.deref-in-Err-Refused.ensures.value at c.finish_refused.ensures in
    refused_call (meaning_of c.args.asked.now) _ _ _ o _ _ _ _ _ _ _ c.in-Ok.ensures (course.checked c.requires h) (ap (map (λ s. s.items)) c.deref-in-Err-Refused-2.ensures.value) c.in-Err-Refused.refusal-is said

pub returns : goal.returns
returns g c = λ o. no_memory_call (meaning_of c.args.asked.now) _ _ _ o _ _ _ _ _ c.in-Ok.ensures c.finish-in-Err-Memory.ensures
