use Rattle.std.proofs.Common.{◌∷◌, map, ap, subst}
use Rattle.command_line.specs.Answers.{meaning_of}
use Rattle.vala_compile.specs.Program.{Breaks}
use Rattle.vala2c.specs.Course as course
use Rattle.vala2c.proofs.Commands.{no_memory_call, refused_call, stopped_call}
use Rattle.vala2c.proofs.call.build_files.Goals as goal

pub returns-in-Err : goal.returns-in-Err
returns-in-Err g c = stopped_call (meaning_of c.args.asked.now) _ _ _ _ _ _ _ _ c.in-Err.ensures c.finish.ensures

pub returns-in-Err-Refused : goal.returns-in-Err-Refused
returns-in-Err-Refused g c =
    let shown = ap (map (λ s. s.items)) c.deref.ensures.value in
    let h = rw c.in-Err-Refused.field-0-is at c.in-Err-Refused.ensures in
    let b = subst (λ l. Breaks l c.args.asked.now.strict_null (c.in-Err-Refused.refusal ∷ h.0)) shown h.1 in
    let said = rw c.deref-in-Err-Refused.ensures.value at c.finish_refused.ensures in
    refused_call (meaning_of c.args.asked.now) _ _ _ _ _ _ _ _ _ _ _ c.in-Ok.ensures (course.compiled h.0 c.requires.writes b) (ap (map (λ s. s.items)) c.deref-in-Err-Refused-2.ensures.value) c.in-Err-Refused.refusal-is said

pub returns : goal.returns
returns g c = no_memory_call (meaning_of c.args.asked.now) _ _ _ _ _ _ _ _ _ c.in-Ok.ensures c.finish-in-Err-Memory.ensures
