use Rattle.std.proofs.Common.{◌∙◌, ap}
use Rattle.c_interpreter.specs.Kept.{Kept}
use Rattle.vala2c.proofs.RunLaws.{not_loaded, told_loaded, refused_loaded, without_memory_loaded}
use Rattle.vala2c.proofs.running.run_unit.Goals as goal

pub returns-in_default : goal.returns-in_default
returns-in_default g c = rw (c.plain.ensures.kind, c.plain.ensures.texts, c.plain.ensures.muted) (not_loaded _ _ _ _ _)

pub returns-in_default-load : goal.returns-in_default-load
returns-in_default-load g c = rw (c.plain-in_default-load.ensures.kind, c.plain-in_default-load.ensures.texts, c.plain-in_default-load.ensures.muted) (not_loaded _ _ _ _ _)

pub tell-requires : goal.tell-requires
tell-requires g c = c.in-Ok-run.ensures.runs.exhausted ∙ ap (λ (k : Kept). k.exhausted) c.in-Ok-load.ensures

pub returns-in-Ok-run : goal.returns-in-Ok-run
returns-in-Ok-run g c = told_loaded _ _ _ _ _ _ _ _ _ _ _ _ (c.in-Ok.ensures.ok ∙ c.as_str.ensures.value) c.in-Ok-load.ensures c.in-Ok-run.ensures.runs c.tell.ensures

pub returns-in-Err-Out : goal.returns-in-Err-Out
returns-in-Err-Out g c =
    let r = rw c.in-Err-Out.field-0-is at c.in-Err-Out.ensures.runs in
    rw (c.refused.ensures.kind, c.refused.ensures.texts, c.refused.ensures.muted, c.in-Err-Out.stream-is)
    (refused_loaded _ _ _ _ _ _ _ _ _ _ (c.in-Ok.ensures.ok ∙ c.as_str.ensures.value) c.in-Ok-load.ensures r)

pub returns : goal.returns
returns g c =
    let r = rw c.in-Err-Memory.field-0-is at c.in-Err-Memory.ensures.runs in
    rw (c.plain-in-Err-Memory.ensures.kind, c.plain-in-Err-Memory.ensures.texts, c.plain-in-Err-Memory.ensures.muted)
    (without_memory_loaded _ _ _ _ _ _ _ _ (c.in-Ok.ensures.ok ∙ c.as_str.ensures.value) c.in-Ok-load.ensures r)
