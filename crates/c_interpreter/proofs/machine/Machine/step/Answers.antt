use Rattle.std.proofs.Common.{subst, string_bytes}
use Rattle.c_interpreter.specs.Kept.{Steps, world_of}
use Rattle.c_interpreter.proofs.CourseLaws.{kept_of, stands_after, steps_there}
use Rattle.c_interpreter.proofs.machine.Machine.step.Goals as goal

pub invariant_of-self : goal.invariant_of-self
invariant_of-self c =
    let m = c.self.inside in
    stands_after m.unit (world_of (string_bytes m.name) m.input.items) m.course c.go_on-answer.new.course c.go_on-answer.result c.is_err-self-inside.result
    c.is_err-self-inside.ensures.value (c.self.invariant c.if-self.false) c.go_on-answer.ensures.advances

pub returns-clause-steps : goal.returns-clause-steps
returns-clause-steps c =
    let m = c.self.inside in
    let world = world_of (string_bytes m.name) m.input.items in
    subst (λ k. Steps k c.go_on-answer.result (kept_of m.unit world c.go_on-answer.new.course c.is_err-self-inside.result)) c.self.view_is
    (steps_there m.unit world m.course c.go_on-answer.new.course c.go_on-answer.result m.exhausted c.is_err-self-inside.result c.if-self.false
    c.is_err-self-inside.ensures.value (c.self.invariant c.if-self.false) c.go_on-answer.ensures.advances c.go_on-answer.ensures.refused
    c.go_on-answer.ensures.bound c.go_on-answer.ensures.keeps)
