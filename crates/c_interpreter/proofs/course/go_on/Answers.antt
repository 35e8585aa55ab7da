use Rattle.std.proofs.Common.{◌≡◌, ◌+◌, refl, sym, ap, subst, ◌∙◌}
use Rattle.c_steps.specs.Performs.{MakesStep}
use Rattle.c_interpreter.specs.declared.course.Course.{Course}
use Rattle.c_interpreter.specs.Course.{Advances, told}
use Rattle.c_interpreter.proofs.CourseLaws.{goes_on, none_there}
use Rattle.c_interpreter.proofs.course.go_on.Goals as goal

pub returns-clause-advances : goal.returns-clause-advances
returns-clause-advances c = λ unit world stands.
    let old = c.args.course.now in
    let new : Course = record { alloc = old.alloc; routines = old.routines; run = c.begin_step-said.new.self; done = old.done + 1; trace = c.keep.new.trace } in
    let makes : MakesStep old.routines old.run c.make_step.new.run =
    subst (λ rs. MakesStep rs old.run c.make_step.new.run) c.as_slice.ensures c.in_ok-make_step.ensures
    in
    let words : told c.begin_step-said.result.items c.begin_step-said.new.self.ended ≡ c.in_ok-answer.answer =
    sym (c.in_ok-answer.ensures ∙ ap (λ es. told es c.begin_step-said.new.self.ended) c.as_slice-2.ensures.value)
    in
    subst (λ a. Advances unit world old a new) words
    (goes_on unit world old new c.make_step.new.run c.begin_step-said.result.items (none_there old.run.ended c.in_default.not-Some) stands
    makes c.begin_step-said.ensures.said c.begin_step-said.ensures.emptied refl refl c.in_ok-keep.ensures.more)
