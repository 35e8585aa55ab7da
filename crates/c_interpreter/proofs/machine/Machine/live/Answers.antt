use Rattle.std.proofs.Common.{◌≡◌, ◌∙◌, ap}
use Rattle.std.proofs.lemmas.Result.{IfOk-weaker}
use Rattle.c_meaning.specs.Blocks.{live}
use Rattle.c_meaning.specs.Layout.{declared}
use Rattle.c_run_state.specs.Shows.{InShown}
use Rattle.c_interpreter.specs.Course.{silent}
use Rattle.c_interpreter.specs.Kept.{state_of}
use Rattle.c_interpreter.specs.contracts.machine.Machine.{the_view}
use Rattle.c_interpreter.proofs.machine.Machine.live.Goals as goal

pub returns-clause-rows : goal.returns-clause-rows
returns-clause-rows c =
    let m = c.self.inside in
    let stands = c.self.invariant c.if-self.false in
    IfOk-weaker c.live.result (λ rows. InShown m.course.run (λ s. rows.items ≡ live s)) (λ rows. rows.items ≡ live (state_of c.args.self.now))
    (λ rows shown. shown (declared m.unit) (silent (state_of (the_view m))) stands.shows ∙ ap (λ k. live (state_of k)) c.self.view_is) c.live.ensures
