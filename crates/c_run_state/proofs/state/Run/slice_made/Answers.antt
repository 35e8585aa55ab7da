-- Each kind of block is noted as what it is.
use Rattle.std.proofs.lemmas.Result.{on_ok_weaker}
use Rattle.c_meaning.specs.Blocks.{zeroed}
use Rattle.c_code.specs.declared.program.Sliced.TheVariants as sliced
use Rattle.c_run_state.proofs.Stores.{slice_shown}
use Rattle.c_run_state.proofs.state.Run.slice_made.Goals as goal

pub returns-in-Scope : goal.returns-in-Scope
returns-in-Scope c =
    on_ok_weaker c.note_thing.result (λ made env s n books same. slice_shown env c.args.self.now c.note_thing.new.self s n c.args.sliced sliced.Scope c.in-Scope.is same c.note_thing.ensures.heap (made (zeroed n) env s books)) c.note_thing.ensures.made

pub returns-in-Activation : goal.returns-in-Activation
returns-in-Activation c =
    on_ok_weaker c.note_thing-in-Activation.result
    (λ made env s n books same. slice_shown env c.args.self.now c.note_thing-in-Activation.new.self s n c.args.sliced sliced.Activation c.in-Activation.is same c.note_thing-in-Activation.ensures.heap (made (zeroed n) env s books))
    c.note_thing-in-Activation.ensures.made

pub returns-in-Plain : goal.returns-in-Plain
returns-in-Plain c =
    on_ok_weaker c.note_sliced.result (λ made env s n books same. slice_shown env c.args.self.now c.note_sliced.new.self s n c.args.sliced sliced.Plain c.in-Plain.is same c.note_sliced.ensures.heap (made (zeroed n) env s books)) c.note_sliced.ensures.made
