-- The block of the frame has the arguments, and the frame is next.
use Rattle.std.proofs.Common.{◌∙◌, subst, length, ◌++◌, ◌-◌, ◌∷◌, []}
use Rattle.std.proofs.lemmas.Result.{on_ok_weaker}
use Rattle.c_meaning.specs.State.{Run}
use Rattle.c_meaning.specs.Blocks.{make, unset}
use Rattle.c_meaning.specs.TypeRows.{push}
use Rattle.c_run_state.specs.Shows.{Shows}
use Rattle.c_run_state.proofs.state.Run.enter_with.Goals as goal

pub returns : goal.returns
returns c =
    on_ok_weaker c.push.result (λ pushes env s shows.
    let number = c.in_ok-block.ensures.number env s shows in
    let cells = c.as_slice.ensures.value ∙ c.in_ok-variables.ensures in
    subst (λ n. Shows env c.push.new.self (push (Run (record { routine = c.args.routine; at = 0; block = n }) ∷ []) (make s (c.args.arguments.now ++ unset (c.args.cells - length c.args.arguments.now))))) number
    (subst (λ cs. Shows env c.push.new.self (push (Run (record { routine = c.args.routine; at = 0; block = c.in_ok-block.block }) ∷ []) (make s cs))) cells (pushes env (make s c.as_slice.result.now) tt (c.in_ok-block.ensures.made env s shows))))
    c.push.ensures
