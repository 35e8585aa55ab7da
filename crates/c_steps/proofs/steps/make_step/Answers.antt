-- An item is done, and then what takes no step.
use Rattle.std.proofs.Common.{subst, []}
use Rattle.std.proofs.lemmas.Result.{on_ok_weaker}
use Rattle.c_code.specs.Machine.{do_next, settled}
use Rattle.c_run_state.specs.Shows.{Shows}
use Rattle.c_steps.proofs.steps.make_step.Goals as goal

pub returns : goal.returns
returns c =
    on_ok_weaker c.settle.result (λ settles env p s same all live shows.
    let t = do_next c.args.routines.now p (record s { said = [] }) s.work in
    let done = c.in_ok-do_next.ensures env p (record s { said = [] }) same all live (c.begin_step.ensures.emptied env s shows) in
    subst (λ n. Shows env c.settle.new.run (settled c.args.routines.now p n t)) (c.in_ok-most.ensures env t done) (settles env p t same done)) c.settle.ensures
