-- The frame is next.
use Rattle.std.proofs.lemmas.Result.{on_ok_weaker}
use Rattle.c_run_state.proofs.state.Run.at_place.Goals as goal

pub returns : goal.returns
returns c = on_ok_weaker c.push.result (λ pushes env s shows. pushes env s tt shows) c.push.ensures
