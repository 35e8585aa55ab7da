-- The frame goes on behind the call.
use Rattle.std.proofs.lemmas.Result.{on_ok_weaker}
use Rattle.c_meaning.specs.Steps.{onward}
use Rattle.c_run_state.specs.Shows.{frame_seen}
use Rattle.c_steps.proofs.perform.call_only.Goals as goal

pub returns : goal.returns
returns c =
    on_ok_weaker c.call.result (λ called env s sized live shows. called env (onward s (frame_seen c.args.frame)) live
    (c.in_ok-onward.ensures env s shows)) c.call.ensures
