-- The place is found, and the call's result will go there.
use Rattle.std.proofs.Common.{◌∷◌, []}
use Rattle.std.proofs.lemmas.Result.{on_ok_weaker}
use Rattle.c_meaning.specs.State.{Keep}
use Rattle.c_meaning.specs.Steps.{onward}
use Rattle.c_meaning.specs.TypeRows.{push}
use Rattle.c_code.specs.Values.{place_seen}
use Rattle.c_code.specs.Coded.{place_of}
use Rattle.c_run_state.specs.Shows.{frame_seen}
use Rattle.c_steps.proofs.Answered.{done, refused}
use Rattle.c_steps.proofs.perform.store.Goals as goal

pub returns-in-Err : goal.returns-in-Err
returns-in-Err c =
    on_ok_weaker c.refuse.result (λ refusing env s sized live shows.
    refused place_seen env c.args.run.now c.refuse.new.run s c.place_of.result c.in-Err.fault
    (λ h. place_of c.args.place.now h c.args.frame.block) c.args.run.now.heap _
    shows.heap c.in-Err.is c.place_of.ensures refusing live shows) c.refuse.ensures

pub returns : goal.returns
returns c =
    on_ok_weaker c.call.result (λ called env s sized live shows.
    done place_seen env c.call.new.run s c.place_of.result c.in-Ok.place (λ h. place_of c.args.place.now h c.args.frame.block) c.args.run.now.heap _
    shows.heap c.in-Ok.is c.place_of.ensures
    (called env (push (Keep (place_seen c.in-Ok.place) c.args.taken.kind ∷ []) (onward s (frame_seen c.args.frame))) live
    (c.in_ok-push.ensures env (onward s (frame_seen c.args.frame)) sized (c.in_ok-onward.ensures env s shows)))) c.call.ensures
