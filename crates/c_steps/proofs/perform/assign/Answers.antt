-- The place is found first, and then the value.
use Rattle.std.proofs.lemmas.Result.{on_ok_weaker}
use Rattle.c_meaning.specs.Steps.{onward}
use Rattle.c_code.specs.Values.{place_seen, value_seen}
use Rattle.c_code.specs.Coded.{place_of, value_of}
use Rattle.c_run_state.specs.Shows.{frame_seen}
use Rattle.c_steps.proofs.Answered.{done, refused}
use Rattle.c_steps.proofs.perform.assign.Goals as goal

pub returns-in-Err : goal.returns-in-Err
returns-in-Err c =
    on_ok_weaker c.refuse.result (λ refusing env s sized live shows.
    refused place_seen env c.args.run.now c.refuse.new.run s c.place_of.result c.in-Err.fault
    (λ h. place_of c.args.place.now h c.args.frame.block) c.args.run.now.heap _
    shows.heap c.in-Err.is c.place_of.ensures refusing live shows) c.refuse.ensures

pub returns-in-Err-value_of : goal.returns-in-Err-value_of
returns-in-Err-value_of c =
    on_ok_weaker c.refuse-in-Err-value_of.result (λ refusing env s sized live shows.
    done place_seen env c.refuse-in-Err-value_of.new.run s c.place_of.result c.in-Ok.place
    (λ h. place_of c.args.place.now h c.args.frame.block) c.args.run.now.heap _
    shows.heap c.in-Ok.is c.place_of.ensures
    (refused value_seen env c.args.run.now c.refuse-in-Err-value_of.new.run s c.value_of.result c.in-Err-value_of.fault
    (λ h. value_of c.args.value.now h c.args.frame.block) c.args.run.now.heap _
    shows.heap c.in-Err-value_of.is c.value_of.ensures refusing live shows)) c.refuse-in-Err-value_of.ensures

pub returns : goal.returns
returns c = λ env s sized live shows.
    done place_seen env c.store.new.self s c.place_of.result c.in-Ok.place (λ h. place_of c.args.place.now h c.args.frame.block) c.args.run.now.heap _
    shows.heap c.in-Ok.is c.place_of.ensures
    (done value_seen env c.store.new.self s c.value_of.result c.in-Ok-value_of.value (λ h. value_of c.args.value.now h c.args.frame.block) c.args.run.now.heap _
    shows.heap c.in-Ok-value_of.is c.value_of.ensures
    (c.store.ensures env (onward s (frame_seen c.args.frame)) (c.in_ok-onward.ensures env s shows)))
