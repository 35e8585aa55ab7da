-- The frame goes, with the value or with none.
use Rattle.std.proofs.Common.{sym, subst}
use Rattle.std.specs.Option.{option_copied}
use Rattle.std.proofs.lemmas.Result.{on_ok_weaker}
use Rattle.c_code.specs.Values.{value_seen}
use Rattle.c_code.specs.Coded.{value_of}
use Rattle.c_code.specs.Machine.{return_value}
use Rattle.c_run_state.specs.Shows.{Shows, frame_seen}
use Rattle.c_steps.proofs.Answered.{done, refused}
use Rattle.c_steps.proofs.perform.return_value.Goals as goal

pub returns-in-None : goal.returns-in-None
returns-in-None c =
    on_ok_weaker c.leave.result (λ left env s sized live shows.
    subst (λ o. Shows env c.leave.new.self (return_value s (frame_seen c.args.frame) (option_copied o))) (sym c.in-None.is) (left env s shows)) c.leave.ensures

pub returns-in-Ok : goal.returns-in-Ok
returns-in-Ok c =
    on_ok_weaker c.leave-in-Ok.result (λ left env s sized live shows.
    subst (λ o. Shows env c.leave-in-Ok.new.self (return_value s (frame_seen c.args.frame) (option_copied o))) (sym c.in-Some.is)
    (done value_seen env c.leave-in-Ok.new.self s c.value_of.result c.in-Ok.value (λ h. value_of c.in-Some.code.now h c.args.frame.block) c.args.run.now.heap _
    shows.heap c.in-Ok.is c.value_of.ensures (left env s shows))) c.leave-in-Ok.ensures

pub returns-in-Err : goal.returns-in-Err
returns-in-Err c =
    on_ok_weaker c.refuse.result (λ refusing env s sized live shows.
    subst (λ o. Shows env c.refuse.new.run (return_value s (frame_seen c.args.frame) (option_copied o))) (sym c.in-Some.is)
    (refused value_seen env c.args.run.now c.refuse.new.run s c.value_of.result c.in-Err.fault
    (λ h. value_of c.in-Some.code.now h c.args.frame.block) c.args.run.now.heap _
    shows.heap c.in-Err.is c.value_of.ensures refusing live shows)) c.refuse.ensures
