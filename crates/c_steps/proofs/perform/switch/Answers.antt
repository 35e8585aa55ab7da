-- The number decides where the frame goes on.
use mir.Syntax.{w128}
use mir.Val.{SFits}
use Rattle.std.proofs.Common.{rules, ◌∙◌, ap, subst}
use Rattle.std.proofs.lemmas.Int.{to_z-of_z}
use Rattle.std.proofs.lemmas.Result.{on_ok_weaker}
use Rattle.c_meaning.specs.Blocks.{bind}
use Rattle.c_meaning.specs.Numbers.{number_of}
use Rattle.c_meaning.specs.Steps.{at_place}
use Rattle.c_code.specs.Coded.{cell_of}
use Rattle.c_code.specs.Machine.{case_target}
use Rattle.c_run_state.specs.Shows.{Shows, frame_seen}
use Rattle.c_steps.proofs.Answered.{bound, bound_refused, done, refused, refused_by}
use Rattle.c_steps.proofs.perform.switch.Goals as goal

pub returns-in-Err : goal.returns-in-Err
returns-in-Err c =
    on_ok_weaker c.refuse.result (λ refusing env s sized live shows.
    refused_by env c.args.run.now c.refuse.new.run s c.in-Err.fault (λ h. bind (cell_of c.args.value.now h c.args.frame.block) number_of) c.args.run.now.heap _
    shows.heap (bound_refused (λ x. x) c.cell_of.result c.in-Err.fault
    (cell_of c.args.value.now c.args.run.now.heap c.args.frame.block) number_of c.in-Err.is c.cell_of.ensures) refusing live shows) c.refuse.ensures

pub returns-in-Ok-number_of : goal.returns-in-Ok-number_of
returns-in-Ok-number_of c =
    let fits : SFits w128 c.in-Ok-number_of.number = search rules in
    let target = c.target_of.ensures ∙ ap (λ z. case_target z c.args.cases.now c.args.default) (to_z-of_z w128 c.in-Ok-number_of.number fits) in
    on_ok_weaker c.at_place.result (λ goes env s sized live shows.
    done (λ z. z) env c.at_place.new.self s c.number_of.result c.in-Ok-number_of.number
    (λ h. bind (cell_of c.args.value.now h c.args.frame.block) number_of) c.args.run.now.heap _
    shows.heap c.in-Ok-number_of.is
    (bound (λ x. x) (λ z. z) c.cell_of.result c.in-Ok.cell
    (cell_of c.args.value.now c.args.run.now.heap c.args.frame.block) number_of c.number_of.result c.in-Ok.is c.cell_of.ensures c.number_of.ensures)
    (subst (λ n. Shows env c.at_place.new.self (at_place s (frame_seen c.args.frame) n)) target (goes env s shows))) c.at_place.ensures

pub returns-in-Err-number_of : goal.returns-in-Err-number_of
returns-in-Err-number_of c =
    on_ok_weaker c.refuse-in-Err-number_of.result (λ refusing env s sized live shows.
    refused (λ z. z) env c.args.run.now c.refuse-in-Err-number_of.new.run s c.number_of.result c.in-Err-number_of.fault
    (λ h. bind (cell_of c.args.value.now h c.args.frame.block) number_of) c.args.run.now.heap _
    shows.heap c.in-Err-number_of.is
    (bound (λ x. x) (λ z. z) c.cell_of.result c.in-Ok.cell
    (cell_of c.args.value.now c.args.run.now.heap c.args.frame.block) number_of c.number_of.result c.in-Ok.is c.cell_of.ensures c.number_of.ensures)
    refusing live shows) c.refuse-in-Err-number_of.ensures
