-- The test decides where the frame goes on.
use Rattle.std.proofs.Common.{◌∙◌, sym, true, false}
use Rattle.std.proofs.lemmas.Result.{on_ok_weaker}
use Rattle.c_code.specs.Coded.{cell_of}
use Rattle.c_steps.proofs.Answered.{refused}
use Rattle.c_steps.proofs.Tested.{test_jumped}
use Rattle.c_steps.proofs.perform.test_jump.Goals as goal

pub returns-then-is_false : goal.returns-then-is_false
returns-then-is_false c =
    on_ok_weaker c.onward.result (λ goes env s sized live shows.
    test_jumped env c.args.routines.now c.onward.new.self s c.args.frame c.args.value.now c.args.target c.args.run.now.heap c.cell_of.result c.in-Ok.cell true
    shows.heap c.in-Ok.is c.cell_of.ensures (sym c.is_false.ensures ∙ c.if-is_false.true) (goes env s shows)) c.onward.ensures

pub returns-else-is_false : goal.returns-else-is_false
returns-else-is_false c =
    on_ok_weaker c.at_place.result (λ goes env s sized live shows.
    test_jumped env c.args.routines.now c.at_place.new.self s c.args.frame c.args.value.now c.args.target c.args.run.now.heap c.cell_of.result c.in-Ok.cell false
    shows.heap c.in-Ok.is c.cell_of.ensures (sym c.is_false.ensures ∙ c.if-is_false.false) (goes env s shows)) c.at_place.ensures

pub returns-in-Err : goal.returns-in-Err
returns-in-Err c =
    on_ok_weaker c.refuse.result (λ refusing env s sized live shows.
    refused (λ x. x) env c.args.run.now c.refuse.new.run s c.cell_of.result c.in-Err.fault (λ h. cell_of c.args.value.now h c.args.frame.block) c.args.run.now.heap _
    shows.heap c.in-Err.is c.cell_of.ensures refusing live shows) c.refuse.ensures
