-- What is called is found first, and then the arguments.
use Rattle.std.proofs.Common.{map}
use Rattle.std.proofs.lemmas.Result.{on_ok_weaker}
use Rattle.c_code.specs.Values.{value_seen}
use Rattle.c_code.specs.Coded.{cell_of}
use Rattle.c_code.specs.Machine.{values_of}
use Rattle.c_steps.proofs.Answered.{done, refused}
use Rattle.c_steps.proofs.calls.call_value.Goals as goal

pub returns-in-Err : goal.returns-in-Err
returns-in-Err c =
    on_ok_weaker c.refuse.result (λ refusing env s live shows.
    refused (λ x. x) env c.args.run.now c.refuse.new.run s c.cell_of.result c.in-Err.fault (λ h. cell_of c.args.callee.now h c.args.block) c.args.run.now.heap _
    shows.heap c.in-Err.is c.cell_of.ensures refusing live shows) c.refuse.ensures

pub returns-in-Ok-values_of : goal.returns-in-Ok-values_of
returns-in-Ok-values_of c =
    on_ok_weaker c.call_cell.result (λ called env s live shows.
    done (λ x. x) env c.call_cell.new.run s c.cell_of.result c.in-Ok.cell (λ h. cell_of c.args.callee.now h c.args.block) c.args.run.now.heap _
    shows.heap c.in-Ok.is c.cell_of.ensures
    (done (λ values. map value_seen values.items) env c.call_cell.new.run s c.values_of.result c.in-Ok-values_of.values
    (λ h. values_of c.args.arguments.now h c.args.block) c.args.run.now.heap _
    shows.heap c.in-Ok-values_of.is c.values_of.ensures (called env s live shows))) c.call_cell.ensures

pub returns-in-Err-values_of : goal.returns-in-Err-values_of
returns-in-Err-values_of c =
    on_ok_weaker c.refuse-in-Err-values_of.result (λ refusing env s live shows.
    done (λ x. x) env c.refuse-in-Err-values_of.new.run s c.cell_of.result c.in-Ok.cell (λ h. cell_of c.args.callee.now h c.args.block) c.args.run.now.heap _
    shows.heap c.in-Ok.is c.cell_of.ensures
    (refused (λ values. map value_seen values.items) env c.args.run.now c.refuse-in-Err-values_of.new.run s c.values_of.result c.in-Err-values_of.fault
    (λ h. values_of c.args.arguments.now h c.args.block) c.args.run.now.heap _
    shows.heap c.in-Err-values_of.is c.values_of.ensures refusing live shows)) c.refuse-in-Err-values_of.ensures
