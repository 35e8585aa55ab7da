-- The function's row is called with the cells of the arguments.
use Rattle.std.proofs.Common.{subst}
use Rattle.std.proofs.lemmas.Result.{on_ok_weaker}
use Rattle.c_code.specs.Machine.{cells_of}
use Rattle.c_code.specs.Statements.{row_of}
use Rattle.c_library.specs.Calls.{type_of}
use Rattle.c_run_state.specs.Shows.{Shows}
use Rattle.c_steps.proofs.Answered.{done, refused}
use Rattle.c_steps.proofs.calls.call_row.Goals as goal

pub returns-in-Ok : goal.returns-in-Ok
returns-in-Ok c =
    on_ok_weaker c.call.result (λ called env s live shows.
    done (λ cells. cells.items) env c.call.new.run s c.cells_of.result c.in-Ok.cells (λ h. cells_of c.args.arguments.now h c.args.block) c.args.run.now.heap _
    shows.heap c.in-Ok.is c.cells_of.ensures
    (subst (λ cells. Shows env c.call.new.run (row_of c.args.function s (type_of c.args.argument) cells)) c.as_slice.ensures.value
    (called env s live shows))) c.call.ensures

pub returns-in-Err : goal.returns-in-Err
returns-in-Err c =
    on_ok_weaker c.refuse.result (λ refusing env s live shows.
    refused (λ cells. cells.items) env c.args.run.now c.refuse.new.run s c.cells_of.result c.in-Err.fault
    (λ h. cells_of c.args.arguments.now h c.args.block) c.args.run.now.heap _
    shows.heap c.in-Err.is c.cells_of.ensures refusing live shows) c.refuse.ensures
