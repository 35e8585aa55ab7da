-- The cells are the values of the call.
use Rattle.std.proofs.Common.{subst}
use Rattle.std.proofs.lemmas.Result.{on_ok_weaker}
use Rattle.c_code.specs.Machine.{call_cell}
use Rattle.c_run_state.specs.Shows.{Shows}
use Rattle.c_steps.proofs.calls.ask.Goals as goal

pub returns : goal.returns
returns c =
    on_ok_weaker c.call_cell.result (λ called env s live shows.
    subst (λ vs. Shows env c.call_cell.new.run (call_cell c.args.routines.now s vs c.args.cell)) c.in_ok-values.ensures (called env s live shows)) c.call_cell.ensures
