-- The parts are read, and an error is made of them.
use Rattle.c_meaning.specs.BlockRows.{give_error}
use Rattle.glib_model.specs.Errors.{Parts, parts_of, seen_parts}
use Rattle.glib_model.proofs.ErrorLemmas.{message_along}
use Rattle.glib_model.proofs.ErrorRows.{run_ok, run_err}
use Rattle.glib_model.proofs.errors.copy_error.Goals as goal

pub returns-in-Ok : goal.returns-in-Ok
returns-in-Ok c =
    run_ok seen_parts (λ s. parts_of s c.args.block) (λ s (p : Parts). give_error s p.domain p.code p.message) c.parts_of.result c.args.heap.now c.give_error.new.heap c.give_error.result c.in-Ok.parts c.parts_of.ensures c.in-Ok.is
    (message_along c.give_error.result c.args.heap.now c.give_error.new.heap c.in-Ok.parts.domain c.in-Ok.parts.code c.as_slice.result.now c.in-Ok.parts.message.items c.as_slice.ensures.value c.give_error.ensures)

pub returns-in-Err : goal.returns-in-Err
returns-in-Err c = run_err seen_parts (λ s. parts_of s c.args.block) (λ s (p : Parts). give_error s p.domain p.code p.message) c.parts_of.result c.args.heap.now c.refused.result c.in-Err.fault c.parts_of.ensures c.in-Err.is c.refused.ensures
