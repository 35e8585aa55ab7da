-- An error is made, or its message is too long.
use Rattle.std.proofs.Common.{◌∙◌, ◌+◌, length, arith}
use Rattle.glib_model.proofs.ErrorLemmas.{error_long, error_filled, error_made}
use Rattle.glib_model.proofs.errors.give_error.Goals as goal

pub returns-then-message-ge-LENGTH_LIMIT : goal.returns-then-message-ge-LENGTH_LIMIT
returns-then-message-ge-LENGTH_LIMIT c = error_long c.args.heap.now c.args.domain c.args.code c.args.message.now c.quiet.result (omega arith) c.quiet.ensures

pub returns : goal.returns
returns c =
    let number = c.in-Ok.ensures.number in
    let of = c.as_slice.ensures.value ∙ c.in_ok-cells.ensures in
    let now = error_filled c.args.heap.now c.set_cells.new.self c.make.new.self c.args.domain c.args.code c.args.message.now c.in-Ok.block (length c.args.message.now + 4) c.as_slice.result.now (omega arith) number c.in-Ok.ensures.made of c.set_cells.ensures.stored in
    error_made c.args.heap.now c.set_cells.new.self c.args.domain c.args.code c.args.message.now c.in-Ok.block c.as_slice.result.now c.noted.result (omega arith) number of now c.noted.ensures
