-- The struct is made, and its pointer given.
use Rattle.c_library.proofs.CallLemmas.{slice_call}
use Rattle.c_library.proofs.outside.make_slice.Goals as goal

pub returns : goal.returns
returns c =
    slice_call c.args.argument c.args.cells.now c.args.run.now c.slice_made.new.self c.apply.new.self c.g_slice_new0.new.heap c.in_ok-answer.answer c.apply.result
    c.in_ok-answer.ensures c.in_ok-slice_made.ensures c.apply.ensures
