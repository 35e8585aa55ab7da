-- The line is made, and the place goes on.
use Rattle.c_library.proofs.CallLemmas.{line_call}
use Rattle.c_library.proofs.outside.read_line.Goals as goal

pub returns : goal.returns
returns c =
    line_call c.args.argument c.args.cells.now c.args.run.now c.apply.new.self c.vala_rt_read_line.new.heap c.vala_rt_read_line.new.at c.in_ok-answer.answer c.apply.result
    c.as_slice.result.now c.as_slice.ensures.value c.vala_rt_read_line.ensures.within c.in_ok-answer.ensures.line c.apply.ensures
