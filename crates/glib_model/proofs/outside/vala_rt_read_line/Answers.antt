-- The line is given, or null at the end.
use Rattle.std.proofs.Common.{◌∙◌, ap, drop, arith}
use Rattle.std.proofs.lemmas.List.{take_rest, length-drop}
use Rattle.c_meaning.specs.Texts.{before_zero, line_of}
use Rattle.glib_model.proofs.LineLemmas.{null_line, some_line}
use Rattle.glib_model.proofs.outside.vala_rt_read_line.Goals as goal

pub returns-then-start-input-clause-line : goal.returns-then-start-input-clause-line
returns-then-start-input-clause-line c =
    null_line (drop c.args.at.now c.args.input.now) c.args.args.now c.args.heap.now c.args.kinds.now c.value.result (let long = length-drop c.args.at.now c.args.input.now in omega arith) c.value.ensures

pub returns-clause-line : goal.returns-clause-line
returns-clause-line c =
    some_line (drop c.args.at.now c.args.input.now) (drop c.line_end.result c.args.input.now) c.before_zero.result.now c.args.args.now c.args.heap.now c.args.kinds.now c.give_text.new.heap c.give_text.result
    (omega (arith, length-drop c.args.at.now c.args.input.now)) c.line_end.ensures.behind (c.before_zero.ensures ∙ ap before_zero (c.line_of.ensures ∙ ap line_of (take_rest c.args.input.now c.args.at.now))) c.give_text.ensures
