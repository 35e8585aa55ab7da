-- What is behind a line is the end of the input.
use Rattle.std.proofs.Common.{◌∙◌, ap, ◌-◌, ◌≤◌, drop, length, arith}
use Rattle.std.proofs.lemmas.List.{take_rest, length-drop}
use Rattle.c_meaning.specs.Texts.{behind_line}
use Rattle.glib_model.proofs.LineLemmas.{line_end, end_in}
use Rattle.glib_model.proofs.outside.line_end.Goals as goal

pub overflow_sub-result : goal.overflow_sub-result
overflow_sub-result c =
    let same = ap length (c.behind_line.ensures ∙ ap behind_line (take_rest c.args.input.now c.args.at)) in
    let short : length (behind_line (drop c.args.at c.args.input.now)) ≤ length (drop c.args.at c.args.input.now) = (line_end (drop c.args.at c.args.input.now)).short in
    omega (arith, length-drop c.args.at c.args.input.now)

pub returns-clause-behind : goal.returns-clause-behind
returns-clause-behind c =
    let same = c.behind_line.ensures ∙ ap behind_line (take_rest c.args.input.now c.args.at) in
    ap (λ xs. drop (length c.args.input.now - length xs) c.args.input.now) same ∙ end_in c.args.input.now c.args.at (behind_line (drop c.args.at c.args.input.now)) c.requires (line_end (drop c.args.at c.args.input.now))
