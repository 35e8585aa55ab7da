-- What was answered so far stands in front of what the other arguments answer.
use Rattle.std.proofs.Common.{◌≡◌, drop}
use Rattle.c_code.specs.Machine.{cells_of}
use Rattle.c_evaluator.proofs.RowLaws.{behind}
use Rattle.c_evaluator.proofs.arguments.cells_of.Given as goal

abbrev pub invariant-loop-code : goal.invariant-loop-code
invariant-loop-code l = cells_of l.codes l.heap l.frame ≡ behind l.cells.items (cells_of (drop l.code-index l.codes) l.heap l.frame)
